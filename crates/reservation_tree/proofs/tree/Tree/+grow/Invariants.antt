use Rattle.reservation_tree.specs.Tracker.{depth_of}
use Rattle.reservation_tree.proofs.tree.Tree.+grow.Given as goal

abbrev pub decreases-grow : goal.decreases-grow
decreases-grow l = depth_of l.self.now.trackers l.t
