use Rattle.std.proofs.Common.{◌≡◌, ◌+◌}
use Rattle.reservation_tree.specs.Tracker.{IsLive, depth_of}
use Rattle.reservation_tree.specs.Change.{meeting, ancestor_of}
use Rattle.reservation_tree.proofs.tree.Tree.ancestor.Given as goal

abbrev pub invariant-ways : goal.invariant-ways
invariant-ways l = record {
  first : IsLive l.self.trackers l.a;
  second : IsLive l.self.trackers l.b;
  rest : ancestor_of l.self.trackers l.fn.src l.fn.dst ≡ meeting l.self.trackers (depth_of l.self.trackers l.a + depth_of l.self.trackers l.b) l.a l.b;
}

abbrev pub decreases-ways : goal.decreases-ways
decreases-ways l = depth_of l.self.trackers l.a + depth_of l.self.trackers l.b
