use Rattle.std.proofs.Common.{◌≡◌, suc}
use Rattle.reservation_tree.specs.Tracker.{IsLive, depth_of}
use Rattle.reservation_tree.specs.Tree.{charge_of}
use Rattle.reservation_tree.specs.Change.{grown_refusal, grow_refusal}
use Rattle.reservation_tree.proofs.tree.Tree.check_growth.Given as goal

abbrev pub invariant-way : goal.invariant-way
invariant-way l = record {
  live : IsLive l.self.trackers l.at;
  rest : grow_refusal (charge_of l.self) l.fn.bytes l.fn.t l.self.trackers ≡ grown_refusal (charge_of l.self) l.self.trackers (suc (depth_of l.self.trackers l.at)) l.growth l.at;
}

abbrev pub decreases-way : goal.decreases-way
decreases-way l = depth_of l.self.trackers l.at
