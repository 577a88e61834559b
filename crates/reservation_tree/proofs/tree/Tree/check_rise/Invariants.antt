use Rattle.std.proofs.Common.{◌≡◌, ◌-◌}
use Rattle.reservation_tree.specs.Tracker.{IsLive}
use Rattle.reservation_tree.specs.Change.{risen_refusal}
use Rattle.reservation_tree.proofs.tree.Tree.check_rise.Given as goal

abbrev pub invariant-way : goal.invariant-way
invariant-way l = record {
  live : IsLive l.self.trackers l.at;
  rest : risen_refusal l.levels l.bytes l.fn.t l.self.trackers ≡ risen_refusal (l.levels - l._level) l.bytes l.at l.self.trackers;
}
