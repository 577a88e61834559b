use Rattle.std.proofs.Common.{◌≡◌, ◌+◌, ◌-◌, ◌<◌, ◌≤◌}
use Rattle.reservation_tree.specs.Tracker.{IsLive, depth_of, unused}
use Rattle.reservation_tree.specs.Tree.{charge_of, with_trackers}
use Rattle.reservation_tree.specs.Change.{fallen}
use Rattle.reservation_tree.proofs.tree.Tree.fall.Given as goal

abbrev pub invariant-way : goal.invariant-way
invariant-way l = record {
  live : IsLive l.self.trackers l.at;
  far : l.levels - l._level ≤ depth_of l.self.trackers l.at + 1;
  spare : l._level < l.levels → l.bytes ≤ unused (charge_of l.self) l.self.trackers l.at;
  rest : with_trackers (fallen l.levels l.bytes l.fn.t l.initial.self.trackers) l.initial.self ≡ with_trackers (fallen (l.levels - l._level) l.bytes l.at l.self.trackers) l.self;
}
