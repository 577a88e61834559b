use Rattle.std.proofs.Common.{◌≡◌, ◌≤◌, ◌-◌, length}
use Rattle.std.specs.Io.KnownBytes.{Consumes}
use Rattle.spill_top.proofs.plan_file.read_all.Given as goal

abbrev pub invariant-loop-buf : goal.invariant-loop-buf
invariant-loop-buf g l = record {
  taken : Consumes (g.S.Source.remaining l.initial.source) (g.S.Source.remaining l.source) l.text.items;
  never_falls : g.S.Source.faults l.initial.source ≤ g.S.Source.faults l.source;
  room : length l.buf ≡ 4096;
}

abbrev pub decreases-loop-buf : goal.decreases-loop-buf
decreases-loop-buf g l = 1048577 - length l.text.items
