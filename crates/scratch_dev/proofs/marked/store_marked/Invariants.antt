use Rattle.std.proofs.Common.{◌≡◌, ◌≤◌, length, drop}
use Rattle.scratch_dev.specs.Rows.{IsStored, WentWell, faults_of, marked_block}
use Rattle.scratch_dev.proofs.marked.store_marked.Given as goal

abbrev pub invariant-loop-i : goal.invariant-loop-i
invariant-loop-i g l = record {
  len : length l.row-inside.slots.items ≡ length l.initial.row-inside.slots.items;
  earlier : WentWell (λ i. IsStored g.D.Slot (marked_block l.name l.version l.initial.buf i)) l.i l.initial.row-inside.slots.items l.row-inside.slots.items;
  later : drop l.i l.row-inside.slots.items ≡ drop l.i l.initial.row-inside.slots.items;
  never_falls : faults_of g.D.Slot l.initial.row-inside.slots.items ≤ faults_of g.D.Slot l.row-inside.slots.items;
  buffer : l.buf ≡ l.initial.buf;
}
