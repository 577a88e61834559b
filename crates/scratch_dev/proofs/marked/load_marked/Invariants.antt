use Rattle.std.proofs.Common.{◌≡◌, ◌≤◌, length, drop}
use Rattle.block_arena.specs.Memory.{block_of}
use Rattle.scratch_dev.specs.Rows.{IsLoadedUnder, WentWell, faults_of, mark_of}
use Rattle.scratch_dev.proofs.marked.load_marked.Given as goal

abbrev pub invariant-loop-i : goal.invariant-loop-i
invariant-loop-i g l = record {
  len : length l.row-inside.slots.items ≡ length l.initial.row-inside.slots.items;
  earlier : WentWell (λ i. IsLoadedUnder g.D.Slot (mark_of l.name l.version i) (block_of l.buf i)) l.i l.initial.row-inside.slots.items l.row-inside.slots.items;
  later : drop l.i l.row-inside.slots.items ≡ drop l.i l.initial.row-inside.slots.items;
  never_falls : faults_of g.D.Slot l.initial.row-inside.slots.items ≤ faults_of g.D.Slot l.row-inside.slots.items;
  blocks : l.buf.blocks ≡ l.initial.buf.blocks;
  block_len : l.buf.block_len ≡ l.initial.buf.block_len;
  bytes : length l.buf.bytes ≡ length l.initial.buf.bytes;
}
