use Rattle.std.proofs.Common.{◌≡◌, ◌≤◌, vec_capacity, vec_len}
use Rattle.std.specs.List.{All}
use Rattle.spill_top.specs.Beside.{Begin}
use Rattle.spill_top.proofs.Writing.{HasNumbers}
use Rattle.spill_top.proofs.writers.begin_writers.Given as goal

abbrev pub invariant-loop-i : goal.invariant-loop-i
invariant-loop-i g l = record {
  begin : Begin l.i l.fn.pass l.pass;
  len : vec_len l.writers ≡ l.i;
  room : l.fn.count ≤ vec_capacity l.writers;
  at : All (λ w. w.seat.spot.table ≡ l.fn.pool) l.writers.items;
  numbers : HasNumbers l.i l.pass;
}
