use Rattle.std.proofs.Common.{◌≡◌, ℕ, vec_len}
use Rattle.std.specs.List.{All}
use Rattle.pool.specs.Passing.{IsPass, writers_out}
use Rattle.spill_top.specs.Beside.{Waits}
use Rattle.spill_top.proofs.writers.end_writers.Given as goal

abbrev pub invariant-loop-writers : goal.invariant-loop-writers
invariant-loop-writers g l = record {
  waits : Waits l.fn.pass l.pass;
  at : All (λ w. w.seat.spot.table ≡ l.fn.pass.table) l.writers.items;
  out : writers_out l.pass ≡ vec_len l.writers;
  is : (free : ℕ) × IsPass g.T.Opened.opening.slots free l.pass;
}

abbrev pub decreases-loop-writers : goal.decreases-loop-writers
decreases-loop-writers g l = vec_len l.writers
