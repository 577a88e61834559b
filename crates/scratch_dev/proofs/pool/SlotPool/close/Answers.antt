use Rattle.std.proofs.Common.{◌≡◌, ℕ, arith, slice_index_or}
use Rattle.std.specs.Prelude.{None}
use Rattle.std.specs.List.{sum_by}
use Rattle.scratch_dev.specs.Pool.{free_in}
use Rattle.scratch_dev.proofs.Quotas.{none_free}
use Rattle.scratch_dev.proofs.pool.SlotPool.close.Goals as goal

pub returns-clause-count : goal.returns-clause-count
returns-clause-count g c =
    let closed : (q : ℕ) → slice_index_or c.self.inside.quotas.items q None ≡ None = rw (← c.self.view_is) at c.requires in
    let none : sum_by free_in c.self.inside.quotas.items ≡ 0 = none_free c.self.inside.quotas.items closed in
    rw (← c.self.view_is) (omega (arith, none, c.into_vec.ensures.len, c.self.invariant.counted))
