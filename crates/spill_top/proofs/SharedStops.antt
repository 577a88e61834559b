-- Why a pool stopped one of the queries that share it, as its slots tell it.
use Rattle.std.proofs.Common.{◌≡◌, ◌≤◌, ℕ, true, Option, Some, subst}
use Rattle.reservation_tree.specs.declared.errors.PoolErr.{PoolErr}
use Rattle.reservation_tree.specs.declared.errors.PoolErr.TheVariants as pool
use Rattle.pin_core.specs.Tallies.{Counted}
use Rattle.pin_core.specs.declared.tally.Tally.{Tally}
use Rattle.store_api.specs.Holdings.{Holdings}
use Rattle.store_api.specs.Signs.{Signs}
use Rattle.query_plan.specs.Sizes.{page_len}
use Rattle.query_plan.specs.declared.plan.Query.{Query}
use Rattle.query_run.specs.Both.{Told}
use Rattle.query_run.specs.Causes.{OfPool}
use Rattle.query_run.specs.Stopped.{IsWant}
use Rattle.spill_top.specs.Unmarked.{MayStopUnmarked, StoppedUnmarked}
use Rattle.query_plan.specs.declared.outcome.QueryErr.{QueryErr}
use Rattle.query_plan.specs.declared.outcome.QueryErr.TheVariants as query
use Rattle.spill_top.specs.Pooled.{HaveFailed, IsSharedStop, all_tell}
use Rattle.spill_top.specs.Sides.{if_told}
use Rattle.spill_top.proofs.Pools.{failed, if-tells, lacks-slots}

module _ (plan : Query) (page quota : ℕ) (told : Option Told) (names : Type 0) (start : Holdings) (old new : Signs) (failures blocks stale : ℕ) (before now : Tally) (counted : Counted failures blocks stale before now)
    (fails : new.failures ≤ failures) (free : start.free_slots ≡ Some quota) (paged : page_len plan start.block_len ≡ page) (tells : all_tell before ≡ true → start.told ≡ true) (spends : new.spent ≡ true → names) where
  stop : (e : PoolErr) → StoppedUnmarked plan told start old new e → IsSharedStop plan page (if_told (all_tell before) told) quota (HaveFailed before now) names e
  stop (pool.NoReservation tracker wanted room) stopped = absurd stopped.by_store.answered
  stop (pool.ScratchFull lacks left) stopped = (
    subst (λ (o : Option ℕ). IsWant plan.page_blocks o (pool.ScratchFull lacks left)) free stopped.by_store.want,
    if-tells (all_tell before) told _ (λ does. lacks-slots plan page quota told start lacks left free paged (stopped.by_store.enough (tells does))),
  )
  stop (pool.WriteFault entry) stopped = let answered = stopped.by_store.answered in failed old new failures blocks stale before now counted fails answered.rose
  stop (pool.ReadFault entry) stopped = let answered = stopped.by_store.answered in failed old new failures blocks stale before now counted fails answered.rose
  stop (pool.TooManyTrackers count) stopped = absurd stopped.by_store.answered
  stop pool.NamesSpent stopped = spends stopped.by_store.answered
  stop pool.Memory stopped = tt
  stop (pool.Stale wanted found) stopped = absurd stopped.unmarked

  pub shared_stop : (e : QueryErr) → MayStopUnmarked plan told start old new e → OfPool (IsSharedStop plan page (if_told (all_tell before) told) quota (HaveFailed before now) names) e
  shared_stop (query.SourceFault side) may = tt
  shared_stop (query.BadHeader side) may = tt
  shared_stop (query.BadCsv side number) may = tt
  shared_stop (query.BadField side number column) may = tt
  shared_stop (query.TooLarge side) may = tt
  shared_stop (query.RowTooLong side number bytes) may = tt
  shared_stop query.SinkFault may = tt
  shared_stop (query.Pool why) may = stop why may
