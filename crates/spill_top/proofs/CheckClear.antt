-- A check in whose way nothing stands has its answer, or memory was wanting.
use Rattle.std.proofs.Common.{◌≡◌, ◌∙◌, ◌*◌, ◌^◌, ◌<◌, ◌≤◌, ℕ, Bool, List, [], ◌∷◌, IfSome, filter, length, length-append, inl, inr, arith, refl, sym, subst}
use Rattle.std.specs.Prelude.{◌⊎◌}
use Rattle.std.proofs.lemmas.Bool.{cases_Bool}
use Rattle.std.proofs.lemmas.Option.{none-some}
use Rattle.outside.specs.Counts.{Rose}
use Rattle.reservation_tree.specs.declared.errors.PoolErr.{PoolErr}
use Rattle.reservation_tree.specs.declared.errors.PoolErr.TheVariants as pool
use Rattle.scan_filter.specs.Passes.{passes}
use Rattle.query_run.specs.Input.{left_rows, passing}
use Rattle.query_run.specs.Through.{need, rows_through}
use Rattle.query_plan.specs.declared.outcome.QueryErr.{QueryErr}
use Rattle.query_plan.specs.declared.outcome.QueryErr.TheVariants as query
use Rattle.spill_top.specs.declared.ending.Ending.{Ending}
use Rattle.spill_top.specs.declared.ending.Ending.TheVariants.{Lines, Reservation, Stopped}
use Rattle.spill_top.specs.declared.words.Check.{Check}
use Rattle.spill_top.specs.CheckPlan.{IsInRange, checking, table_if, table_of}
use Rattle.spill_top.specs.Checking.{HasNoAnswer, IsCheckClear, IsCheckStop, Output, TellsAnswer}
use Rattle.spill_top.specs.Endings.{status_of, status_of_error}
use Rattle.spill_top.specs.Headline.{page_bytes}
use Rattle.spill_top.specs.Pooled.{HaveFailed, IsPoolStop, all_tell}
use Rattle.spill_top.specs.Ran.{Telling}
use Rattle.spill_top.specs.Running.{Seen}
use Rattle.spill_top.proofs.TableAccepted.{table_long}

fewer : {X : Type 0} (test : X → Bool) (xs : List X) → length (filter test xs) ≤ length xs
fewer test [] = omega arith
fewer test (x ∷ xs) =
    let rest = fewer test xs in
    elim (cases_Bool (test x)) [ inl is ↦ rw is (omega (arith, rest)) | inr is ↦ rw is (omega (arith, rest)) ]

-- its rows are no more than those of the table, which are fewer than names of pages last for
few-rows : (check : Check) → IsInRange check → rows_through (checking check) (table_of check) < 2 ^ 55
few-rows check range =
    let bytes = (table_of check).left in
    let pass : length (passing (checking check) bytes) ≤ length (left_rows (checking check) bytes) = fewer (passes []) (left_rows (checking check) bytes) in
    let long : length (left_rows (checking check) bytes) ≡ check.rows = table_long check range in
    let most = range.rows in
    let sum = length-append (passing (checking check) bytes) [] in
    omega (arith, pass, long, most, sum)

-- a line of an answer that met no fault tells it whole, or found no memory
pub told_clear : (line : List ℕ) (before after : Telling) (status : ℕ) → (Rose before.faults.count after.faults.count → ⊥) → TellsAnswer line before after status → (status ≡ 0) ⊎ (status ≡ 10)
told_clear line before after status quiet (inl whole) = inl whole.0
told_clear line before after status quiet (inr (inl failed)) = absurd (quiet failed.2.0)
told_clear line before after status quiet (inr (inr missing)) = inr missing.0

module _ (check : Check) (range : IsInRange check) (quota : ℕ) (start now : Seen) (before after : Telling) (clear : IsCheckClear check quota start now before after) where
  has-table : IfSome (table_if (all_tell start.slots) check) (λ both. quota < need (checking check) page_bytes both * 1) → ⊥
  has-table lacks =
      let here : quota < need (checking check) page_bytes (table_of check) * 1 = subst (λ (tell : Bool). IfSome (table_if tell check) (λ both. quota < need (checking check) page_bytes both * 1)) clear.tell lacks in
      let enough = clear.enough in
      omega (arith, here, enough)

  has-names : IfSome (table_if (all_tell start.slots) check) (λ both. 2 ^ 55 ≤ rows_through (checking check) both) → ⊥
  has-names many =
      let here : 2 ^ 55 ≤ rows_through (checking check) (table_of check) = subst (λ (tell : Bool). IfSome (table_if tell check) (λ both. 2 ^ 55 ≤ rows_through (checking check) both)) clear.tell many in
      let few = few-rows check range in
      omega (arith, here, few)

  pool-clear : (e : PoolErr) → IsPoolStop (checking check) page_bytes (table_if (all_tell start.slots) check) quota (HaveFailed start.slots now.slots) e → e ≡ pool.Memory
  pool-clear (pool.NoReservation tracker wanted room) stop = absurd stop
  pool-clear (pool.ScratchFull blocks free) stop = absurd (has-table stop.1)
  pool-clear (pool.WriteFault entry) stop = absurd (clear.stored stop)
  pool-clear (pool.ReadFault entry) stop = absurd (clear.stored stop)
  pool-clear (pool.TooManyTrackers count) stop = absurd stop
  pool-clear pool.NamesSpent stop = absurd (has-names stop)
  pool-clear pool.Memory stop = refl
  pool-clear (pool.Stale wanted found) stop = absurd stop

  stop-clear : (why : QueryErr) (failed : Type 0) → (failed → ⊥) → IsCheckStop check (all_tell start.slots) quota (HaveFailed start.slots now.slots) failed why → status_of_error why ≡ 10
  stop-clear (query.SourceFault side) failed never stop = absurd stop
  stop-clear (query.BadHeader side) failed never stop = absurd stop
  stop-clear (query.BadCsv side number) failed never stop = absurd stop
  stop-clear (query.BadField side number column) failed never stop = absurd stop
  stop-clear (query.TooLarge side) failed never stop = absurd stop
  stop-clear (query.RowTooLong side number bytes) failed never stop = absurd stop
  stop-clear query.SinkFault failed never stop = absurd (never stop)
  stop-clear (query.Pool e) failed never stop = rw (pool-clear e stop) refl

  -- what ends without an answer found no memory
  pub none_clear : (ending : Ending) (was is : Output) (status : ℕ) → (Rose was.faults is.faults → ⊥) → HasNoAnswer check quota start.slots now.slots was is ending → status ≡ status_of ending → status ≡ 10
  none_clear (Lines lines) was is status quiet has ended = absurd has.why
  none_clear (Reservation root wanted room) was is status quiet has ended = absurd (none-some _ (sym clear.reserved ∙ has.why))
  none_clear (Stopped why) was is status quiet has ended = ended ∙ stop-clear why _ quiet has.why.1
