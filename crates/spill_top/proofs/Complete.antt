-- A query in whose way nothing stands has its answer, or memory was wanting.
use Rattle.std.proofs.Common.{◌≡◌, ◌∙◌, ◌*◌, ◌<◌, inl, inr, ℕ, Bool, true, false, List, Option, Some, None, IfSome, refl, sym, ap, subst, arith}
use Rattle.std.specs.Option.{IsSomeAnd}
use Rattle.std.proofs.lemmas.Option.{none-some, same_Some}
use Rattle.reservation_tree.specs.declared.errors.PoolErr.TheVariants as pool
use Rattle.query_plan.specs.declared.plan.Query.{Query}
use Rattle.query_plan.specs.declared.plan.Side.{Side}
use Rattle.query_plan.specs.declared.plan.Side.TheVariants.{Left, Right}
use Rattle.query_plan.specs.declared.plan.SidePlan.{SidePlan}
use Rattle.query_run.specs.Both.{Told, both_told}
use Rattle.query_run.specs.Input.{IsAcceptedIn, IsRefusal, IsRefusalIn}
use Rattle.query_run.specs.Through.{need}
use Rattle.query_plan.specs.declared.outcome.QueryErr.{QueryErr}
use Rattle.query_plan.specs.declared.outcome.QueryErr.TheVariants as query
use Rattle.spill_top.specs.declared.ending.Ending.{Ending}
use Rattle.spill_top.specs.declared.ending.Ending.TheVariants.{Lines, Reservation, Stopped}
use Rattle.spill_top.specs.Running.{IsClear, IsComplete, IsEnding, IsRefusedOn, IsStopped, Met}
use Rattle.spill_top.specs.Sides.{both_on, if_told}

never-both : (plan : Query) (side : Side) (asked : SidePlan) (page : ℕ) (bytes : List ℕ) (why : QueryErr) → IsRefusalIn plan side asked page bytes why → IsAcceptedIn plan side asked page bytes → ⊥
never-both plan side asked page bytes why (inl refused) accepted = let whole = accepted.whole in none-some why (sym whole ∙ refused)
never-both plan side asked page bytes why (inr large) accepted = let fits = accepted.fits in let more = large.1 in omega (arith, fits, more)

-- both are told where they are together
each-told : (tell : Bool) (left right : Option (List ℕ)) (both : Told) → if_told tell (both_told left right) ≡ Some both → (left ≡ Some both.left) × (right ≡ Some both.right)
each-told true (Some left) (Some right) both is = let same = same_Some _ both is in (ap (λ (t : Told). Some t.left) same, ap (λ (t : Told). Some t.right) same)
each-told true (Some left) None both is = absurd (none-some both is)
each-told true None right both is = absurd (none-some both is)
each-told false left right both is = absurd (none-some both is)

module _ (plan : Query) (met : Met) (tell : Bool) (same : met.told ≡ if_told tell (both_on met.bytes)) (clear : IsClear plan met) where
  told : (met.bytes Left ≡ Some clear.both.left) × (met.bytes Right ≡ Some clear.both.right)
  told = each-told tell (met.bytes Left) (met.bytes Right) clear.both (sym same ∙ clear.told_is)

  never-left : (why : QueryErr) → IfSome (met.bytes Left) (λ left. IsRefusal plan met.page left why) → ⊥
  never-left why is = never-both plan Left plan.left met.page clear.both.left why (subst (λ (o : Option (List ℕ)). IfSome o (λ left. IsRefusal plan met.page left why)) told.0 is) (clear.accepted.left)

  never-right : (why : QueryErr) (right : Option SidePlan) → IfSome right (λ asked. IsAcceptedIn plan Right asked met.page clear.both.right) → IsSomeAnd right (λ asked. IfSome (met.bytes Right) (λ text. IsRefusalIn plan Right asked met.page text why)) → ⊥
  never-right why None accepted is = is
  never-right why (Some asked) accepted is =
      never-both plan Right asked met.page clear.both.right why (subst (λ (o : Option (List ℕ)). IfSome o (λ text. IsRefusalIn plan Right asked met.page text why)) told.1 is) accepted

  never-refused : (why : QueryErr) (side : Option Side) → IsSomeAnd side (IsRefusedOn plan met.page met.bytes why) → ⊥
  never-refused why None is = is
  never-refused why (Some Left) is = never-left why is
  never-refused why (Some Right) is = never-right why plan.right clear.accepted.right is.1

  stopped-complete : (why : QueryErr) → IsStopped plan met why → why ≡ query.Pool pool.Memory
  stopped-complete (query.SourceFault side) stopped = absurd (clear.read side (stopped.source_fault side refl))
  stopped-complete (query.BadHeader side) stopped = absurd (never-refused (query.BadHeader side) (Some side) (stopped.refused tt))
  stopped-complete (query.BadCsv side number) stopped = absurd (never-refused (query.BadCsv side number) (Some side) (stopped.refused tt))
  stopped-complete (query.BadField side number column) stopped = absurd (never-refused (query.BadField side number column) (Some side) (stopped.refused tt))
  stopped-complete (query.TooLarge side) stopped = absurd (never-refused (query.TooLarge side) (Some side) (stopped.refused tt))
  stopped-complete (query.RowTooLong side number long) stopped = absurd (never-refused (query.RowTooLong side number long) (Some side) (stopped.refused tt))
  stopped-complete query.SinkFault stopped = absurd (clear.written (stopped.sink_fault refl))
  stopped-complete (query.Pool (pool.NoReservation tracker wanted room)) stopped = absurd stopped.pool
  stopped-complete (query.Pool (pool.ScratchFull blocks free)) stopped =
      let lacks : plan.quota < need plan met.page clear.both * plan.page_blocks = subst (λ (o : Option Told). IfSome o (λ both. plan.quota < need plan met.page both * plan.page_blocks)) clear.told_is stopped.pool.1 in
      let has = clear.enough in
      absurd (omega (arith, lacks, has))
  stopped-complete (query.Pool (pool.WriteFault entry)) stopped = absurd (clear.stored stopped.pool)
  stopped-complete (query.Pool (pool.ReadFault entry)) stopped = absurd (clear.stored stopped.pool)
  stopped-complete (query.Pool (pool.TooManyTrackers count)) stopped = absurd stopped.pool
  stopped-complete (query.Pool pool.NamesSpent) stopped = absurd (clear.few stopped.pool)
  stopped-complete (query.Pool pool.Memory) stopped = refl
  stopped-complete (query.Pool (pool.Stale wanted found)) stopped = absurd stopped.pool

  pub complete : (ending : Ending) → IsEnding plan met ending → IsComplete ending
  complete (Lines lines) so = tt
  complete (Reservation root wanted room) so = absurd (none-some _ (sym clear.reserved ∙ so))
  complete (Stopped why) so = stopped-complete why so.1
