-- A query in whose way nothing stands says the first refusal of its inputs, or memory was wanting.
use Rattle.std.proofs.Common.{◌≡◌, ◌≢◌, ◌∙◌, ◌⊎◌, ◌≤◌, ◌*◌, ℕ, List, Option, Some, None, IfSome, inl, inr, ap, sym, subst, refl, arith, length}
use Rattle.std.specs.Prelude.{IsSomeAnd}
use Rattle.std.specs.Option.{option_or}
use Rattle.reservation_tree.specs.declared.errors.PoolErr.{PoolErr}
use Rattle.reservation_tree.specs.declared.errors.PoolErr.TheVariants as pool
use Rattle.store_api.specs.Holdings.{Holdings}
use Rattle.query_plan.specs.declared.plan.Query.{Query}
use Rattle.query_plan.specs.declared.plan.Side.{Side}
use Rattle.query_plan.specs.declared.plan.Side.TheVariants.{Left, Right}
use Rattle.query_plan.specs.declared.plan.SidePlan.{SidePlan}
use Rattle.query_plan.specs.Sizes.{page_len}
use Rattle.query_run.specs.Both.{Told, both_told}
use Rattle.query_run.specs.Causes.{IsOfBytes, side_of}
use Rattle.query_run.specs.Completing.{Course, HasSaid, IsRefusedFirst, IsUnhindered, Refuses, right_refusal}
use Rattle.query_run.specs.Input.{IsAccepted, IsRefusalIn, most_bytes, refusal_in, refusal_of}
use Rattle.query_run.specs.Refused.{SaysOfRight, SaysOfSide, Source}
use Rattle.query_run.specs.Stopped.{IsRest, IsWantBelow, MayStop, StoppedQuery}
use Rattle.query_run.specs.Through.{need}
use Rattle.query_plan.specs.declared.outcome.QueryErr.{QueryErr}
use Rattle.query_plan.specs.declared.outcome.QueryErr.TheVariants as query

-- both are told where they are told together
left-told : (lefts rights : Option (List ℕ)) (both : Told) → both_told lefts rights ≡ Some both → lefts ≡ Some both.left
left-told None rights both is = absurd (cc)
left-told (Some l) None both is = absurd (cc)
left-told (Some l) (Some r) both is = let same : record { left = l; right = r } ≡ both = cc in ap (λ (t : Told). Some t.left) same

right-told : (lefts rights : Option (List ℕ)) (both : Told) → both_told lefts rights ≡ Some both → rights ≡ Some both.right
right-told None rights both is = absurd (cc)
right-told (Some l) None both is = absurd (cc)
right-told (Some l) (Some r) both is = let same : record { left = l; right = r } ≡ both = cc in ap (λ (t : Told). Some t.right) same

-- where the left input is refused, that is the first refusal; else the right one's is
first-some : {X : Type 0} (a b : Option X) (x y : X) → a ≡ Some x → option_or a b ≡ Some y → x ≡ y
first-some a b x y is first = let found : option_or (Some x) b ≡ Some y = rw is at first in cc

second-some : {X : Type 0} (a b : Option X) (x y : X) → a ≡ None → b ≡ Some x → option_or a b ≡ Some y → x ≡ y
second-some a b x y none is first = let found : option_or None (Some x) ≡ Some y = rw (none, is) at first in cc

-- bytes that fit are refused only for the refusal that is found
not-large : (plan : Query) (side : Side) (asked : SidePlan) (page : ℕ) (bytes : List ℕ) (said : QueryErr) → length bytes ≤ most_bytes
    → IsRefusalIn plan side asked page bytes said → refusal_in plan side asked page bytes ≡ Some said
not-large plan side asked page bytes said fits (inl is) = is
not-large plan side asked page bytes said fits (inr large) = let more = large.1 in absurd (omega (arith, more, fits))

module _ (plan : Query) (course : Course) where
  abbrev lefts : Source
  lefts = course.lefts

  abbrev rights : Source
  rights = course.rights

  abbrev start : Holdings
  start = course.start

  module _ (both : Told) (clear : IsUnhindered plan both course) where
    -- slots were not wanting
    abbrev most : Told → ℕ
    most told = need plan (page_len plan start.block_len) told * plan.page_blocks

    enough-of : (slots : Option ℕ) (blocks free : ℕ) → IsRest plan.page_blocks slots free → IsWantBelow (most both) slots (pool.ScratchFull blocks free)
        → IfSome slots (λ n. most both ≤ n) → ⊥
    enough-of None blocks free rest below enough = rest
    enough-of (Some n) blocks free rest below enough = omega (arith, below, enough)

    enough-slots : (blocks free : ℕ) → IsRest plan.page_blocks start.free_slots free
        → IfSome (both_told lefts.told rights.told) (λ told. IsWantBelow (most told) start.free_slots (pool.ScratchFull blocks free)) → ⊥
    enough-slots blocks free rest lacks =
        let here : IsWantBelow (most both) start.free_slots (pool.ScratchFull blocks free) =
        subst (λ (o : Option Told). IfSome o (λ told. IsWantBelow (most told) start.free_slots (pool.ScratchFull blocks free))) clear.told_is lacks in
        enough-of start.free_slots blocks free rest here clear.store.enough

    pub only_memory : (e : PoolErr) → StoppedQuery plan (both_told lefts.told rights.told) start course.old course.new e → e ≡ pool.Memory
    only_memory (pool.NoReservation tracker wanted room) stop = absurd stop.answered
    only_memory (pool.ScratchFull blocks free) stop = absurd (enough-slots blocks free stop.want.1 (stop.enough clear.store.tells))
    only_memory (pool.WriteFault entry) stop = let none = clear.store.failures in let more = stop.answered.rose in absurd (omega (arith, none, more))
    only_memory (pool.ReadFault entry) stop = let none = clear.store.failures in let more = stop.answered.rose in absurd (omega (arith, none, more))
    only_memory (pool.TooManyTrackers count) stop = absurd stop.answered
    only_memory pool.NamesSpent stop = let none = clear.store.names in let spent = stop.answered in absurd (cc)
    only_memory pool.Memory stop = refl
    only_memory (pool.Stale wanted found) stop = let none = clear.store.stale in let more = stop.answered.rose in absurd (omega (arith, none, more))

  module _ (why said : QueryErr) (first : IsRefusedFirst plan course why)
      (says : HasSaid plan course said) where
    abbrev page : ℕ
    page = page_len plan start.block_len

    abbrev clear : IsUnhindered plan first.both course
    clear = first.unhindered

    found-in : (side : Side) (asked : SidePlan) (input : Source) (bytes : List ℕ) → input.told ≡ Some bytes → length bytes ≤ most_bytes
        → SaysOfSide plan side asked page input said → IsOfBytes said
        → refusal_in plan side asked page bytes ≡ Some said
    found-in side asked input bytes told fits of-side of-bytes =
        not-large plan side asked page bytes said fits (subst (λ (o : Option (List ℕ)). IfSome o (λ bytes. IsRefusalIn plan side asked page bytes said)) told
        (of-side.refused of-bytes))

    left-first : side_of said ≢ Some Right → IsOfBytes said → said ≡ why
    left-first other of-bytes =
        first-some (refusal_of plan page first.both.left) (right_refusal plan.right plan page first.both.right) said why
        (found-in Left plan.left lefts first.both.left (left-told lefts.told rights.told first.both clear.told_is) first.left_fits
        (says.inputs.left other) of-bytes) first.refusal

    right-of : (o : Option SidePlan) → plan.right ≡ o → IsSomeAnd o (λ right. SaysOfRight plan right page lefts rights said) → IsOfBytes said → said ≡ why
    right-of None planned of-right of-bytes = absurd of-right
    right-of (Some right) planned of-right of-bytes =
        let accepted : IsAccepted plan page first.both.left =
        subst (λ (o : Option (List ℕ)). IfSome o (IsAccepted plan page)) (left-told lefts.told rights.told first.both clear.told_is) of-right.accepted in
        let found =
        found-in Right right rights first.both.right (right-told lefts.told rights.told first.both clear.told_is) first.right_fits of-right.says of-bytes in
        second-some (refusal_of plan page first.both.left) (right_refusal plan.right plan page first.both.right) said why accepted.whole
        (ap (λ (o : Option SidePlan). right_refusal o plan page first.both.right) planned ∙ found) first.refusal

    refusal-said : (side : Side) → side_of said ≡ Some side → IsOfBytes said → said ≡ why
    refusal-said Left is of-bytes = left-first (λ other. let same : Some Left ≡ Some Right = sym is ∙ other in absurd (cc)) of-bytes
    refusal-said Right is of-bytes = right-of plan.right refl (says.inputs.right is) of-bytes

    right-fault : (o : Option SidePlan) → IsSomeAnd o (λ right. SaysOfRight plan right page lefts rights said) → said ≡ query.SourceFault Right → ⊥
    right-fault None of-right is = of-right
    right-fault (Some right) of-right is = clear.rights_quiet (of-right.says.source_fault (Right, is))

    no-fault : (side : Side) → said ≡ query.SourceFault side → ⊥
    no-fault Left is =
        clear.lefts_quiet ((says.inputs.left (λ other. let same : Some Left ≡ Some Right = sym (ap side_of is) ∙ other in absurd (cc))).source_fault (Left, is))
    no-fault Right is = right-fault plan.right (says.inputs.right (ap side_of is)) is

    said-so : (e : QueryErr) → said ≡ e → (said ≡ why) ⊎ (said ≡ query.Pool pool.Memory)
    said-so (query.SourceFault side) is = absurd (no-fault side is)
    said-so (query.BadHeader side) is = inl (refusal-said side (ap side_of is) (subst IsOfBytes (sym is) tt))
    said-so (query.BadCsv side number) is = inl (refusal-said side (ap side_of is) (subst IsOfBytes (sym is) tt))
    said-so (query.BadField side number column) is = inl (refusal-said side (ap side_of is) (subst IsOfBytes (sym is) tt))
    said-so (query.TooLarge side) is = inl (refusal-said side (ap side_of is) (subst IsOfBytes (sym is) tt))
    said-so (query.RowTooLong side number bytes) is = inl (refusal-said side (ap side_of is) (subst IsOfBytes (sym is) tt))
    said-so query.SinkFault is = absurd (clear.sink_quiet (says.sink.fault is))
    said-so (query.Pool e) is =
        inr (is ∙ ap (λ (e : PoolErr). query.Pool e) (only_memory first.both clear e
        (subst (MayStop plan (both_told lefts.told rights.told) start course.old course.new) is says.pool)))

    pub refused_first : (said ≡ why) ⊎ (said ≡ query.Pool pool.Memory)
    refused_first = said-so said refl

pub refuses : Refuses
refuses plan course why said first says =
    refused_first plan course why said first says
