-- Want of slots of a join, by the rows that were fed.
use Rattle.std.proofs.Common.{◌≡◌, ◌∙◌, ◌+◌, ◌-◌, ◌*◌, ◌<◌, ◌≤◌, ◌++◌, ℕ, List, [], Option, Some, None, IfSome, Result, Ok, Err, IfErr, inl, inr, ℤ, filter, length, replicate, refl, ap, sym, subst, arith, mul-le-mul_right}
use Rattle.std.specs.List.{sum_by}
use Rattle.std.proofs.lemmas.List.{length-append}
use Rattle.std.proofs.lemmas.List.Sums.{sum_by-append}
use Rattle.pool_model.specs.declared.entry.Entry.{Entry}
use Rattle.reservation_tree.specs.declared.errors.PoolErr.{PoolErr}
use Rattle.row_codec.specs.declared.values.Value.{Value}
use Rattle.row_codec.specs.RowBytes.{row_bytes}
use Rattle.scan_filter.specs.Passes.{passes}
use Rattle.store_api.specs.Holdings.{Holdings}
use Rattle.store_api.specs.Signs.{Signs}
use Rattle.partition_stack.proofs.Scratch.{most_more}
use Rattle.partition_stack.proofs.Slots.{more_taken}
use Rattle.partition_stack.specs.Slots.{IsWantBelow, IsWantBelowOf, most_pages, with_more}
use Rattle.partition_stack.specs.Stack.{empty}
use Rattle.join_op.specs.Operator.{Keeps, Operator, bytes_of, page_of, slots_for, started}
use Rattle.store_api.specs.Tokens.{ClientToken}
use Rattle.store_api.specs.declared.op_err.OpErr.{OpErr}
use Rattle.store_api.specs.declared.op_err.OpErr.TheVariants as op
use Rattle.store_api.specs.declared.shapes.JoinShape.{JoinShape}
use Rattle.query_plan.specs.Sizes.{page_len}
use Rattle.query_plan.specs.declared.plan.Query.{Query}
use Rattle.query_plan.specs.declared.plan.Side.TheVariants.{Left}
use Rattle.query_plan.specs.declared.plan.SidePlan.{SidePlan}
use Rattle.outside.specs.Faults.{Faults}
use Rattle.query_run.specs.Both.{Told, both_told}
use Rattle.query_run.specs.Causes.{OfPool}
use Rattle.query_run.specs.Ending.{IsEndedBy, cause_of_handed}
use Rattle.query_run.specs.Feeding.{AreFirstOf, HasFed, OfTaken}
use Rattle.query_run.specs.Input.{weight_of}
use Rattle.query_run.specs.Joined.{HasFedBoth}
use Rattle.query_run.specs.Taking.{JoinGoes, LeftFeeds, LeftWants, RightWants, join_slots}
use Rattle.query_run.specs.Through.{count_taken, lefts_taken, need, rights_taken, weight_taken}
use Rattle.query_run.specs.Writing.{Begun, HasTaken, written}
use Rattle.query_run.specs.declared.feeding.Fed.{Fed}
use Rattle.query_plan.specs.declared.outcome.QueryErr.{QueryErr}
use Rattle.query_run.proofs.Accepted.{lefts_whole, rights_here, rights_whole, told_of}
use Rattle.query_run.proofs.Around.{no_more_slots}
use Rattle.query_run.proofs.Fronts.{first_few}
use Rattle.query_run.proofs.Made.{want_before}
use Rattle.query_run.proofs.Sides.{both_are}
use Rattle.query_run.proofs.Wants.{div_more, sum_more, want_more}
use Rattle.query_run.proofs.Weighing.{weighs_more}

-- the first ones of some rows have no more bytes
first_light : (rows all : List (List Value)) → AreFirstOf rows all → bytes_of rows ≤ bytes_of all
first_light rows all first =
    let same : bytes_of all ≡ bytes_of (rows ++ first.0) = ap bytes_of first.1 in
    let sum : bytes_of (rows ++ first.0) ≡ bytes_of rows + bytes_of first.0 = sum_by-append (λ (row : List Value). length (row_bytes row)) rows first.0 in
    omega (arith, same, sum)

-- fewer rows need no more slots
slots_fewer : (op : Operator) (h : Holdings) → 0 < page_of op h → (ls rs lefts rights : List (List Value)) → length ls + length rs ≤ length lefts + length rights → bytes_of ls + bytes_of rs ≤ bytes_of lefts + bytes_of rights
    → slots_for op h ls rs ≤ slots_for op h lefts rights
slots_fewer op h long ls rs lefts rights few light =
    let most = most_more (page_of op h) 546 (length ls + length rs) (bytes_of ls + bytes_of rs) (length lefts + length rights) (bytes_of lefts + bytes_of rights) long few light in
    mul-le-mul_right op.left.page_blocks
    (let next : most_pages (page_of op h) 546 (length ls + length rs) (bytes_of ls + bytes_of rs) + 1 ≤ most_pages (page_of op h) 546 (length lefts + length rights) (bytes_of lefts + bytes_of rights) + 1 = omega (arith, most) in next)

-- while left rows are fed
pub left_below : (plan : Query) (page : ℕ) (lefts rights : Option (List ℕ)) (op : Operator) (h : Holdings) (s : Signs) (start : Option (List Entry))
    → (e : PoolErr) → 0 < page_of op h → Keeps start [] [] op h s
    → OfTaken plan plan.left page lefts (λ rows. LeftWants op rows h s e)
    → IfSome (both_told lefts rights) (λ both. IsWantBelow (slots_for op h (lefts_taken plan page both) (rights_taken plan page both)) (join_slots op h s) e)
left_below plan page None rights op h s start e long keeps taken = tt
left_below plan page (Some l) None op h s start e long keeps taken = tt
left_below plan page (Some l) (Some r) op h s start e long keeps taken =
    let ls = lefts_taken plan page (told_of l r) in
    let rs = rights_taken plan page (told_of l r) in
    let few = first_few taken.rows ls taken.first in
    let light = first_light taken.rows ls taken.first in
    let none : bytes_of [] ≡ 0 = refl in
    want_more (slots_for op h taken.rows []) (slots_for op h ls rs) (join_slots op h s) e
    (slots_fewer op h long taken.rows [] ls rs (omega (arith, few)) (omega (arith, light, none))) (taken.so start [] keeps)

-- and while right ones are
pub right_below : (plan : Query) (asked : SidePlan) (page : ℕ) (lefts rights : Option (List ℕ)) (fed : Fed) (a b : Operator) (h0 h1 : Holdings) (s0 s1 : Signs)
    → (start : Option (List Entry)) (e : PoolErr) → plan.right ≡ Some asked → 0 < page_of a h0
    → Keeps start [] [] a h0 s0 → JoinGoes a b h0 h1 s0 s1 → HasFed plan Left plan.left page lefts fed (λ rows. LeftFeeds a b rows h0 h1 s0 s1)
    → OfTaken plan asked page rights (λ rows. RightWants b rows h1 s1 e)
    → IfSome (both_told lefts rights) (λ both. IsWantBelow (slots_for a h0 (lefts_taken plan page both) (rights_taken plan page both)) (join_slots a h0 s0) e)
right_below plan asked page None rights fed a b h0 h1 s0 s1 start e planned long keeps goes has taken = tt
right_below plan asked page (Some l) None fed a b h0 h1 s0 s1 start e planned long keeps goes has taken = tt
right_below plan asked page (Some l) (Some r) fed a b h0 h1 s0 s1 start e planned long keeps goes has taken =
    let rs = rights_taken plan page (told_of l r) in
    let here : AreFirstOf taken.rows rs = subst (AreFirstOf taken.rows) (sym (rights_here plan page l r has.are.0 asked planned)) taken.first in
    let few = first_few taken.rows rs here in
    let light = first_light taken.rows rs here in
    let ls = filter (passes plan.left.preds) has.rows in
    let same : ls ≡ lefts_taken plan page (told_of l r) = ap (filter (passes plan.left.preds)) has.are.1 ∙ sym (lefts_whole plan page l r has.are.0) in
    let many = ap length same in
    let heavy = ap bytes_of same in
    want_more (slots_for a h0 ls taken.rows) (slots_for a h0 (lefts_taken plan page (told_of l r)) rs) (join_slots a h0 s0) e
    (slots_fewer a h0 long ls taken.rows (lefts_taken plan page (told_of l r)) rs (omega (arith, few, many)) (omega (arith, light, heavy)))
    (want_before a b h0 h1 s0 s1 ls taken.rows e goes (taken.so start ls [] (has.came start [] keeps)))

-- both inputs are accepted, and their rows were fed
pub both_taken_are : (plan : Query) (asked : SidePlan) (page : ℕ) (l r : List ℕ) (left_fed right_fed : Fed)
    → (keeps : List (List Value) → List (List Value) → Type 0) → plan.right ≡ Some asked
    → (has : HasFedBoth plan asked page (Some l) (Some r) left_fed right_fed keeps)
    → (has.lefts ≡ lefts_taken plan page (told_of l r)) × (has.rights ≡ rights_taken plan page (told_of l r))
both_taken_are plan asked page l r left_fed right_fed keeps planned has =
    let are = both_are plan asked page l r left_fed right_fed keeps has in
    let left = has.lefts_fed.are.0 in
    (are.0 ∙ sym (lefts_whole plan page l r left), are.1 ∙ sym (rights_whole plan page l r left asked planned has.rights_fed.are.0))

-- while pairs are handed on
pub pairs_below : (plan : Query) (asked : SidePlan) (page : ℕ) (lefts rights : Option (List ℕ)) (left_fed right_fed : Fed)
    → (keeps : List (List Value) → List (List Value) → Type 0) → plan.right ≡ Some asked
    → (has : HasFedBoth plan asked page lefts rights left_fed right_fed keeps) (a b : Operator) (h0 h1 : Holdings) (s0 s1 : Signs) (e : PoolErr)
    → JoinGoes a b h0 h1 s0 s1 → IsWantBelow (slots_for b h1 has.lefts has.rights) (join_slots b h1 s1) e
    → IfSome (both_told lefts rights) (λ both. IsWantBelow (slots_for a h0 (lefts_taken plan page both) (rights_taken plan page both)) (join_slots a h0 s0) e)
pairs_below plan asked page None rights left_fed right_fed keeps planned has a b h0 h1 s0 s1 e goes below = tt
pairs_below plan asked page (Some l) None left_fed right_fed keeps planned has a b h0 h1 s0 s1 e goes below = tt
pairs_below plan asked page (Some l) (Some r) left_fed right_fed keeps planned has a b h0 h1 s0 s1 e goes below =
    let are = both_taken_are plan asked page l r left_fed right_fed keeps planned has in
    subst (λ (ls : List (List Value)). IsWantBelow (slots_for a h0 ls (rights_taken plan page (told_of l r))) (join_slots a h0 s0) e) are.0
    (subst (λ (rs : List (List Value)). IsWantBelow (slots_for a h0 has.lefts rs) (join_slots a h0 s0) e) are.1 (want_before a b h0 h1 s0 s1 has.lefts has.rights e goes below))

-- the emitter of lines takes no slots
pub wants_alone : (most : ℕ) (total : Option ℕ) (e : OpErr) → IsWantBelowOf (most + 0) (with_more 0 total) e → IsWantBelowOf most total e
wants_alone most total e want = subst (λ (n : ℕ). IsWantBelowOf n total e) (let same : most + 0 ≡ most = omega arith in same) (subst (λ (o : Option ℕ). IsWantBelowOf (most + 0) o e) (no_more_slots 0 refl total) want)

-- what ended the lines of an answer wants slots only where its join does
module _ (keeps : Option (List Entry) → List (List Value) → List (List Value) → Type 0) (tells : Type 0) (most : List (List Value) → List (List Value) → ℕ) (total : Option ℕ) where
  abbrev Wants : PoolErr → Type 0
  Wants why = (start : Option (List Entry)) (lefts rights : List (List Value)) → keeps start lefts rights → tells → IsWantBelow (most lefts rights) total why

  pub ended_pairs : (before : Begun) (rows : List (List Value)) (contents : Option (List ℕ)) (faults : Faults) (stopped : Option QueryErr) (waits : List ℕ) (count : ℕ) (totals : List ℤ) (handed : Result Unit OpErr) (e : QueryErr)
      → IfErr handed (λ why. (start : Option (List Entry)) (lefts rights : List (List Value)) → keeps start lefts rights → tells → IsWantBelowOf (most lefts rights) total why) → HasTaken before rows (written contents faults stopped waits count totals) → IsEndedBy stopped handed e → OfPool Wants e
  ended_pairs before rows contents faults None waits count totals (Ok done) e wants taken ended = absurd ended
  ended_pairs before rows contents faults None waits count totals (Err (op.Pool why)) e wants taken ended = subst (OfPool Wants) (sym ended) wants
  ended_pairs before rows contents faults None waits count totals (Err op.Sink) e wants taken ended = subst (OfPool Wants) (sym ended) tt
  ended_pairs before rows contents faults (Some why) waits count totals handed e wants taken ended = subst (OfPool Wants) (sym ended) (elim taken.sent.3 [
    | inl sink ↦ subst (OfPool Wants) (sym sink) tt
    | inr memory ↦ subst (OfPool Wants) (sym memory) (λ start lefts rights kept told. tt)
  ])

  -- so it is of what ended pairs that were handed on
  pub handed_pairs : (handed : Result Unit OpErr) (e : QueryErr) → IfErr handed (λ why. (start : Option (List Entry)) (lefts rights : List (List Value)) → keeps start lefts rights → tells → IsWantBelowOf (most lefts rights) total why) → e ≡ cause_of_handed handed → OfPool Wants e
  handed_pairs (Ok done) e wants is = subst (OfPool Wants) (sym is) (λ start lefts rights kept told. tt)
  handed_pairs (Err (op.Pool why)) e wants is = subst (OfPool Wants) (sym is) wants
  handed_pairs (Err op.Sink) e wants is = subst (OfPool Wants) (sym is) tt

-- ---- by what a query needs

-- rows weigh at least their bytes
pub weigh_both : (plan : Query) (lefts rights : List (List Value)) → bytes_of lefts + bytes_of rights ≤ sum_by (weight_of plan) (lefts ++ rights)
weigh_both plan lefts rights =
    let all = sum_by-append (weight_of plan) lefts rights in
    let one = sum_more (λ row. length (row_bytes row)) (weight_of plan) lefts (λ row. let w = weighs_more plan row in omega (arith, w)) in
    let two = sum_more (λ row. length (row_bytes row)) (weight_of plan) rights (λ row. let w = weighs_more plan row in omega (arith, w)) in
    omega (arith, all, one, two)

-- a join's pages and one more are no more than it needs
need_join : (plan : Query) (page : ℕ) (told : Told) → 0 < page
    → most_pages page 546 (length (lefts_taken plan page told) + length (rights_taken plan page told))
    (bytes_of (lefts_taken plan page told) + bytes_of (rights_taken plan page told)) + 1 ≤ need plan page told
need_join plan page told long =
    let lefts = lefts_taken plan page told in
    let rights = rights_taken plan page told in
    let many = length-append lefts rights in
    let weigh = weigh_both plan lefts rights in
    let light : bytes_of lefts + bytes_of rights ≤ weight_taken plan page told = omega (arith, weigh) in
    let pages = div_more (2 * (bytes_of lefts + bytes_of rights)) (2 * weight_taken plan page told + page - 1) page long (omega (arith, light, long)) in
    let count : length lefts + length rights + 1 ≤ count_taken plan page told + 16 = omega (arith, many) in
    omega (arith, pages, count)

-- a join of which nothing was called has no slots
pub none_joined : (c : ClientToken) (blocks : ℕ) (shape : JoinShape) (h : Holdings) (signs : Signs) → join_slots (started c blocks shape) h signs ≡ h.free_slots
none_joined c blocks shape h signs = no_more_slots _ (more_taken (replicate 16 (empty blocks)) blocks 16 h ∙ more_taken [] blocks 16 h) h.free_slots

pub join_wants : (plan : Query) (page : ℕ) (lefts rights : Option (List ℕ)) (op : Operator) (h0 h1 : Holdings) (s1 : Signs) (e : PoolErr)
    → op.left.page_blocks ≡ plan.page_blocks → h1.block_len ≡ h0.block_len → page ≡ page_len plan h0.block_len
    → 0 < page_len plan h0.block_len → join_slots op h1 s1 ≡ h0.free_slots
    → IfSome (both_told lefts rights) (λ both. IsWantBelow (slots_for op h1 (lefts_taken plan page both) (rights_taken plan page both)) (join_slots op h1 s1) e)
    → IfSome (both_told lefts rights) (λ both. IsWantBelow (need plan (page_len plan h0.block_len) both * plan.page_blocks) h0.free_slots e)
join_wants plan page None rights op h0 h1 s1 e blocks len is long total wants = tt
join_wants plan page (Some l) None op h0 h1 s1 e blocks len is long total wants = tt
join_wants plan page (Some l) (Some r) op h0 h1 s1 e blocks len is long total wants =
    let both = told_of l r in
    let page_is = page_len plan h0.block_len in
    let lefts = lefts_taken plan page_is both in
    let rights = rights_taken plan page_is both in
    let same : IsWantBelow (slots_for op h1 lefts rights) (join_slots op h1 s1) e =
    subst (λ (n : ℕ). IsWantBelow (slots_for op h1 (lefts_taken plan n both) (rights_taken plan n both)) (join_slots op h1 s1) e) is wants in
    let here : slots_for op h1 lefts rights ≡ (most_pages page_is 546 (length lefts + length rights) (bytes_of lefts + bytes_of rights) + 1) * plan.page_blocks =
    rw (blocks, len) refl in
    let most : slots_for op h1 lefts rights ≤ need plan page_is both * plan.page_blocks =
    subst (λ (n : ℕ). n ≤ need plan page_is both * plan.page_blocks) (sym here) (mul-le-mul_right plan.page_blocks (need_join plan page_is both long)) in
    want_more (slots_for op h1 lefts rights) (need plan page_is both * plan.page_blocks) h0.free_slots e most
    (subst (λ (n : Option ℕ). IsWantBelow (slots_for op h1 lefts rights) n e) total same)
