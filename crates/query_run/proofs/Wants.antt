-- Want of slots, by the rows that were fed.
use Rattle.std.proofs.Common.{◌≡◌, ◌∙◌, ◌+◌, ◌-◌, ◌*◌, ◌/◌, ◌^◌, rules, ◌<◌, ◌≤◌, ◌++◌, ◌∷◌, ℕ, zero, suc, List, [], Option, Some, None, IfSome, Result, Ok, Err, IfErr, inl, inr, ℤ, length, min, refl, ap, sym, subst, arith, le_trans, mul-le-mul_right, mul-pos, div-mul-le_self}
use Rattle.std.specs.List.{sum_by}
use Rattle.std.proofs.lemmas.List.{length-append}
use Rattle.std.proofs.lemmas.List.Sums.{sum_by-append, sum_by-cons}
use Rattle.std.proofs.lemmas.Nat.{le-div}
use Rattle.pool_model.specs.declared.entry.Entry.{Entry}
use Rattle.reservation_tree.specs.declared.errors.PoolErr.{PoolErr}
use Rattle.reservation_tree.specs.declared.errors.PoolErr.TheVariants.{NoReservation, ScratchFull, WriteFault, ReadFault, TooManyTrackers, NamesSpent, Memory, Stale}
use Rattle.row_codec.specs.declared.values.Value.{Value}
use Rattle.row_codec.specs.RowBytes.{row_bytes}
use Rattle.store_api.specs.Conditions.{IsBlockCount}
use Rattle.store_api.specs.Holdings.{Holdings}
use Rattle.store_api.specs.Signs.{Signs}
use Rattle.tuple_stream.specs.Families.{slots_in}
use Rattle.store_api.specs.declared.op_err.OpErr.{OpErr}
use Rattle.store_api.specs.declared.op_err.OpErr.TheVariants as op
use Rattle.partition_stack.specs.Slots.{IsWantBelow, IsWantBelowOf}
use Rattle.partition_stack.specs.Stack.{over}
use Rattle.group_op.specs.Operator.{Keeps, Operator, bytes_for, page_of, slots_for}
use Rattle.query_plan.specs.Sizes.{page_len}
use Rattle.query_plan.specs.declared.plan.Query.{Query}
use Rattle.query_plan.specs.declared.plan.Side.TheVariants.{Left}
use Rattle.outside.specs.Faults.{Faults}
use Rattle.query_run.specs.Both.{Told, both_told}
use Rattle.query_run.specs.Causes.{OfPool}
use Rattle.query_run.specs.Ending.{IsEndedBy}
use Rattle.query_run.specs.Feeding.{OfTaken}
use Rattle.query_run.specs.Input.{IsAccepted, passing, weight_of}
use Rattle.query_run.specs.Plans.{shape_of}
use Rattle.query_run.specs.Taking.{GroupGoes, GroupWants}
use Rattle.query_run.specs.Through.{count_taken, lefts_taken, need, rights_taken, taken_in, weight_taken}
use Rattle.query_run.specs.Writing.{Begun, HasTaken, written}
use Rattle.query_plan.specs.declared.outcome.QueryErr.{QueryErr}
use Rattle.query_run.proofs.Accepted.{all_taken}
use Rattle.query_run.proofs.Made.{slots_same}
use Rattle.query_run.proofs.Weighing.{weighs_more}

-- fewer than these are fewer than more
pub want_more : (m n : ℕ) (total : Option ℕ) (e : PoolErr) → m ≤ n → IsWantBelow m total e → IsWantBelow n total e
want_more m n None (ScratchFull needs free) more below = tt
want_more m n (Some k) (ScratchFull needs free) more below = omega (arith, more, below)
want_more m n total (NoReservation tracker wanted room) more below = tt
want_more m n total (WriteFault entry) more below = tt
want_more m n total (ReadFault entry) more below = tt
want_more m n total (TooManyTrackers count) more below = tt
want_more m n total NamesSpent more below = tt
want_more m n total Memory more below = tt
want_more m n total (Stale wanted found) more below = tt

pub div_more : (a b k : ℕ) → 0 < k → a ≤ b → a / k ≤ b / k
div_more a b k some less = le-div (a / k) b k some (le_trans (div-mul-le_self a k) less)

min_more : (a b c d : ℕ) → a ≤ c → b ≤ d → min a b ≤ min c d
min_more a b c d first next = omega (arith, first, next)

pub sum_more : (f g : List Value → ℕ) (rows : List (List Value)) → ((row : List Value) → f row ≤ g row) → sum_by f rows ≤ sum_by g rows
sum_more f g [] less = omega arith
sum_more f g (row ∷ rows) less =
    let one = less row in
    let rest = sum_more f g rows less in
    let left : sum_by f (row ∷ rows) ≡ f row + sum_by f rows = sum_by-cons f row rows in
    let right : sum_by g (row ∷ rows) ≡ g row + sum_by g rows = sum_by-cons g row rows in
    omega (arith, one, rest, left, right)

-- the first ones of some rows need no more slots than all of them
slots_more : (op : Operator) (h : Holdings) (some all rest : List (List Value)) → 0 < page_of op h → all ≡ some ++ rest → slots_for 16 op h some ≤ slots_for 544 op h all
slots_more op h some all rest long are =
    let many : length all ≡ length some + length rest = ap length are ∙ length-append some rest in
    let weigh : bytes_for op.shape all ≡ bytes_for op.shape some + bytes_for op.shape rest =
    ap (bytes_for op.shape) are ∙ sum_by-append (λ (row : List Value). length (row_bytes row) + 16 * length op.shape.aggs) some rest in
    let pages = div_more (2 * bytes_for op.shape some) (2 * bytes_for op.shape all) (page_of op h) long (omega (arith, weigh)) in
    let most = min_more (length some) (2 * bytes_for op.shape some / page_of op h + 16) (length all) (2 * bytes_for op.shape all / page_of op h + 544) (omega (arith, many)) (omega (arith, pages)) in
    mul-le-mul_right op.parts.page_blocks (let e : min (length some) (2 * bytes_for op.shape some / page_of op h + 16) + 1 ≤ min (length all) (2 * bytes_for op.shape all / page_of op h + 544) + 1 = omega (arith, most) in e)

-- while rows are fed
pub front_wants : (plan : Query) (page : ℕ) (told : Option (List ℕ)) (op : Operator) (h : Holdings) (s : Signs) (start : Option (List Entry)) (e : PoolErr)
    → 0 < page_of op h → Keeps start [] op h s
    → OfTaken plan plan.left page told (λ rows. GroupWants op rows h s e)
    → IfSome told (λ bytes. IsWantBelow (slots_for 544 op h (taken_in plan plan.left page bytes)) (slots_in (over op.parts h s)) e)
front_wants plan page None op h s start e long keeps taken = tt
front_wants plan page (Some bytes) op h s start e long keeps taken =
    let all = taken_in plan plan.left page bytes in
    want_more (slots_for 16 op h taken.rows) (slots_for 544 op h all) (slots_in (over op.parts h s)) e
    (slots_more op h taken.rows all taken.first.0 long taken.first.1) (taken.so start [] keeps)

-- while groups are handed on
pub whole_wants : (plan : Query) (page : ℕ) (told : Option (List ℕ)) (fed : List (List Value)) (a b : Operator) (h0 h1 : Holdings) (s0 s1 : Signs) (e : PoolErr) → GroupGoes a b h0 h1 s0 s1
    → IfSome told (λ bytes. IsAccepted plan page bytes × (fed ≡ passing plan bytes)) → IsWantBelow (slots_for 544 b h1 fed) (slots_in (over b.parts h1 s1)) e
    → IfSome told (λ bytes. IsWantBelow (slots_for 544 a h0 (taken_in plan plan.left page bytes)) (slots_in (over a.parts h0 s0)) e)
whole_wants plan page None fed a b h0 h1 s0 s1 e goes are below = tt
whole_wants plan page (Some bytes) fed a b h0 h1 s0 s1 e goes are below =
    let all = taken_in plan plan.left page bytes in
    let is : fed ≡ all = are.1 ∙ sym (all_taken plan Left plan.left page bytes are.0) in
    let same : IsWantBelow (slots_for 544 b h1 all) (slots_in (over b.parts h1 s1)) e =
    subst (λ (rows : List (List Value)). IsWantBelow (slots_for 544 b h1 rows) (slots_in (over b.parts h1 s1)) e) is below in
    let most : IsWantBelow (slots_for 544 a h0 all) (slots_in (over b.parts h1 s1)) e = subst (λ (n : ℕ). IsWantBelow n (slots_in (over b.parts h1 s1)) e) (slots_same a b h0 h1 s0 s1 544 all goes) same in
    subst (λ (n : Option ℕ). IsWantBelow (slots_for 544 a h0 all) n e) goes.went.slots most

-- what ended the lines of an answer wants slots only where its grouping does
module _ (holds : List (List Value) → Type 0) (tells : Type 0) (most : List (List Value) → ℕ) (total : Option ℕ) where
  abbrev Wants : PoolErr → Type 0
  Wants why = (fed : List (List Value)) → holds fed → tells → IsWantBelow (most fed) total why

  pub ended_wants : (before : Begun) (rows : List (List Value)) (contents : Option (List ℕ)) (faults : Faults) (stopped : Option QueryErr) (waits : List ℕ) (count : ℕ) (totals : List ℤ) (handed : Result Unit OpErr) (e : QueryErr)
      → IfErr handed (λ why. (fed : List (List Value)) → holds fed → tells → IsWantBelowOf (most fed) total why) → HasTaken before rows (written contents faults stopped waits count totals) → IsEndedBy stopped handed e → OfPool Wants e
  ended_wants before rows contents faults None waits count totals (Ok done) e wants taken ended = absurd ended
  ended_wants before rows contents faults None waits count totals (Err (op.Pool why)) e wants taken ended = subst (OfPool Wants) (sym ended) wants
  ended_wants before rows contents faults None waits count totals (Err op.Sink) e wants taken ended = subst (OfPool Wants) (sym ended) tt
  ended_wants before rows contents faults (Some why) waits count totals handed e wants taken ended = subst (OfPool Wants) (sym ended) (elim taken.sent.3 [
    | inl sink ↦ subst (OfPool Wants) (sym sink) tt
    | inr memory ↦ subst (OfPool Wants) (sym memory) (λ fed kept told. tt)
  ])

some-blocks : (n : ℕ) → IsBlockCount n → 0 < n
some-blocks zero is = absurd cc
some-blocks (suc n) is = omega arith

pub long_page : (plan : Query) (block_len : ℕ) → IsBlockCount plan.page_blocks → 0 < block_len → 0 < page_len plan block_len
long_page plan block_len paged some = mul-pos (some-blocks plan.page_blocks paged) some

pub short_page : (blocks block_len : ℕ) → IsBlockCount blocks → block_len ≤ 65536 → blocks * block_len < 2 ^ 32
short_page blocks block_len paged most = search (rules, arith)

-- what a query needs is enough
need_more : (plan : Query) (page : ℕ) (told : Told) → 0 < page
    → min (length (lefts_taken plan page told)) (2 * bytes_for (shape_of plan) (lefts_taken plan page told) / page + 544) + 1 ≤ need plan page told
need_more plan page told long =
    let rows = lefts_taken plan page told in
    let others = rights_taken plan page told in
    let many = length-append rows others in
    let own = sum_more (λ row. length (row_bytes row) + 16 * length plan.aggs) (weight_of plan) rows (weighs_more plan) in
    let both = sum_by-append (weight_of plan) rows others in
    let weigh : bytes_for (shape_of plan) rows ≤ weight_taken plan page told = omega (arith, own, both) in
    let pages = div_more (2 * bytes_for (shape_of plan) rows) (2 * weight_taken plan page told + page - 1) page long (omega (arith, weigh, long)) in
    let count : length rows + 1 ≤ count_taken plan page told + 16 = omega (arith, many) in
    omega (arith, pages, count)

-- so it is of its grouping
pub all_wants : (plan : Query) (page : ℕ) (told : Option (List ℕ)) (op : Operator) (h0 h1 : Holdings) (s1 : Signs) (e : PoolErr) → op.shape ≡ shape_of plan
    → op.parts.page_blocks ≡ plan.page_blocks → h1.block_len ≡ h0.block_len
    → page ≡ page_len plan h0.block_len → 0 < page_len plan h0.block_len → slots_in (over op.parts h1 s1) ≡ h0.free_slots
    → IfSome told (λ bytes. IsWantBelow (slots_for 544 op h1 (taken_in plan plan.left page bytes)) (slots_in (over op.parts h1 s1)) e)
    → IfSome (both_told told (Some [])) (λ both. IsWantBelow (need plan (page_len plan h0.block_len) both * plan.page_blocks) h0.free_slots e)
all_wants plan page None op h0 h1 s1 e shape blocks len is long total wants = tt
all_wants plan page (Some bytes) op h0 h1 s1 e shape blocks len is long total wants =
    let both : Told = record { left = bytes; right = [] } in
    let page_is = page_len plan h0.block_len in
    let rows = taken_in plan plan.left page_is bytes in
    let same : IsWantBelow (slots_for 544 op h1 rows) (slots_in (over op.parts h1 s1)) e =
    subst (λ (n : ℕ). IsWantBelow (slots_for 544 op h1 (taken_in plan plan.left n bytes)) (slots_in (over op.parts h1 s1)) e) is wants in
    let here : slots_for 544 op h1 rows ≡ (min (length rows) (2 * bytes_for (shape_of plan) rows / page_is + 544) + 1) * plan.page_blocks =
    rw (shape, blocks, len) refl in
    let most : slots_for 544 op h1 rows ≤ need plan page_is both * plan.page_blocks =
    subst (λ (n : ℕ). n ≤ need plan page_is both * plan.page_blocks) (sym here) (mul-le-mul_right plan.page_blocks (need_more plan page_is both long)) in
    want_more (slots_for 544 op h1 rows) (need plan page_is both * plan.page_blocks) h0.free_slots e most
    (subst (λ (n : Option ℕ). IsWantBelow (slots_for 544 op h1 rows) n e) total same)
