-- Want of slots of a join whose pairs go to a grouping.
use Rattle.std.proofs.Common.{◌≡◌, ◌∙◌, ◌+◌, ◌-◌, ◌*◌, ◌/◌, ◌<◌, ◌≤◌, ◌++◌, ℕ, List, [], Option, Some, None, IfSome, Result, Ok, Err, IfErr, option_map, true, length, min, refl, ap, sym, subst, arith, div-mul-le_self, mul-le-mul_right}
use Rattle.std.specs.List.{sum_by}
use Rattle.std.proofs.lemmas.List.{length-append}
use Rattle.std.proofs.lemmas.List.Sums.{sum_by-append}
use Rattle.std.proofs.lemmas.Nat.{le-div}
use Rattle.reservation_tree.specs.declared.errors.PoolErr.{PoolErr}
use Rattle.row_codec.specs.declared.values.Value.{Value}
use Rattle.row_codec.specs.RowBytes.{row_bytes}
use Rattle.store_api.specs.Emitters.{SameOwn, slots_with}
use Rattle.store_api.specs.Holdings.{Holdings, length_of}
use Rattle.store_api.specs.Signs.{Signs}
use Rattle.store_api.specs.Tokens.{ClientToken}
use Rattle.store_api.specs.declared.op_err.OpErr.{OpErr}
use Rattle.store_api.specs.declared.op_err.OpErr.TheVariants as op_err
use Rattle.store_api.specs.declared.shapes.JoinShape.{JoinShape}
use Rattle.store_api.specs.declared.shapes.Shape.{Shape}
use Rattle.tuple_stream.specs.Families.{slots_in as all_slots_in}
use Rattle.partition_stack.proofs.Scratch.{most_more}
use Rattle.partition_stack.specs.Slots.{IsWant, IsWantBelow, IsWantBelowOf, IsWantOf, most_pages, with_more}
use Rattle.partition_stack.specs.Stack.{over}
use Rattle.group_op.proofs.Wants.{below_more_of}
use Rattle.group_op.specs.Operator as group
use Rattle.join_op.specs.Handing.{IsWantAmong}
use Rattle.join_op.specs.Operator as join
use Rattle.join_op.specs.Pairs.{pairs_of}
use Rattle.query_plan.specs.Sizes.{groups, page_len}
use Rattle.query_plan.specs.declared.plan.Query.{Query}
use Rattle.query_plan.specs.declared.plan.SidePlan.{SidePlan}
use Rattle.query_run.specs.Both.{Told, both_told}
use Rattle.query_run.specs.Causes.{OfPool}
use Rattle.query_run.specs.Ending.{cause_of_handed}
use Rattle.query_run.specs.Feeder.{TookOf, slots_for_rows, slots_in}
use Rattle.query_run.specs.FeederLaws.{pages_own, slots_same}
use Rattle.query_run.specs.Input.{passing}
use Rattle.query_run.specs.Inside.{IsOfStore, slots_of_both}
use Rattle.query_run.specs.Joined.{HasFedBoth}
use Rattle.query_run.specs.Plans.{join_shape_of, shape_of}
use Rattle.query_run.specs.Stopped.{StoppedOver}
use Rattle.query_run.specs.Through.{count_taken, lefts_taken, need, pairs_taken, rights_taken, weight_taken}
use Rattle.query_run.specs.Writing.{HoldsFor}
use Rattle.query_run.specs.declared.feeder.Feeder.{Feeder}
use Rattle.query_run.specs.declared.feeding.Fed.{Fed}
use Rattle.query_plan.specs.declared.outcome.QueryErr.{QueryErr}
use Rattle.query_run.proofs.Accepted.{pairs_whole, told_of}
use Rattle.query_run.proofs.JoinWants.{both_taken_are, weigh_both}
use Rattle.query_run.proofs.Orders.{same_many}
use Rattle.query_run.proofs.Sides.{both_are}
use Rattle.query_run.proofs.Wants.{div_more, want_more}

-- ---- pairs that are handed on

-- an emitter that took nothing has no slots
pub took_no_slots : (o : Option group.Operator) (back : Option ClientToken) (c : ClientToken) (shape : Shape) (blocks : ℕ) (e : Feeder) (h : Holdings) → TookOf o back c shape blocks e h [] → slots_in o c.tracker h ≡ 0
took_no_slots (Some op) None c shape blocks e h took =
    let own = pages_own c shape blocks op e h [] took in
    let few = own.1 in
    let most = took.few in
    let none : own.0 ≡ 0 = omega (arith, few, most) in
    own.2 ∙ ap (λ (n : ℕ). n * blocks) none ∙ (let zero : 0 * blocks ≡ 0 = omega arith in zero)
took_no_slots None back c shape blocks e h took = refl
took_no_slots (Some op) (Some back) c shape blocks e h took = absurd took

-- some of the pairs want no more than all
pub among_pairs : (shape : Shape) (blocks page : ℕ) (pairs : List (List Value)) (most : ℕ) (total : Option ℕ) (e : OpErr) → 0 < page → IsWantAmong (slots_for_rows shape blocks page) [] pairs most total e
    → IsWantBelowOf (most + slots_for_rows shape blocks page pairs) total e
among_pairs shape blocks page pairs most total e long among =
    let many = same_many (among.some ++ among.rest) pairs among.same in
    let sum = length-append among.some among.rest in
    let weigh : group.bytes_for shape (among.some ++ among.rest) ≡ group.bytes_for shape pairs = among.same (λ row. length (row_bytes row) + 16 * length shape.aggs) in
    let both : group.bytes_for shape (among.some ++ among.rest) ≡ group.bytes_for shape among.some + group.bytes_for shape among.rest = sum_by-append (λ (row : List Value). length (row_bytes row) + 16 * length shape.aggs) among.some among.rest in
    let light : group.bytes_for shape among.some ≤ group.bytes_for shape pairs = omega (arith, weigh, both) in
    let pages = most_more page 16 (length among.some) (group.bytes_for shape among.some) (length pairs) (group.bytes_for shape pairs) long (omega (arith, many, sum)) light in
    let wide : slots_for_rows shape blocks page among.some ≤ slots_for_rows shape blocks page pairs =
    mul-le-mul_right blocks (let next : most_pages page 16 (length among.some) (group.bytes_for shape among.some) + 1 ≤ most_pages page 16 (length pairs) (group.bytes_for shape pairs) + 1 = omega (arith, pages) in next) in
    below_more_of (most + slots_for_rows shape blocks page among.some) (most + slots_for_rows shape blocks page pairs) total e (omega (arith, wide)) among.below

-- the free slots once the join ended, and with them those of the emitter's pages
pub slots_behind : (u : ℕ) (o : Option group.Operator) (h1 h3 : Holdings) (mine total : Option ℕ) → SameOwn (Some u) h1 h3 → h3.free_slots ≡ mine → with_more (slots_in o u h1) mine ≡ total → slots_with (slots_in o u h3) h3 ≡ total
slots_behind u o h1 h3 mine total own free all =
    ap (λ (n : ℕ). option_map (λ (m : ℕ). m + n) h3.free_slots) (slots_same u h1 h3 own o) ∙ ap (λ (m : Option ℕ). with_more (slots_in o u h1) m) free ∙ all

-- what stopped pairs that were handed on
pub want_handed : (blocks : ℕ) (total : Option ℕ) (handed : Result Unit OpErr) (e : QueryErr) → IfErr handed (IsWantOf blocks total) → e ≡ cause_of_handed handed → OfPool (IsWant blocks total) e
want_handed blocks total (Ok done) e want is = subst (OfPool (IsWant blocks total)) (sym is) tt
want_handed blocks total (Err (op_err.Pool why)) e want is = subst (OfPool (IsWant blocks total)) (sym is) want
want_handed blocks total (Err op_err.Sink) e want is = subst (OfPool (IsWant blocks total)) (sym is) tt

pub stopped_of : (blocks : ℕ) (total : Option ℕ) (before after : Signs) (e : QueryErr) → IsOfStore e before after → OfPool (IsWant blocks total) e → StoppedOver blocks total before after e
stopped_of blocks total before after e of want =
    subst (StoppedOver blocks total before after) (sym of.is) (record { answered = of.answered; want = subst (OfPool (IsWant blocks total)) of.is want })

-- ---- by the slots that both need

both_fit : (n p x y blocks : ℕ) → (min n (x + 546) + 1) * blocks + (min p (y + 16) + 1) * blocks ≤ min (n + p + 2) (x + y + 600) * blocks
both_fit n p x y blocks =
    let sum : (min n (x + 546) + 1) * blocks + (min p (y + 16) + 1) * blocks ≡ (min n (x + 546) + 1 + (min p (y + 16) + 1)) * blocks = omega arith in
    let wide : (min n (x + 546) + 1 + (min p (y + 16) + 1)) * blocks ≤ min (n + p + 2) (x + y + 600) * blocks = mul-le-mul_right blocks (let few : min n (x + 546) + 1 + (min p (y + 16) + 1) ≤ min (n + p + 2) (x + y + 600) = omega arith in few) in
    omega (arith, sum, wide)

alone_fits : (n p x y blocks : ℕ) → (min p (y + 544) + 1) * blocks ≤ min (n + p + 2) (x + y + 600) * blocks
alone_fits n p x y blocks = mul-le-mul_right blocks (let few : min p (y + 544) + 1 ≤ min (n + p + 2) (x + y + 600) = omega arith in few)

module _ (plan : Query) (page : ℕ) (lefts rights pairs : List (List Value)) where
  -- while pairs are handed on
  pub both_fewer : (op : join.Operator) (h : Holdings) → op.left.page_blocks ≡ plan.page_blocks → page ≡ length_of plan.page_blocks h
      → join.slots_for op h lefts rights + slots_for_rows (shape_of plan) plan.page_blocks page pairs ≤ slots_of_both plan page lefts rights pairs
  both_fewer op h blocks page-is =
      let here : join.slots_for op h lefts rights ≡ (min (length lefts + length rights) (2 * (join.bytes_of lefts + join.bytes_of rights) / page + 546) + 1) * plan.page_blocks = rw (blocks, page-is) refl in
      let all = both_fit (length lefts + length rights) (length pairs) (2 * (join.bytes_of lefts + join.bytes_of rights) / page) (2 * group.bytes_for (shape_of plan) pairs / page) plan.page_blocks in
      subst (λ (n : ℕ). n + slots_for_rows (shape_of plan) plan.page_blocks page pairs ≤ slots_of_both plan page lefts rights pairs) (sym here) all

  -- while rows are fed
  pub fed_fewer : (op : join.Operator) (h : Holdings) → op.left.page_blocks ≡ plan.page_blocks → page ≡ length_of plan.page_blocks h → join.slots_for op h lefts rights ≤ slots_of_both plan page lefts rights pairs
  fed_fewer op h blocks page-is = let all = both_fewer op h blocks page-is in omega (arith, all)

  -- while groups are handed on, by the grouping alone
  pub groups_below : (op : group.Operator) (h : Holdings) (signs : Signs) (total : Option ℕ) (e : PoolErr) → (has : HoldsFor pairs op h signs) → op.shape ≡ shape_of plan → op.parts.page_blocks ≡ plan.page_blocks → page ≡ length_of plan.page_blocks h
      → all_slots_in (over op.parts h signs) ≡ total → IsWantBelow (group.slots_for 544 op h has.fed) (all_slots_in (over op.parts h signs)) e → IsWantBelow (slots_of_both plan page lefts rights pairs) total e
  groups_below op h signs total e has shape blocks page-is slots below =
      let weigh : group.bytes_for op.shape has.fed ≡ group.bytes_for (shape_of plan) pairs = has.weigh ∙ ap (λ (s : Shape). group.bytes_for s pairs) shape in
      let len : group.page_of op h ≡ page = ap (λ (n : ℕ). n * h.block_len) blocks ∙ sym page-is in
      let here : group.slots_for 544 op h has.fed ≡ (min (length pairs) (2 * group.bytes_for (shape_of plan) pairs / page + 544) + 1) * plan.page_blocks =
      ap (λ (n : ℕ). (min n (2 * group.bytes_for op.shape has.fed / group.page_of op h + 544) + 1) * op.parts.page_blocks) has.many
      ∙ ap (λ (n : ℕ). (min (length pairs) (2 * n / group.page_of op h + 544) + 1) * op.parts.page_blocks) weigh
      ∙ ap (λ (n : ℕ). (min (length pairs) (2 * group.bytes_for (shape_of plan) pairs / n + 544) + 1) * op.parts.page_blocks) len
      ∙ ap (λ (n : ℕ). (min (length pairs) (2 * group.bytes_for (shape_of plan) pairs / page + 544) + 1) * n) blocks in
      let most : group.slots_for 544 op h has.fed ≤ slots_of_both plan page lefts rights pairs =
      subst (λ (n : ℕ). n ≤ slots_of_both plan page lefts rights pairs) (sym here) (alone_fits (length lefts + length rights) (length pairs) (2 * (join.bytes_of lefts + join.bytes_of rights) / page) (2 * group.bytes_for (shape_of plan) pairs / page) plan.page_blocks) in
      want_more (group.slots_for 544 op h has.fed) (slots_of_both plan page lefts rights pairs) total e most (subst (λ (o : Option ℕ). IsWantBelow (group.slots_for 544 op h has.fed) o e) slots below)

-- ---- by the rows that are taken

-- the slots that a query needs that groups pairs
abbrev pub slots_told : Query → ℕ → Told → ℕ
slots_told plan page both = slots_of_both plan page (lefts_taken plan page both) (rights_taken plan page both) (pairs_taken plan page both)

pub grouped_below : (plan : Query) (asked : SidePlan) (page : ℕ) (lefts rights : Option (List ℕ)) (left_fed right_fed : Fed)
    → (keeps : List (List Value) → List (List Value) → Type 0) → plan.right ≡ Some asked → groups plan ≡ true
    → (has : HasFedBoth plan asked page lefts rights left_fed right_fed keeps) (shape : JoinShape) (now total : Option ℕ) (e : PoolErr)
    → shape ≡ join_shape_of plan asked → now ≡ total
    → IsWantBelow (slots_of_both plan page has.lefts has.rights (pairs_of shape has.lefts has.rights)) now e
    → IfSome (both_told lefts rights) (λ both. IsWantBelow (slots_told plan page both) total e)
grouped_below plan asked page None rights left_fed right_fed keeps planned grouped has shape now total e is same below = tt
grouped_below plan asked page (Some l) None left_fed right_fed keeps planned grouped has shape now total e is same below = tt
grouped_below plan asked page (Some l) (Some r) left_fed right_fed keeps planned grouped has shape now total e is same below =
    let are = both_are plan asked page l r left_fed right_fed keeps has in
    let taken = both_taken_are plan asked page l r left_fed right_fed keeps planned has in
    let pairs : pairs_of shape has.lefts has.rights ≡ pairs_taken plan page (told_of l r) =
    ap (λ (s : JoinShape). pairs_of s has.lefts has.rights) is ∙ ap (λ (ls : List (List Value)). pairs_of (join_shape_of plan asked) ls has.rights) are.0
    ∙ ap (λ (rs : List (List Value)). pairs_of (join_shape_of plan asked) (passing plan l) rs) are.1
    ∙ sym (pairs_whole plan page l r has.lefts_fed.are.0 asked planned has.rights_fed.are.0 grouped) in
    subst (λ (ls : List (List Value)). IsWantBelow (slots_of_both plan page ls (rights_taken plan page (told_of l r))
    (pairs_taken plan page (told_of l r))) total e) taken.0
    (subst (λ (rs : List (List Value)). IsWantBelow (slots_of_both plan page has.lefts rs (pairs_taken plan page (told_of l r))) total e) taken.1
    (subst (λ (ps : List (List Value)). IsWantBelow (slots_of_both plan page has.lefts has.rights ps) total e) pairs
    (subst (λ (o : Option ℕ). IsWantBelow (slots_of_both plan page has.lefts has.rights (pairs_of shape has.lefts has.rights)) o e) same below)))

div_both : (a b k : ℕ) → 0 < k → a / k + b / k ≤ (a + b) / k
div_both a b k some =
    let one = div-mul-le_self a k in
    let two = div-mul-le_self b k in
    let sum : (a / k + b / k) * k ≡ a / k * k + b / k * k = omega arith in
    le-div (a / k + b / k) (a + b) k some (omega (arith, one, two, sum))

-- they are no more than it needs
need_both : (plan : Query) (page : ℕ) (told : Told) → 0 < page → slots_told plan page told ≤ need plan page told * plan.page_blocks
need_both plan page told long =
    let lefts = lefts_taken plan page told in
    let rights = rights_taken plan page told in
    let pairs = pairs_taken plan page told in
    let many = length-append lefts rights in
    let weigh = weigh_both plan lefts rights in
    let heavy : sum_by (λ row. length (row_bytes row) + 16 * length plan.aggs) pairs ≡ group.bytes_for (shape_of plan) pairs = refl in
    let bytes = 2 * (join.bytes_of lefts + join.bytes_of rights) in
    let others = 2 * group.bytes_for (shape_of plan) pairs in
    let sum = div_both bytes others page long in
    let wide = div_more (bytes + others) (2 * weight_taken plan page told + page - 1) page long (omega (arith, weigh, heavy, long)) in
    let taken : length lefts + length rights + length pairs + 2 ≤ count_taken plan page told + 16 = omega (arith, many) in
    mul-le-mul_right plan.page_blocks
    (let few : min (length lefts + length rights + length pairs + 2) (bytes / page + others / page + 600) ≤ need plan page told = omega
    (arith, sum, wide, taken) in few)

pub both_wants : (plan : Query) (lefts rights : Option (List ℕ)) (h0 : Holdings) (now : Option ℕ) (page : ℕ) (e : PoolErr) → page ≡ page_len plan h0.block_len
    → 0 < page → now ≡ h0.free_slots
    → IfSome (both_told lefts rights) (λ both. IsWantBelow (slots_told plan page both) now e)
    → IfSome (both_told lefts rights) (λ both. IsWantBelow (need plan (page_len plan h0.block_len) both * plan.page_blocks) h0.free_slots e)
both_wants plan None rights h0 now page e is long total wants = tt
both_wants plan (Some l) None h0 now page e is long total wants = tt
both_wants plan (Some l) (Some r) h0 now page e is long total wants =
    subst (λ (n : ℕ). IsWantBelow (need plan n (told_of l r) * plan.page_blocks) h0.free_slots e) is
    (want_more (slots_told plan page (told_of l r)) (need plan page (told_of l r) * plan.page_blocks) h0.free_slots e (need_both plan page (told_of l r) long)
    (subst (λ (o : Option ℕ). IsWantBelow (slots_told plan page (told_of l r)) o e) total wants))
