-- Pages that are made, and wants of slots, call after call.
use Rattle.std.proofs.Common.{◌≡◌, ◌∙◌, ◌+◌, ◌++◌, ◌∷◌, ℕ, List, [], Option, Some, None, length, sym, ap, refl, subst, arith, append_assoc, append-nil}
use Rattle.std.proofs.lemmas.List.{length-append}
use Rattle.pool_model.specs.LookingBack.{names_in}
use Rattle.pool_model.specs.declared.entry.Entry.{Entry}
use Rattle.row_codec.specs.declared.values.Value.{Value}
use Rattle.reservation_tree.specs.declared.errors.PoolErr.{PoolErr}
use Rattle.store_api.proofs.Names.{names_both}
use Rattle.store_api.specs.Holdings.{Holdings}
use Rattle.store_api.specs.Signs.{Entered, Signs}
use Rattle.store_api.specs.declared.op_err.OpErr.{OpErr}
use Rattle.store_api.specs.declared.op_err.OpErr.TheVariants as op
use Rattle.tuple_stream.specs.Families.{slots_in}
use Rattle.partition_stack.specs.Making.{MakesFew}
use Rattle.partition_stack.specs.Slots.{IsWantBelow, IsWantBelowOf}
use Rattle.partition_stack.specs.Stack.{over}
use Rattle.partition_stack.proofs.Making.{few_both, few_none}
use Rattle.group_op.specs.Making.{FewPages, Makes, pages_on}
use Rattle.group_op.specs.Operator as group
use Rattle.join_op.specs.Operator as join
use Rattle.query_run.specs.Taking.{GroupFeeds, GroupGoes, GroupMakes, GroupWants, JoinGoes, JoinMakes, LeftFeeds, LeftWants, RightFeeds, RightWants, join_slots}

pub names_sum : (first next : List Entry) → length (names_in (first ++ next)) ≡ length (names_in first) + length (names_in next)
names_sum first next = ap length (names_both first next) ∙ length-append (names_in first) (names_in next)

pub entered_so : (P Q : List Entry → Type 0) → ((more : List Entry) → P more → Q more) → (a b : Option (List Entry)) → Entered P a b → Entered Q a b
entered_so P Q so None b entered = entered
entered_so P Q so (Some before) b entered = (entered.0, entered.1, so entered.0 entered.2)

-- what holds of one span and of the next holds of both
pub entered_then : (P Q R : List Entry → Type 0) → ((first next : List Entry) → P first → Q next → R (first ++ next)) → (a b c : Option (List Entry)) → Entered P a b → Entered Q b c → Entered R a c
entered_then P Q R both None b c first second = subst (λ (o : Option (List Entry)). Entered Q o c) first second
entered_then P Q R both (Some before) b c first second =
    let next : Entered Q (Some (before ++ first.0)) c = subst (λ (o : Option (List Entry)). Entered Q o c) first.1 second in
    (first.0 ++ next.0, next.1 ∙ ap Some (append_assoc before first.0 next.0), both first.0 next.0 first.2 next.2)

entered_none : (P : List Entry → Type 0) → P [] → (a : Option (List Entry)) → Entered P a a
entered_none P none None = refl
entered_none P none (Some before) = ([], ap Some (sym (append-nil before)), none)

-- ---- a grouping

pub group_makes_none : (a : group.Operator) (h : Holdings) (s : Signs) → FewPages → group.IsFeeding a → GroupMakes a a [] h s s
group_makes_none a h s few feeding = record {
  exact = entered_none (λ more. pages_on a ≡ pages_on a + length (names_in more)) (omega arith) s.trail;
  few = λ start fed keeps. let most = few fed a h s feeding keeps.holds in omega (arith, most);
}

pub group_makes_then : (a b c : group.Operator) (rows : List (List Value)) (row : List Value) (h0 h1 : Holdings) (s0 s1 s2 : Signs) → GroupFeeds a b rows h0 h1 s0 s1 → GroupMakes a b rows h0 s0 s1 → Makes b c h1 s1 s2 → GroupMakes a c (rows ++ row ∷ []) h0 s0 s2
group_makes_then a b c rows row h0 h1 s0 s1 s2 feeds before makes = record {
  exact =
      entered_then (λ more. pages_on b ≡ pages_on a + length (names_in more)) (λ more. pages_on c ≡ pages_on b + length (names_in more)) (λ more. pages_on c ≡ pages_on a + length (names_in more))
      (λ first next one two. let sum = names_sum first next in omega (arith, sum, one, two)) s0.trail s1.trail s2.trail before.exact makes.exact;
  few = λ start fed keeps.
      let most = makes.few (fed ++ rows) (feeds start fed keeps).holds in
      let sum = length-append fed rows in
      let more = length-append rows (row ∷ []) in
      omega (arith, most, sum, more);
}

pub slots_same : (a b : group.Operator) (h0 h1 : Holdings) (s0 s1 : Signs) (more : ℕ) (rows : List (List Value)) → GroupGoes a b h0 h1 s0 s1 → group.slots_for more b h1 rows ≡ group.slots_for more a h0 rows
slots_same a b h0 h1 s0 s1 more rows goes = rw (goes.same.blocks, goes.same.shape, goes.went.leaves.others.block_len) refl

pub group_wants : (a b : group.Operator) (rows : List (List Value)) (row : List Value) (h0 h1 : Holdings) (s0 s1 : Signs) (why : OpErr) (e : PoolErr) → why ≡ op.Pool e → GroupFeeds a b rows h0 h1 s0 s1 → GroupGoes a b h0 h1 s0 s1
    → ((fed : List (List Value)) → group.Holds fed b h1 s1 → IsWantBelowOf (group.slots_for 16 b h1 (fed ++ row ∷ [])) (slots_in (over b.parts h1 s1)) why) → GroupWants a (rows ++ row ∷ []) h0 s0 e
group_wants a b rows row h0 h1 s0 s1 (op.Pool other) e is feeds goes enough = λ start fed keeps.
    let same : other ≡ e = cc in
    let total = slots_in (over b.parts h1 s1) in
    let all = fed ++ (rows ++ row ∷ []) in
    let here : IsWantBelow (group.slots_for 16 b h1 ((fed ++ rows) ++ row ∷ [])) total other = enough (fed ++ rows) (feeds start fed keeps).holds in
    let joined : IsWantBelow (group.slots_for 16 b h1 all) total other = subst (λ (xs : List (List Value)). IsWantBelow (group.slots_for 16 b h1 xs) total other) (append_assoc fed rows (row ∷ [])) here in
    let most : IsWantBelow (group.slots_for 16 a h0 all) total other = subst (λ (n : ℕ). IsWantBelow n total other) (slots_same a b h0 h1 s0 s1 16 all goes) joined in
    subst (λ (n : Option ℕ). IsWantBelow (group.slots_for 16 a h0 all) n e) goes.went.slots (subst (IsWantBelow (group.slots_for 16 a h0 all) total) same most)
group_wants a b rows row h0 h1 s0 s1 op.Sink e is feeds goes enough = absurd cc

-- ---- a side of a join

pub join_makes_none : (s : Signs) → JoinMakes [] s s
join_makes_none s = few_none s

pub join_makes_then : (rows : List (List Value)) (row : List Value) (s0 s1 s2 : Signs) → JoinMakes rows s0 s1 → MakesFew 1 s1 s2 → JoinMakes (rows ++ row ∷ []) s0 s2
join_makes_then rows row s0 s1 s2 before makes =
    few_both (length rows) 1 (length (rows ++ row ∷ [])) s0 s1 s2 (let more = length-append rows (row ∷ []) in omega (arith, more)) before makes

join_slots_same : (a b : join.Operator) (h0 h1 : Holdings) (s0 s1 : Signs) (lefts rights : List (List Value)) → JoinGoes a b h0 h1 s0 s1 → join.slots_for b h1 lefts rights ≡ join.slots_for a h0 lefts rights
join_slots_same a b h0 h1 s0 s1 lefts rights goes = rw (goes.same.left_blocks, goes.leaves.others.block_len) refl

-- what it wants of later slots it wants of those before
pub want_before : (a b : join.Operator) (h0 h1 : Holdings) (s0 s1 : Signs) (lefts rights : List (List Value)) (e : PoolErr) → JoinGoes a b h0 h1 s0 s1
    → IsWantBelow (join.slots_for b h1 lefts rights) (join_slots b h1 s1) e → IsWantBelow (join.slots_for a h0 lefts rights) (join_slots a h0 s0) e
want_before a b h0 h1 s0 s1 lefts rights e goes want =
    subst (λ (n : Option ℕ). IsWantBelow (join.slots_for a h0 lefts rights) n e) goes.slots
    (subst (λ (n : ℕ). IsWantBelow n (join_slots b h1 s1) e) (join_slots_same a b h0 h1 s0 s1 lefts rights goes) want)

of_pool : (most : ℕ) (total : Option ℕ) (why : OpErr) (e : PoolErr) → why ≡ op.Pool e → IsWantBelowOf most total why → IsWantBelow most total e
of_pool most total (op.Pool other) e is want = let same : other ≡ e = cc in subst (IsWantBelow most total) same want
of_pool most total op.Sink e is want = absurd cc

pub left_wants : (a b : join.Operator) (rows : List (List Value)) (row : List Value) (h0 h1 : Holdings) (s0 s1 : Signs) (why : OpErr) (e : PoolErr) → why ≡ op.Pool e → LeftFeeds a b rows h0 h1 s0 s1 → JoinGoes a b h0 h1 s0 s1
    → ((start : Option (List Entry)) (lefts rights : List (List Value)) → join.Keeps start lefts rights b h1 s1 → IsWantBelowOf (join.slots_for b h1 (lefts ++ row ∷ []) rights) (join_slots b h1 s1) why) → LeftWants a (rows ++ row ∷ []) h0 s0 e
left_wants a b rows row h0 h1 s0 s1 why e is feeds goes enough = λ start lefts keeps.
    let here = of_pool (join.slots_for b h1 ((lefts ++ rows) ++ row ∷ []) []) (join_slots b h1 s1) why e is (enough start (lefts ++ rows) [] (feeds start lefts keeps)) in
    want_before a b h0 h1 s0 s1 (lefts ++ (rows ++ row ∷ [])) [] e goes
    (subst (λ (xs : List (List Value)). IsWantBelow (join.slots_for b h1 xs []) (join_slots b h1 s1) e) (append_assoc lefts rows (row ∷ [])) here)

pub right_wants : (a b : join.Operator) (rows : List (List Value)) (row : List Value) (h0 h1 : Holdings) (s0 s1 : Signs) (why : OpErr) (e : PoolErr) → why ≡ op.Pool e → RightFeeds a b rows h0 h1 s0 s1 → JoinGoes a b h0 h1 s0 s1
    → ((start : Option (List Entry)) (lefts rights : List (List Value)) → join.Keeps start lefts rights b h1 s1 → IsWantBelowOf (join.slots_for b h1 lefts (rights ++ row ∷ [])) (join_slots b h1 s1) why) → RightWants a (rows ++ row ∷ []) h0 s0 e
right_wants a b rows row h0 h1 s0 s1 why e is feeds goes enough = λ start lefts rights keeps.
    let here = of_pool (join.slots_for b h1 lefts ((rights ++ rows) ++ row ∷ [])) (join_slots b h1 s1) why e is (enough start lefts (rights ++ rows) (feeds start lefts rights keeps)) in
    want_before a b h0 h1 s0 s1 lefts (rights ++ (rows ++ row ∷ [])) e goes
    (subst (λ (xs : List (List Value)). IsWantBelow (join.slots_for b h1 lefts xs) (join_slots b h1 s1) e) (append_assoc rights rows (row ∷ [])) here)
