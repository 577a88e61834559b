-- Partial rows are gone through pass after pass: what each keeps are the lowest groups above those before.
use Rattle.std.proofs.Common.{◌≡◌, ◌∙◌, inl, inr, ℕ, Bool, true, false, List, [], ◌∷◌, ◌++◌, map, refl, ap, ap₂, sym, subst, true≢false}
use Rattle.std.specs.Prelude.{All, filter, not, ◌⊎◌}
use Rattle.std.specs.List.{AllByRecursion}
use Rattle.std.specs.List.Sorted.{IsStrictlySortedBy}
use Rattle.std.specs.Ordering.{is_gt, ordering_reverse}
use Rattle.std.specs.Cmp.{tied_itself}
use Rattle.std.specs.declared.cmp.Ordering.{Ordering}
use Rattle.std.specs.declared.cmp.Ordering.TheVariants.{Less, Equal, Greater}
use Rattle.std.proofs.lemmas.List.Elements.{All-cons, All-head, All-nil, All-tail, filter-append, filter_passes}
use Rattle.group_rows.specs.Keyed.{IsExactOrder, KeyOrder}
use Rattle.group_rows.specs.Kept.{AreOrdered}
use Rattle.group_rows.specs.Partials.{Grouping, Partial, combine, combined_by, key_of}
use Rattle.group_rows.proofs.Each.{keys_all, keys_each, split}
use Rattle.group_rows.proofs.Merging.{combines}

-- a list of which all pass, or none
all_pass : (test : Partial → Bool) (ps : List Partial) → All (λ p. test p ≡ true) ps → filter test ps ≡ ps
all_pass test [] all = refl
all_pass test (p ∷ ps) all = let here : test p ≡ true = All-head (λ p. test p ≡ true) p ps all in rw here (ap (λ (xs : List Partial). p ∷ xs) (all_pass test ps (All-tail (λ p. test p ≡ true) p ps all)))

none_pass : (test : Partial → Bool) (ps : List Partial) → All (λ p. test p ≡ false) ps → filter test ps ≡ []
none_pass test [] all = refl
none_pass test (p ∷ ps) all = let here : test p ≡ false = All-head (λ p. test p ≡ false) p ps all in rw here (none_pass test ps (All-tail (λ p. test p ≡ false) p ps all))

not_not : (b : Bool) → not (not b) ≡ b
not_not true = refl
not_not false = refl

not_so : (b c : Bool) → not b ≡ c → b ≡ not c
not_so true c is = ap not is
not_so false c is = ap not is

same_filter : (f g : Partial → Bool) → ((p : Partial) → f p ≡ g p) → (ps : List Partial) → filter f ps ≡ filter g ps
same_filter f g same [] = refl
same_filter f g same (p ∷ ps) = elim (bools (g p)) [
  | inl is ↦ let now : f p ≡ true = same p ∙ is in rw is (rw now (ap (λ (xs : List Partial). p ∷ xs) (same_filter f g same ps)))
  | inr off ↦ let now : f p ≡ false = same p ∙ off in rw off (rw now (same_filter f g same ps))
]
  where
    bools : (b : Bool) → (b ≡ true) ⊎ (b ≡ false)
    bools true = inl refl
    bools false = inr refl

keys_to_partials : (P : List ℕ → Type 0) (ps : List Partial) → All P (map key_of ps) → All (λ p. P p.key) ps
keys_to_partials P [] all = All-nil (λ p. P p.key)
keys_to_partials P (p ∷ ps) all = All-cons (λ p. P p.key) p ps (All-head P p.key (map key_of ps) all) (keys_to_partials P ps (All-tail P p.key (map key_of ps) all))

module _ (order : KeyOrder) (is_order : IsExactOrder order) (grouping : Grouping) where
  -- a key that is not above another is below one that is
  below_by : (o : Ordering) (a b q : List ℕ) → order a q ≡ o → is_gt o ≡ false → order q b ≡ Less → order a b ≡ Less
  below_by Less a b q is off less = is_order.total.trans a q b is less
  below_by Equal a b q is off less = is_order.total.congr a q b is ∙ less
  below_by Greater a b q is off less = absurd (true≢false off)

  turned : (o : Ordering) (b q : List ℕ) → order b q ≡ o → is_gt o ≡ true → order q b ≡ Less
  turned Less b q is on = absurd (true≢false (sym on))
  turned Equal b q is on = absurd (true≢false (sym on))
  turned Greater b q is on = is_order.total.antisymm q b ∙ ap ordering_reverse is

  passes : List ℕ → List ℕ → Bool
  passes q key = is_gt (order key q)

  test_of : List ℕ → Partial → Bool
  test_of q p = is_gt (order p.key q)

  -- of the groups of all, those above a key are the groups of what is above it
  pub groups_above : (q : List ℕ) (ps : List Partial) → combined_by order grouping (filter (λ p. is_gt (order p.key q)) ps) ≡ filter (λ p. is_gt (order p.key q)) (combined_by order grouping ps)
  groups_above q ps =
      let low : List ℕ → Bool = λ k. not (is_gt (order k q)) in
      let lows : List Partial = filter (λ p. not (is_gt (order p.key q))) ps in
      let highs : List Partial = filter (λ p. not (not (is_gt (order p.key q)))) ps in
      let cut : combined_by order grouping ps ≡ combined_by order grouping lows ++ combined_by order grouping highs =
      split key_of (combine grouping) (combines grouping) order is_order (λ k. Unit {0}) low
      (λ a b pa pb is off. below_by (order a q) a b q refl (not_so (is_gt (order a q)) true is) (turned (order b q) b q refl (not_so (is_gt (order b q)) false off))) ps (λ k d inside. tt) in
      let pass_low = filter_passes (λ p. not (is_gt (order p.key q))) ps in
      let pass_high = filter_passes (λ p. not (not (is_gt (order p.key q)))) ps in
      let low_keys : All (λ k. is_gt (order k q) ≡ false) (map key_of (combined_by order grouping lows)) =
      subst (All (λ k. is_gt (order k q) ≡ false)) (sym (keys_each key_of (combine grouping) (combines grouping) order is_order lows))
      (keys_all key_of (combine grouping) (combines grouping) order is_order (λ k. is_gt (order k q) ≡ false) lows (λ k d inside. not_so _ true (pass_low k d inside))) in
      let high_keys : All (λ k. is_gt (order k q) ≡ true) (map key_of (combined_by order grouping highs)) =
      subst (All (λ k. is_gt (order k q) ≡ true)) (sym (keys_each key_of (combine grouping) (combines grouping) order is_order highs))
      (keys_all key_of (combine grouping) (combines grouping) order is_order (λ k. is_gt (order k q) ≡ true) highs (λ k d inside. sym (not_not _) ∙ pass_high k d inside)) in
      let same : highs ≡ filter (λ p. is_gt (order p.key q)) ps = same_filter (λ p. not (not (is_gt (order p.key q)))) (λ p. is_gt (order p.key q)) (λ p. not_not (is_gt (order p.key q))) ps in
      sym (
      ap (filter (λ p. is_gt (order p.key q))) cut
      ∙ filter-append (λ p. is_gt (order p.key q)) (combined_by order grouping lows) (combined_by order grouping highs)
      ∙ ap₂ (λ (a b : List Partial). a ++ b)
      (none_pass (λ p. is_gt (order p.key q)) (combined_by order grouping lows) (keys_to_partials (λ k. is_gt (order k q) ≡ false) (combined_by order grouping lows) low_keys))
      (all_pass (λ p. is_gt (order p.key q)) (combined_by order grouping highs) (keys_to_partials (λ k. is_gt (order k q) ≡ true) (combined_by order grouping highs) high_keys))
      ∙ ap (combined_by order grouping) same)

  -- in a list in order, those above an entry are those behind it
  less_off : (a b : List ℕ) → order a b ≡ Less → is_gt (order a b) ≡ false
  less_off a b less = ap is_gt less

  all_behind : (q : List ℕ) (ps : List Partial) → AllByRecursion (λ k. order q k ≡ Less) (map key_of ps) → All (λ p. is_gt (order p.key q) ≡ true) ps
  all_behind q [] all = All-nil (λ p. is_gt (order p.key q) ≡ true)
  all_behind q (p ∷ ps) all =
      All-cons (λ p. is_gt (order p.key q) ≡ true) p ps (ap is_gt (is_order.total.antisymm p.key q ∙ ap ordering_reverse all.0)) (all_behind q ps all.1)

  behind_of : (q : List ℕ) (front rest : List Partial) (e : Partial) → AllByRecursion (λ k. order q k ≡ Less) (map key_of (front ++ e ∷ rest)) → order q e.key ≡ Less
  behind_of q [] rest e all = all.0
  behind_of q (x ∷ front) rest e all = behind_of q front rest e all.1

  pub behind_entry : (front rest : List Partial) (e : Partial) → AreOrdered order (front ++ e ∷ rest) → filter (λ p. is_gt (order p.key e.key)) (front ++ e ∷ rest) ≡ rest
  unfolding IsStrictlySortedBy
  behind_entry [] rest e sorted =
      let itself : is_gt (order e.key e.key) ≡ false = ap is_gt (tied_itself is_order.total e.key) in
      rw itself (all_pass (λ p. is_gt (order p.key e.key)) rest (all_behind e.key rest sorted.0))
  behind_entry (x ∷ front) rest e sorted =
      let before : is_gt (order x.key e.key) ≡ false = less_off x.key e.key (behind_of x.key front rest e sorted.0) in
      rw before (behind_entry front rest e sorted.1)
