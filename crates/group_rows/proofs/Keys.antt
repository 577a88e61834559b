-- Keys in order, each once: which they are decides the list.
use Rattle.std.proofs.Common.{◌≡◌, inl, inr, ℕ, Bool, true, false, ◌||◌, List, [], ◌∷◌, ◌++◌, refl, ap, ap₂, sym, ◌∙◌, true≢false}
use Rattle.std.specs.Prelude.{fold}
use Rattle.std.specs.BTreeSet.{insert_key}
use Rattle.std.specs.Cmp.{tied_itself}
use Rattle.std.specs.List.{AllByRecursion, list_any}
use Rattle.std.specs.List.Sorted.{IsStrictlySortedBy}
use Rattle.std.specs.Ordering.{match_ordering, ordering_reverse}
use Rattle.std.specs.Str.{bytes_eq}
use Rattle.std.specs.declared.cmp.Ordering.{Ordering}
use Rattle.std.specs.declared.cmp.Ordering.TheVariants.{Less, Equal, Greater}
use Rattle.std.proofs.lemmas.Bool.{cases_Bool}
use Rattle.std.proofs.lemmas.List.Elements.{All-from_recursion, recursion_from_All}
use Rattle.std.proofs.lemmas.Map.Views.{All-insert_key}
use Rattle.std.proofs.lemmas.Slice.Eq.{bytes_eq-Decides}
use Rattle.group_rows.specs.Keyed.{IsExactOrder, KeyOrder, keys_in}

pub same_true : (a b : List ℕ) → a ≡ b → bytes_eq a b ≡ true
same_true a b same = (bytes_eq-Decides a b).1 same

pub true_same : (a b : List ℕ) → bytes_eq a b ≡ true → a ≡ b
true_same a b is = (bytes_eq-Decides a b).0 is

or_twice : (b c : Bool) → (b || (b || c)) ≡ (b || c)
or_twice true c = refl
or_twice false c = refl

pub or_turn : (a b c : Bool) → (a || (b || c)) ≡ (b || (a || c))
or_turn true true c = refl
or_turn true false c = refl
or_turn false true c = refl
or_turn false false c = refl

or_assoc : (a b c : Bool) → ((a || b) || c) ≡ (a || (b || c))
or_assoc true b c = refl
or_assoc false b c = refl

or_swap : (a b : Bool) → (a || b) ≡ (b || a)
or_swap true true = refl
or_swap true false = refl
or_swap false true = refl
or_swap false false = refl

-- whether a key is among these
abbrev pub stands : List ℕ → List (List ℕ) → Bool
stands q ks = list_any (λ k. bytes_eq q k) ks

module _ (R : KeyOrder) (is_order : IsExactOrder R) where
  flip : (a b : List ℕ) → R a b ≡ Greater → R b a ≡ Less
  flip a b is = is_order.total.antisymm b a ∙ ap ordering_reverse is

  pub behind_all : (k x : List ℕ) (ks : List (List ℕ)) → R k x ≡ Less → AllByRecursion (λ y. R x y ≡ Less) ks → AllByRecursion (λ y. R k y ≡ Less) ks
  behind_all k x [] less all = tt
  behind_all k x (y ∷ ks) less all = (is_order.total.trans k x y less all.0, behind_all k x ks less all.1)

  pub none_behind : (q : List ℕ) (ks : List (List ℕ)) → AllByRecursion (λ y. R q y ≡ Less) ks → stands q ks ≡ false
  none_behind q [] all = refl
  none_behind q (k ∷ ks) all = elim (cases_Bool (bytes_eq q k)) [
    | inl is ↦
        let same : q ≡ k = true_same q k is in
        let tied : R q k ≡ Equal = ap (R q) (sym same) ∙ tied_itself is_order.total q in
        let less : R q k ≡ Less = all.0 in
        absurd cc
    | inr not ↦ rw not (none_behind q ks all.1)
  ]

  by_insert : (o : Ordering) (k x : List ℕ) (xs : List (List ℕ)) → R k x ≡ o → IsStrictlySortedBy R (x ∷ xs) → IsStrictlySortedBy R (insert_key R xs k) → IsStrictlySortedBy R (match_ordering o (k ∷ x ∷ xs) (x ∷ xs) (x ∷ insert_key R xs k))
  unfolding IsStrictlySortedBy
  by_insert Less k x xs is s rest = ((is, behind_all k x xs is s.0), s)
  by_insert Equal k x xs is s rest = s
  by_insert Greater k x xs is s rest =
      (recursion_from_All (λ y. R x y ≡ Less) (insert_key R xs k) (All-insert_key R k (λ y. R x y ≡ Less) xs (All-from_recursion (λ y. R x y ≡ Less) xs s.0) (flip k x is)), rest)

  pub sorted_insert : (ks : List (List ℕ)) (k : List ℕ) → IsStrictlySortedBy R ks → IsStrictlySortedBy R (insert_key R ks k)
  unfolding IsStrictlySortedBy
  sorted_insert [] k s = (tt, tt)
  sorted_insert (x ∷ xs) k s = by_insert (R k x) k x xs refl s (sorted_insert xs k s.1)

  by_stands : (o : Ordering) (q k x : List ℕ) (xs more : List (List ℕ)) → R k x ≡ o → stands q more ≡ (bytes_eq q k || stands q xs) → stands q (match_ordering o (k ∷ x ∷ xs) (x ∷ xs) (x ∷ more)) ≡ (bytes_eq q k || (bytes_eq q x || stands q xs))
  by_stands Less q k x xs more is rest = refl
  by_stands Equal q k x xs more is rest = sym (or_twice (bytes_eq q x) (stands q xs)) ∙ ap (λ (y : List ℕ). bytes_eq q y || (bytes_eq q x || stands q xs)) (sym (is_order.exact k x is))
  by_stands Greater q k x xs more is rest = ap (λ (b : Bool). bytes_eq q x || b) rest ∙ or_turn (bytes_eq q x) (bytes_eq q k) (stands q xs)

  pub stands_insert : (q : List ℕ) (ks : List (List ℕ)) (k : List ℕ) → stands q (insert_key R ks k) ≡ (bytes_eq q k || stands q ks)
  stands_insert q [] k = refl
  stands_insert q (x ∷ xs) k = by_stands (R k x) q k x xs (insert_key R xs k) refl (stands_insert q xs k)

  -- which keys stand in it decides a list in order
  pub same_keys : (ks ls : List (List ℕ)) → IsStrictlySortedBy R ks → IsStrictlySortedBy R ls → ((q : List ℕ) → stands q ks ≡ stands q ls) → ks ≡ ls
  unfolding IsStrictlySortedBy
  same_keys [] [] s t same = refl
  same_keys [] (l ∷ ls) s t same =
      let is : bytes_eq l l ≡ true = same_true l l refl in
      let no : false ≡ (bytes_eq l l || stands l ls) = same l in
      absurd (true≢false (sym (no ∙ rw is refl)))
  same_keys (k ∷ ks) [] s t same =
      let is : bytes_eq k k ≡ true = same_true k k refl in
      let no : (bytes_eq k k || stands k ks) ≡ false = same k in
      absurd (true≢false (sym (rw is refl) ∙ no))
  same_keys (k ∷ ks) (l ∷ ls) s t same = by (R k l) refl (same_keys ks ls s.1 t.1) where
    found : (a : List ℕ) (more : List (List ℕ)) → (bytes_eq a a || stands a more) ≡ true
    found a more = let is : bytes_eq a a ≡ true = same_true a a refl in rw is refl

    tails : k ≡ l → (q : List ℕ) → stands q ks ≡ stands q ls
    tails heads q = elim (cases_Bool (bytes_eq q k)) [
      | inl is ↦
          let at_k : q ≡ k = true_same q k is in
          ap (λ (a : List ℕ). stands a ks) at_k ∙ none_behind k ks s.0
          ∙ sym (ap (λ (a : List ℕ). stands a ls) (at_k ∙ heads) ∙ none_behind l ls t.0)
      | inr not ↦
          let e : (bytes_eq q k || stands q ks) ≡ (bytes_eq q l || stands q ls) = same q in
          let other : bytes_eq q l ≡ false = ap (λ (a : List ℕ). bytes_eq q a) (sym heads) ∙ not in
          let both : stands q ks ≡ (bytes_eq q l || stands q ls) = rw not at e in
          rw other at both
    ]

    by : (o : Ordering) → R k l ≡ o → (((q : List ℕ) → stands q ks ≡ stands q ls) → ks ≡ ls) → k ∷ ks ≡ l ∷ ls
    by Less is rest =
        let none : stands k (l ∷ ls) ≡ false = none_behind k (l ∷ ls) (is, behind_all k l ls is t.0) in
        absurd (true≢false (sym (found k ks) ∙ same k ∙ none))
    by Equal is rest =
        let heads : k ≡ l = is_order.exact k l is in
        ap₂ (λ (a : List ℕ) (b : List (List ℕ)). a ∷ b) heads (rest (tails heads))
    by Greater is rest =
        let none : stands l (k ∷ ks) ≡ false = none_behind l (k ∷ ks) (flip k l is, behind_all l k ks (flip k l is) s.0) in
        absurd (true≢false (sym (found l ls) ∙ sym (same l) ∙ none))

  module _ {X : Type 0} (key : X → List ℕ) where
    fold_sorted : (xs : List X) (ks : List (List ℕ)) → IsStrictlySortedBy R ks → IsStrictlySortedBy R (fold (λ keys x. insert_key R keys (key x)) ks xs)
    fold_sorted [] ks s = s
    fold_sorted (x ∷ xs) ks s = fold_sorted xs (insert_key R ks (key x)) (sorted_insert ks (key x) s)

    fold_stands : (q : List ℕ) (xs : List X) (ks : List (List ℕ)) → stands q (fold (λ keys x. insert_key R keys (key x)) ks xs) ≡ (stands q ks || list_any (λ x. bytes_eq q (key x)) xs)
    fold_stands q [] ks = or_swap false (stands q ks)
    fold_stands q (x ∷ xs) ks =
        fold_stands q xs (insert_key R ks (key x))
        ∙ ap (λ (b : Bool). b || list_any (λ x. bytes_eq q (key x)) xs) (stands_insert q ks (key x) ∙ or_swap (bytes_eq q (key x)) (stands q ks))
        ∙ or_assoc (stands q ks) (bytes_eq q (key x)) (list_any (λ x. bytes_eq q (key x)) xs)

    pub keys_sorted : (xs : List X) → IsStrictlySortedBy R (keys_in R key xs)
    unfolding IsStrictlySortedBy
    keys_sorted xs = fold_sorted xs [] tt

    pub keys_stand : (q : List ℕ) (xs : List X) → stands q (keys_in R key xs) ≡ list_any (λ x. bytes_eq q (key x)) xs
    keys_stand q xs = fold_stands q xs []

  -- lists in order, all keys of the one below all of the other
  pub sorted_append : (ks ls : List (List ℕ)) → IsStrictlySortedBy R ks → IsStrictlySortedBy R ls → AllByRecursion (λ k. AllByRecursion (λ l. R k l ≡ Less) ls) ks → IsStrictlySortedBy R (ks ++ ls)
  unfolding IsStrictlySortedBy
  sorted_append [] ls s t below = t
  sorted_append (k ∷ ks) ls s t below = (front ks s.0, sorted_append ks ls s.1 t below.1) where
    front : (more : List (List ℕ)) → AllByRecursion (λ y. R k y ≡ Less) more → AllByRecursion (λ y. R k y ≡ Less) (more ++ ls)
    front [] all = below.0
    front (y ∷ more) all = (all.0, front more all.1)
