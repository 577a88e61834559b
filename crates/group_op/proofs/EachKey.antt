-- The rows of each distinct key, one key after the other, are all rows in some order.
use Rattle.std.proofs.Common.{◌≡◌, ◌≢◌, ◌∙◌, ℕ, Bool, true, false, not, length, arith, ◌&&◌, ◌||◌, List, [], ◌∷◌, ◌++◌, filter, refl, ap, sym, subst, inl, inr}
use Rattle.std.specs.Prelude.{All, flat_map}
use Rattle.std.specs.List.{AllByRecursion, list_any}
use Rattle.std.specs.List.Sorted.{IsPermutation, IsStrictlySortedBy}
use Rattle.std.specs.Str.{bytes_eq}
use Rattle.std.specs.declared.cmp.Ordering.TheVariants.{Less}
use Rattle.std.proofs.lemmas.Bool.{cases_Bool}
use Rattle.std.proofs.lemmas.List.Concat.{flat_map-cons}
use Rattle.std.proofs.lemmas.List.Elements.{All-cons, All-head, All-nil, All-tail}
use Rattle.std.proofs.lemmas.List.Sorted.{IsPermutation-append_right, IsPermutation-filter_both, IsPermutation-refl, IsPermutation-trans}
use Rattle.group_rows.specs.Keyed.{IsExactOrder, KeyOrder, keys_in, with_key}
use Rattle.group_rows.proofs.Keys.{keys_sorted, keys_stand, none_behind, same_true, stands, true_same}
use Rattle.group_rows.proofs.Paths.{filter_twice}
use Rattle.group_rows.proofs.Tables.{bytes_equiv}

module _ {X : Type 0} (key : X → List ℕ) (order : KeyOrder) (is_order : IsExactOrder order) where
  -- its key is among these
  abbrev among : List (List ℕ) → X → Bool
  among ks x = stands (key x) ks

  abbrev has : List ℕ → X → Bool
  has k x = bytes_eq k (key x)

  within : (a b c : Bool) → a ≡ b → ((a || c) && b) ≡ b
  within true true c is = refl
  within false false c is = elim (cases_Bool c) [
    | inl so ↦ rw so refl
    | inr not ↦ rw not refl
  ]
  within true false c is = cc
  within false true c is = cc

  beside : (a b c : Bool) → a ≡ b → (b ≡ true → c ≡ false) → ((a || c) && not b) ≡ c
  beside true true c is none = sym (none refl)
  beside false false true is none = refl
  beside false false false is none = refl
  beside true false c is none = cc
  beside false true c is none = cc

  apart : (k : List ℕ) (ks : List (List ℕ)) → AllByRecursion (λ y. order k y ≡ Less) ks → (x : X) → has k x ≡ true → among ks x ≡ false
  apart k ks behind x is = ap (λ (q : List ℕ). stands q ks) (sym (true_same k (key x) is)) ∙ none_behind order is_order k ks behind

  with_keys : (ks : List (List ℕ)) → IsStrictlySortedBy order ks → (xs : List X) → IsPermutation (filter (among ks) xs) (flat_map (λ q. with_key key q xs) ks)
  unfolding IsStrictlySortedBy
  with_keys [] s xs = subst (λ (ys : List X). IsPermutation ys []) (sym (none xs)) (IsPermutation-refl []) where
    none : (zs : List X) → filter (among []) zs ≡ []
    none [] = refl
    none (z ∷ zs) = none zs
  with_keys (k ∷ ks) s xs =
      let all = filter (among (k ∷ ks)) xs in
      let split = IsPermutation-filter_both (has k) (λ x. not (has k x)) (λ x. refl) all in
      let own : filter (has k) all ≡ with_key key k xs = filter_twice (has k) (among (k ∷ ks)) (has k) (λ x. within (bytes_eq (key x) k) (has k x) (among ks x) (bytes_equiv.symm (key x) k)) xs in
      let others : filter (λ x. not (has k x)) all ≡ filter (among ks) xs =
      filter_twice (λ x. not (has k x)) (among (k ∷ ks)) (among ks) (λ x. beside (bytes_eq (key x) k) (has k x) (among ks x) (bytes_equiv.symm (key x) k) (apart k ks s.0 x)) xs in
      let parts : IsPermutation all (with_key key k xs ++ filter (among ks) xs) =
      subst (λ (ys : List X). IsPermutation all (ys ++ filter (among ks) xs)) own (subst (λ (zs : List X). IsPermutation all (filter (has k) all ++ zs)) others split) in
      subst (IsPermutation all) (sym (flat_map-cons (λ q. with_key key q xs) k ks))
      (IsPermutation-trans all (with_key key k xs ++ filter (among ks) xs) (with_key key k xs ++ flat_map (λ q. with_key key q xs) ks) parts
      (IsPermutation-append_right (with_key key k xs) (filter (among ks) xs) (flat_map (λ q. with_key key q xs) ks) (with_keys ks s.1 xs)))

  -- the key of each is the key of one
  abbrev some_has : List X → X → Bool
  some_has xs x = list_any (λ y. bytes_eq (key x) (key y)) xs

  later : (y : X) (ys zs : List X) → All (λ x. some_has ys x ≡ true) zs → All (λ x. some_has (y ∷ ys) x ≡ true) zs
  later y ys [] all = All-nil (λ x. some_has (y ∷ ys) x ≡ true)
  later y ys (z ∷ zs) all =
      All-cons (λ x. some_has (y ∷ ys) x ≡ true) z zs (more (bytes_eq (key z) (key y)) (All-head (λ x. some_has ys x ≡ true) z zs all)) (later y ys zs (All-tail (λ x. some_has ys x ≡ true) z zs all)) where
        more : (b : Bool) → some_has ys z ≡ true → (b || some_has ys z) ≡ true
        more true is = refl
        more false is = is

  each_has : (xs : List X) → All (λ x. some_has xs x ≡ true) xs
  each_has [] = All-nil (λ x. some_has [] x ≡ true)
  each_has (x ∷ xs) =
      let here : bytes_eq (key x) (key x) ≡ true = same_true (key x) (key x) refl in
      All-cons (λ z. some_has (x ∷ xs) z ≡ true) x xs (rw here refl) (later x xs xs (each_has xs))

  filter_each : (p : X → Bool) (xs : List X) → All (λ x. p x ≡ true) xs → filter p xs ≡ xs
  filter_each p [] all = refl
  filter_each p (x ∷ xs) all =
      let is : p x ≡ true = All-head (λ z. p z ≡ true) x xs all in
      rw is (ap (λ (ys : List X). x ∷ ys) (filter_each p xs (All-tail (λ z. p z ≡ true) x xs all)))

  all_among : (zs xs : List X) → All (λ x. some_has xs x ≡ true) zs → All (λ x. among (keys_in order key xs) x ≡ true) zs
  all_among [] xs all = All-nil (λ x. among (keys_in order key xs) x ≡ true)
  all_among (z ∷ zs) xs all =
      All-cons (λ x. among (keys_in order key xs) x ≡ true) z zs (keys_stand order is_order key (key z) xs ∙ All-head (λ x. some_has xs x ≡ true) z zs all) (all_among zs xs (All-tail (λ x. some_has xs x ≡ true) z zs all))

  pub each_key : (xs : List X) → IsPermutation xs (flat_map (λ q. with_key key q xs) (keys_in order key xs))
  each_key xs =
      let all : filter (among (keys_in order key xs)) xs ≡ xs = filter_each (among (keys_in order key xs)) xs (all_among xs xs (each_has xs)) in
      subst (λ (ys : List X). IsPermutation ys (flat_map (λ q. with_key key q xs) (keys_in order key xs))) all (with_keys (keys_in order key xs) (keys_sorted order is_order key xs) xs)

  -- each key is that of a row
  found_at : (q : List ℕ) (x : X) (xs : List X) (b : Bool) → bytes_eq q (key x) ≡ b → (list_any (λ y. bytes_eq q (key y)) xs ≡ true → with_key key q xs ≢ []) → list_any (λ y. bytes_eq q (key y)) (x ∷ xs) ≡ true → with_key key q (x ∷ xs) ≢ []
  found_at q x xs true here rest is none = let long = ap length (rw here at none) in omega (arith, long)
  found_at q x xs false here rest is none = rest (rw here at is) (rw here at none)

  found_one : (q : List ℕ) (xs : List X) → list_any (λ x. bytes_eq q (key x)) xs ≡ true → with_key key q xs ≢ []
  found_one q [] is none = absurd cc
  found_one q (x ∷ xs) is none = found_at q x xs (bytes_eq q (key x)) refl (found_one q xs) is none

  all_stand : (more ks : List (List ℕ)) → ((q : List ℕ) → stands q ks ≡ true → stands q more ≡ true) → All (λ q. stands q more ≡ true) ks
  all_stand more [] so = All-nil (λ q. stands q more ≡ true)
  all_stand more (k ∷ ks) so =
      let here : bytes_eq k k ≡ true = same_true k k refl in
      All-cons (λ q. stands q more ≡ true) k ks (so k (rw here refl)) (all_stand more ks (λ q is. so q (later_too (bytes_eq q k) (stands q ks) is))) where
        later_too : (b c : Bool) → c ≡ true → (b || c) ≡ true
        later_too true c is = refl
        later_too false c is = is

  have_rows : (xs : List X) (ks : List (List ℕ)) → All (λ q. stands q (keys_in order key xs) ≡ true) ks → All (λ q. with_key key q xs ≢ []) ks
  have_rows xs [] all = All-nil (λ q. with_key key q xs ≢ [])
  have_rows xs (k ∷ ks) all =
      All-cons (λ q. with_key key q xs ≢ []) k ks
      (found_one k xs (sym (keys_stand order is_order key k xs) ∙ All-head (λ q. stands q (keys_in order key xs) ≡ true) k ks all))
      (have_rows xs ks (All-tail (λ q. stands q (keys_in order key xs) ≡ true) k ks all))

  pub has_rows : (xs : List X) → All (λ q. with_key key q xs ≢ []) (keys_in order key xs)
  has_rows xs = have_rows xs (keys_in order key xs) (all_stand (keys_in order key xs) (keys_in order key xs) (λ q is. is))
