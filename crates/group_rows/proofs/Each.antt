-- One element for each key: which lists are that, and its parts.
use Rattle.std.proofs.Common.{◌≡◌, inl, inr, ℕ, Bool, true, false, ◌||◌, List, [], ◌∷◌, ◌++◌, map, Option, Some, None, refl, ap, ap₂, sym, ◌∙◌, subst, true≢false}
use Rattle.std.specs.Prelude.{All, fold, filter, filter_map, not, slice_index_or, is_some}
use Rattle.std.specs.BTreeSet.{insert_key}
use Rattle.std.specs.List.{AllByRecursion, list_any, cons_option}
use Rattle.std.specs.List.Sorted.{IsStrictlySortedBy}
use Rattle.std.specs.Str.{bytes_eq}
use Rattle.std.specs.declared.cmp.Ordering.TheVariants.{Less, Equal}
use Rattle.std.specs.Cmp.{tied_itself}
use Rattle.std.proofs.lemmas.Bool.{cases_Bool}
use Rattle.std.proofs.lemmas.List.{map-append}
use Rattle.std.proofs.lemmas.List.Elements.{All-nil, All-head, All-tail, All-filter, filter_passes, recursion_from_All}
use Rattle.std.proofs.lemmas.List.Sorted.{IsPermutation-filter_both}
use Rattle.std.proofs.lemmas.Map.Views.{All-insert_key}
use Rattle.group_rows.specs.Keyed.{IsExactOrder, KeyOrder, keys_in, one_each, one_of}
use Rattle.group_rows.proofs.Bags.{one_order}
use Rattle.group_rows.proofs.Merged.{HasKey, IsMerge, map_agree, merged, one_append, one_cons, one_each_one, one_key, one_some}
use Rattle.group_rows.proofs.Keys.{keys_sorted, keys_stand, none_behind, same_keys, same_true, sorted_append, stands, true_same}

weaker : {P Q : List ℕ → Type 0} → ((k : List ℕ) → P k → Q k) → (ks : List (List ℕ)) → AllByRecursion P ks → AllByRecursion Q ks
weaker h [] all = tt
weaker h (k ∷ ks) all = (h k all.0, weaker h ks all.1)

-- each key of a list stands in it
pub each_stands : (ks : List (List ℕ)) → AllByRecursion (λ k. stands k ks ≡ true) ks
each_stands [] = tt
each_stands (k ∷ ks) = (
  (let is : bytes_eq k k ≡ true = same_true k k refl in rw is refl),
  weaker {P = λ q. stands q ks ≡ true} {Q = λ q. stands q (k ∷ ks) ≡ true} (λ q is. more (bytes_eq q k) (stands q ks) is) ks (each_stands ks),
)
  where
    more : (b c : Bool) → c ≡ true → (b || c) ≡ true
    more true c is = refl
    more false c is = is

filter_maps : {Y : Type 0} (f g : List ℕ → Option Y) (ks : List (List ℕ)) → AllByRecursion (λ k. f k ≡ g k) ks → filter_map f ks ≡ filter_map g ks
filter_maps f g [] all = refl
filter_maps f g (k ∷ ks) all = ap₂ (λ (o : Option _) (ys : List _). cons_option o ys) all.0 (filter_maps f g ks all.1)

pub all_chosen : {Y : Type 0} (f : List ℕ → Option Y) (g : List ℕ → Y) (ks : List (List ℕ)) → AllByRecursion (λ k. f k ≡ Some (g k)) ks → filter_map f ks ≡ map g ks
all_chosen f g [] all = refl
all_chosen f g (k ∷ ks) all = ap₂ (λ (o : Option _) (ys : List _). cons_option o ys) all.0 (all_chosen f g ks all.1)

module _ (R : KeyOrder) (is_order : IsExactOrder R) {X : Type 0} (key : X → List ℕ) where
  -- whatever is asked of a key that an element has
  pub of_each : (P : List ℕ → Type 0) (xs : List X) → ((q : List ℕ) → list_any (λ x. bytes_eq q (key x)) xs ≡ true → P q) → AllByRecursion P (keys_in R key xs)
  of_each P xs h = weaker {P = λ q. stands q (keys_in R key xs) ≡ true} {Q = P} (λ q is. h q (sym (keys_stand R is_order key q xs) ∙ is)) (keys_in R key xs) (each_stands (keys_in R key xs))

module _ {X : Type 0} (key : X → List ℕ) (merge : X → X → X) (laws : IsMerge key merge) (R : KeyOrder) (is_order : IsExactOrder R) where
  keys_step : (o : Option X) (k : List ℕ) (ys : List X) (ks : List (List ℕ)) → is_some o ≡ true → HasKey key merge laws k o → map key ys ≡ ks → map key (cons_option o ys) ≡ k ∷ ks
  keys_step None k ys ks some has same = absurd (true≢false (sym some))
  keys_step (Some x) k ys ks some has same = ap₂ (λ (a : List ℕ) (b : List (List ℕ)). a ∷ b) (has x refl) same

  keys_chosen : (f : List ℕ → Option X) → ((k : List ℕ) → HasKey key merge laws k (f k)) → (ks : List (List ℕ)) → AllByRecursion (λ k. is_some (f k) ≡ true) ks → map key (filter_map f ks) ≡ ks
  keys_chosen f has [] all = refl
  keys_chosen f has (k ∷ ks) all = keys_step (f k) k (filter_map f ks) ks all.0 (has k) (keys_chosen f has ks all.1)

  -- its keys are the distinct keys in order
  pub keys_each : (xs : List X) → map key (one_each R key merge xs) ≡ keys_in R key xs
  keys_each xs =
      keys_chosen (λ q. one_of key merge q xs) (λ q. one_key key merge laws q xs) (keys_in R key xs)
      (of_each R is_order key (λ q. is_some (one_of key merge q xs) ≡ true) xs (λ q is. one_some key merge laws q xs ∙ is))

  stands_map : (q : List ℕ) (zs : List X) → stands q (map key zs) ≡ list_any (λ x. bytes_eq q (key x)) zs
  stands_map q [] = refl
  stands_map q (z ∷ zs) = ap (λ (b : Bool). bytes_eq q (key z) || b) (stands_map q zs)

  none_of : (q : List ℕ) (zs : List X) → AllByRecursion (λ y. R q y ≡ Less) (map key zs) → one_of key merge q zs ≡ None
  none_of q zs all = at (one_of key merge q zs) (one_some key merge laws q zs ∙ sym (stands_map q zs) ∙ none_behind R is_order q (map key zs) all) where
    at : (o : Option X) → is_some o ≡ false → o ≡ None
    at None is = refl
    at (Some x) is = absurd (true≢false is)

  distinct : (a b : List ℕ) → R a b ≡ Less → bytes_eq b a ≡ false
  distinct a b less = elim (cases_Bool (bytes_eq b a)) [
    | inl is ↦
        let same : b ≡ a = true_same b a is in
        let tied : R a b ≡ Equal = ap (R a) same ∙ tied_itself is_order.total a in
        absurd cc
    | inr off ↦ off
  ]

  itself : (zs : List X) → IsStrictlySortedBy R (map key zs) → filter_map (λ q. one_of key merge q zs) (map key zs) ≡ zs
  unfolding IsStrictlySortedBy
  itself [] s = refl
  itself (z ∷ zs) s =
      let at_z : bytes_eq (key z) (key z) ≡ true = same_true (key z) (key z) refl in
      let first : one_of key merge (key z) (z ∷ zs) ≡ Some z = one_cons key merge laws (key z) z zs ∙ rw at_z (ap (merged key merge laws (Some z)) (none_of (key z) zs s.0)) in
      let others : AllByRecursion (λ q. one_of key merge q (z ∷ zs) ≡ one_of key merge q zs) (map key zs) =
      weaker {P = λ y. R (key z) y ≡ Less} {Q = λ q. one_of key merge q (z ∷ zs) ≡ one_of key merge q zs}
      (λ q less. let off : bytes_eq q (key z) ≡ false = distinct (key z) q less in one_cons key merge laws q z zs ∙ rw off refl) (map key zs) s.0 in
      ap₂ (λ (o : Option X) (ys : List X). cons_option o ys) first
      (filter_maps (λ q. one_of key merge q (z ∷ zs)) (λ q. one_of key merge q zs) (map key zs) others ∙ itself zs s.1)

  -- a list in order that has the same for each key is that list
  pub is_each : (zs xs : List X) → IsStrictlySortedBy R (map key zs) → ((q : List ℕ) → one_of key merge q zs ≡ one_of key merge q xs) → one_each R key merge xs ≡ zs
  is_each zs xs s same =
      let keys : keys_in R key xs ≡ map key zs =
      same_keys R is_order (keys_in R key xs) (map key zs) (keys_sorted R is_order key xs) s
      (λ q. keys_stand R is_order key q xs ∙ sym (one_some key merge laws q xs) ∙ ap is_some (sym (same q)) ∙ one_some key merge laws q zs ∙ sym (stands_map q zs)) in
      ap (filter_map (λ q. one_of key merge q xs)) keys
      ∙ map_agree (λ q. one_of key merge q xs) (λ q. one_of key merge q zs) (λ q. sym (same q)) (map key zs)
      ∙ itself zs s

  pub fold_all : (P : List ℕ → Type 0) (xs : List X) (ks : List (List ℕ)) → All P ks → All (λ x. P (key x)) xs → All P (fold (λ keys x. insert_key R keys (key x)) ks xs)
  fold_all P [] ks all each = all
  fold_all P (x ∷ xs) ks all each =
      fold_all P xs (insert_key R ks (key x)) (All-insert_key R (key x) P ks all (All-head (λ x. P (key x)) x xs each)) (All-tail (λ x. P (key x)) x xs each)

  pub keys_all : (P : List ℕ → Type 0) (xs : List X) → All (λ x. P (key x)) xs → All P (keys_in R key xs)
  keys_all P xs each = fold_all P xs [] (All-nil P) each

  not_true : (b : Bool) → not b ≡ true → b ≡ false
  not_true true is = absurd (true≢false (sym is))
  not_true false is = refl

  -- what a test of the keys parts, the lower ones first
  pub split : (P : List ℕ → Type 0) (low : List ℕ → Bool) → ((a b : List ℕ) → P a → P b → low a ≡ true → low b ≡ false → R a b ≡ Less) → (xs : List X) → All (λ x. P (key x)) xs
      → one_each R key merge xs ≡ one_each R key merge (filter (λ x. low (key x)) xs) ++ one_each R key merge (filter (λ x. not (low (key x))) xs)
  split P low below xs all =
      let lows : List X = filter (λ x. low (key x)) xs in
      let highs : List X = filter (λ x. not (low (key x))) xs in
      let low_keys : All (λ k. low k ≡ true) (keys_in R key lows) = keys_all (λ k. low k ≡ true) lows (filter_passes (λ x. low (key x)) xs) in
      let high_pass = filter_passes (λ x. not (low (key x))) xs in
      let high_keys : All (λ k. low k ≡ false) (keys_in R key highs) = keys_all (λ k. low k ≡ false) highs (λ k d inside. not_true _ (high_pass k d inside)) in
      let low_p : All P (keys_in R key lows) = keys_all P lows (All-filter (λ x. low (key x)) (λ x. P (key x)) xs all) in
      let high_p : All P (keys_in R key highs) = keys_all P highs (All-filter (λ x. not (low (key x))) (λ x. P (key x)) xs all) in
      let below_all : AllByRecursion (λ k. AllByRecursion (λ l. R k l ≡ Less) (keys_in R key highs)) (keys_in R key lows) =
      recursion_from_All (λ k. AllByRecursion (λ l. R k l ≡ Less) (keys_in R key highs)) (keys_in R key lows)
      (λ i d inside. recursion_from_All (λ l. R (slice_index_or (keys_in R key lows) i d) l ≡ Less) (keys_in R key highs)
      (λ j e within. below _ _ (low_p i d inside) (high_p j e within) (low_keys i d inside) (high_keys j e within))) in
      is_each (one_each R key merge lows ++ one_each R key merge highs) xs
      (subst (IsStrictlySortedBy R) (sym (map-append key (one_each R key merge lows) (one_each R key merge highs) ∙ ap₂ (λ (a b : List (List ℕ)). a ++ b) (keys_each lows) (keys_each highs)))
      (sorted_append R is_order (keys_in R key lows) (keys_in R key highs) (keys_sorted R is_order key lows) (keys_sorted R is_order key highs) below_all))
      (λ q.
      one_append key merge laws q (one_each R key merge lows) (one_each R key merge highs)
      ∙ ap₂ (λ (a b : Option X). merged key merge laws a b) (one_each_one key merge laws R is_order q lows) (one_each_one key merge laws R is_order q highs)
      ∙ sym (one_append key merge laws q lows highs)
      ∙ one_order key merge laws q xs (lows ++ highs) (IsPermutation-filter_both (λ x. low (key x)) (λ x. not (low (key x))) (λ x. refl) xs))
