-- Keys of one path, by the next number of their paths.
use Rattle.std.proofs.Common.{◌≡◌, ℕ, zero, suc, ◌+◌, ◌<◌, ◌==◌, Bool, true, false, cond, ◌&&◌, List, [], ◌∷◌, ◌++◌, length, take, get_or, refl, ap, ap₂, sym, ◌∙◌, subst, arith, rules, append-nil, eqb-true, length-append}
use Rattle.std.specs.Prelude.{All, filter, flat_map, not, nat_lt, slice_index_or}
use Rattle.std.specs.List.{AllByRecursion, range_with_len}
use Rattle.std.specs.List.Sorted.{IsStrictlySortedBy}
use Rattle.std.proofs.lemmas.List.{take_more}
use Rattle.std.specs.Cmp.{IsTotalOrder, nat_cmp_is, tied_itself}
use Rattle.std.specs.Cmp.Rules.{comparing}
use Rattle.std.specs.Cmp.Lexicographic.{slice_cmp}
use Rattle.std.specs.declared.cmp.Ordering.{Ordering}
use Rattle.std.specs.declared.cmp.Ordering.TheVariants.{Less, Equal, Greater}
use Rattle.std.specs.Ordering.{nat_cmp, ordering_then}
use Rattle.std.proofs.lemmas.Bool.Decides.{nat_tests}
use Rattle.std.proofs.lemmas.List.Concat.{flat_map-append}
use Rattle.std.proofs.lemmas.List.Elements.{All-filter, filter_passes, recursion_from_All}
use Rattle.std.proofs.lemmas.List.FromFn.{get_or-map-range_with_len, length-map-range_with_len}
use Rattle.std.proofs.lemmas.Map.Lookups.{exact_bytes}
use borrow.Author.Tests.{ltb-true, ltb-false, lt-ltb}
use Rattle.row_codec.specs.Order.{hash_of, nibble_of, path_of, path_order}
use Rattle.group_rows.specs.Keyed.{IsExactOrder, KeyOrder, keys_in}
use Rattle.group_rows.specs.Partials.{Grouping, Partial, combine, combined_by, combined_of, key_of}
use Rattle.group_rows.specs.Splitting.{HasPath, part_at}
use Rattle.group_rows.proofs.Merged.{one_each_one}
use Rattle.group_rows.proofs.Each.{is_each, keys_all, keys_each, split}
use Rattle.group_rows.proofs.Keys.{keys_sorted}
use Rattle.group_rows.proofs.Merging.{combines}

then_equal : (o p : Ordering) → ordering_then o p ≡ Equal → p ≡ Equal
then_equal Less p is = absurd cc
then_equal Equal p is = is
then_equal Greater p is = absurd cc

path_total : IsTotalOrder path_order
path_total = search (comparing, rules)

bytes_total : IsTotalOrder (slice_cmp nat_cmp)
bytes_total = search (comparing, rules)

pub path_is_order : IsExactOrder path_order
path_is_order = record {
  total = path_total;
  exact = λ a b is. exact_bytes a b (then_equal (slice_cmp nat_cmp (path_of a) (path_of b)) (slice_cmp nat_cmp a b) is);
}

pub bytes_is_order : IsExactOrder (slice_cmp nat_cmp)
bytes_is_order = record { total = bytes_total; exact = exact_bytes }

less_at : (xs ys : List ℕ) (i : ℕ) → i < length xs → i < length ys → take i xs ≡ take i ys → get_or xs i 0 < get_or ys i 0 → slice_cmp nat_cmp xs ys ≡ Less
less_at [] ys i a b same less = absurd (omega (arith, a))
less_at (x ∷ xs) [] i a b same less = absurd (omega (arith, b))
less_at (x ∷ xs) (y ∷ ys) zero a b same less = ap (λ o. ordering_then o (slice_cmp nat_cmp xs ys)) (sym (nat_cmp_is x y Less less))
less_at (x ∷ xs) (y ∷ ys) (suc i) a b same less =
    let heads : x ≡ y = cc in
    let tails : take i xs ≡ take i ys = cc in
    ap (λ o. ordering_then o (slice_cmp nat_cmp xs ys)) (sym (nat_cmp_is x y Equal heads)) ∙ less_at xs ys i (omega arith) (omega arith) tails less

digit_at : (key : List ℕ) (i : ℕ) → i < 16 → get_or (path_of key) i 0 ≡ nibble_of (hash_of key) i
unfolding path_of
digit_at key i inside = get_or-map-range_with_len (nibble_of (hash_of key)) 0 16 i i 0 inside (omega arith)

path_len : (key : List ℕ) → length (path_of key) ≡ 16
unfolding path_of
path_len key = length-map-range_with_len (nibble_of (hash_of key)) 0 16

-- keys of one path with a lower number next are lower
pub path_less : (path a b : List ℕ) → length path < 16 → take (length path) (path_of a) ≡ path → take (length path) (path_of b) ≡ path
    → nibble_of (hash_of a) (length path) < nibble_of (hash_of b) (length path) → path_order a b ≡ Less
path_less path a b short first second less =
    let da = digit_at a (length path) short in
    let db = digit_at b (length path) short in
    let paths : slice_cmp nat_cmp (path_of a) (path_of b) ≡ Less =
    less_at (path_of a) (path_of b) (length path) (omega (arith, path_len a)) (omega (arith, path_len b)) (first ∙ sym second) (omega (arith, da, db, less)) in
    ap (λ o. ordering_then o (slice_cmp nat_cmp a b)) paths

range_more : (a n : ℕ) → range_with_len a (suc n) ≡ range_with_len a n ++ (a + n) ∷ []
range_more a zero = ap (λ (m : ℕ). m ∷ []) (omega arith)
range_more a (suc n) = ap (λ (ns : List ℕ). a ∷ ns) (range_more (a + 1) n ∙ ap (λ (m : ℕ). range_with_len (a + 1) n ++ m ∷ []) (omega arith))

module _ {X : Type 0} where
  pub filter_twice : (p q r : X → Bool) → ((x : X) → (q x && p x) ≡ r x) → (xs : List X) → filter p (filter q xs) ≡ filter r xs
  filter_twice p q r both [] = refl
  filter_twice p q r both (x ∷ xs) = at (q x) (p x) (r x) (both x) (filter_twice p q r both xs) refl refl where
    at : (b c d : Bool) → (b && c) ≡ d → filter p (filter q xs) ≡ filter r xs → q x ≡ b → p x ≡ c → filter p (cond b (x ∷ filter q xs) (filter q xs)) ≡ cond d (x ∷ filter r xs) (filter r xs)
    at true true d is rest qx px = rw px (ap (λ (ys : List X). x ∷ ys) rest ∙ ap (λ (e : Bool). cond e (x ∷ filter r xs) (filter r xs)) is)
    at true false d is rest qx px = rw px (rest ∙ ap (λ (e : Bool). cond e (x ∷ filter r xs) (filter r xs)) is)
    at false c d is rest qx px = rest ∙ ap (λ (e : Bool). cond e (x ∷ filter r xs) (filter r xs)) is

  filter_all : (p : X → Bool) → ((x : X) → p x ≡ true) → (xs : List X) → filter p xs ≡ xs
  filter_all p all [] = refl
  filter_all p all (x ∷ xs) = rw (all x) (ap (λ (ys : List X). x ∷ ys) (filter_all p all xs))

lower_still : (n m : ℕ) → (nat_lt n (suc m) && nat_lt n m) ≡ nat_lt n m
lower_still n m = grind (arith, nat_tests)

lower_last : (n m : ℕ) → (nat_lt n (suc m) && not (nat_lt n m)) ≡ (n == m)
lower_last n m = grind (arith, nat_tests)

module _ (grouping : Grouping) (path : List ℕ) (short : length path < 16) where
  up_to : (m : ℕ) (partials : List Partial) → HasPath path partials
      → combined_of grouping (filter (λ p. nat_lt (nibble_of (hash_of p.key) (length path)) m) partials) ≡ flat_map (λ n. combined_of grouping (part_at (length path) partials n)) (range_with_len 0 m)
  up_to zero partials has = ap (combined_of grouping) (none partials) where
    none : (ps : List Partial) → filter (λ p. nat_lt (nibble_of (hash_of p.key) (length path)) 0) ps ≡ []
    none [] = refl
    none (p ∷ ps) = let off : nat_lt (nibble_of (hash_of p.key) (length path)) 0 ≡ false = grind (arith, nat_tests) in rw off (none ps)
  up_to (suc m) partials has =
      let below : List Partial = filter (λ p. nat_lt (nibble_of (hash_of p.key) (length path)) (suc m)) partials in
      split key_of (combine grouping) (combines grouping) path_order path_is_order (λ k. take (length path) (path_of k) ≡ path) (λ k. nat_lt (nibble_of (hash_of k) (length path)) m)
      (λ a b pa pb low high. path_less path a b short pa pb (omega (arith, ltb-true _ _ low, ltb-false _ _ high)))
      below (All-filter (λ p. nat_lt (nibble_of (hash_of p.key) (length path)) (suc m)) (λ p. take (length path) (path_of p.key) ≡ path) partials has)
      ∙ ap₂ (λ (a b : List Partial). combined_of grouping a ++ combined_of grouping b)
      (filter_twice (λ p. nat_lt (nibble_of (hash_of p.key) (length path)) m) (λ p. nat_lt (nibble_of (hash_of p.key) (length path)) (suc m)) (λ p. nat_lt (nibble_of (hash_of p.key) (length path)) m) (λ p. lower_still (nibble_of (hash_of p.key) (length path)) m) partials)
      (filter_twice (λ p. not (nat_lt (nibble_of (hash_of p.key) (length path)) m)) (λ p. nat_lt (nibble_of (hash_of p.key) (length path)) (suc m)) (λ p. nibble_of (hash_of p.key) (length path) == m) (λ p. lower_last (nibble_of (hash_of p.key) (length path)) m) partials)
      ∙ ap₂ (λ (a b : List Partial). a ++ b) (up_to m partials has) (sym (append-nil (combined_of grouping (part_at (length path) partials m))))
      ∙ sym (flat_map-append (λ n. combined_of grouping (part_at (length path) partials n)) (range_with_len 0 m) (m ∷ []))
      ∙ ap (flat_map (λ n. combined_of grouping (part_at (length path) partials n))) (sym (range_more 0 m ∙ ap (λ (n : ℕ). range_with_len 0 m ++ n ∷ []) (omega arith)))

  pub by_path : (partials : List Partial) → HasPath path partials → combined_of grouping partials ≡ flat_map (λ n. combined_of grouping (part_at (length path) partials n)) (range_with_len 0 16)
  by_path partials has =
      ap (combined_of grouping) (sym (filter_all (λ p. nat_lt (nibble_of (hash_of p.key) (length path)) 16) (λ p. lt-ltb (nibble_of (hash_of p.key) (length path)) 16 (omega arith)) partials))
      ∙ up_to 16 partials has

-- a part has a path that is one longer
pub path_grows : (path : List ℕ) (n : ℕ) (partials : List Partial) → length path < 16 → HasPath path partials → HasPath (path ++ n ∷ []) (part_at (length path) partials n)
path_grows path n partials short has =
    let below = All-filter (λ p. nibble_of (hash_of p.key) (length path) == n) (λ p. take (length path) (path_of p.key) ≡ path) partials has in
    let at = filter_passes (λ p. nibble_of (hash_of p.key) (length path) == n) partials in
    λ k d inside. grown path n (slice_index_or (part_at (length path) partials n) k d).key short (below k d inside) (eqb-true _ _ (at k d inside))
  where
    grown : (path : List ℕ) (n : ℕ) (key : List ℕ) → length path < 16 → take (length path) (path_of key) ≡ path → nibble_of (hash_of key) (length path) ≡ n → take (length (path ++ n ∷ [])) (path_of key) ≡ path ++ n ∷ []
    grown path n key short below digit =
        let long : length (path ++ n ∷ []) ≡ length path + 1 = length-append path (n ∷ []) in
        rw long (take_more (path_of key) (length path) 0 (omega (arith, path_len key))
        ∙ ap₂ (λ (a : List ℕ) (b : ℕ). a ++ b ∷ []) below (digit_at key (length path) short ∙ digit))

-- keys that two orders order alike
module _ (R S : KeyOrder) (P : List ℕ → Type 0) (alike : (a b : List ℕ) → P a → P b → R a b ≡ S a b) where
  alike_behind : (k : List ℕ) (ks : List (List ℕ)) → P k → AllByRecursion P ks → AllByRecursion (λ y. R k y ≡ Less) ks → AllByRecursion (λ y. S k y ≡ Less) ks
  alike_behind k [] here all less = tt
  alike_behind k (y ∷ ks) here all less = (sym (alike k y here all.0) ∙ less.0, alike_behind k ks here all.1 less.1)

  sorted_alike : (ks : List (List ℕ)) → AllByRecursion P ks → IsStrictlySortedBy R ks → IsStrictlySortedBy S ks
  unfolding IsStrictlySortedBy
  sorted_alike [] all s = tt
  sorted_alike (k ∷ ks) all s = (alike_behind k ks all.0 all.1 s.0, sorted_alike ks all.1 s.1)

pub one_path : (grouping : Grouping) (path : List ℕ) (partials : List Partial) → All (λ p. path_of p.key ≡ path) partials → combined_of grouping partials ≡ combined_by (slice_cmp nat_cmp) grouping partials
one_path grouping path partials one =
    is_each key_of (combine grouping) (combines grouping) path_order path_is_order (combined_by (slice_cmp nat_cmp) grouping partials) partials
    (subst (IsStrictlySortedBy path_order) (sym (keys_each key_of (combine grouping) (combines grouping) (slice_cmp nat_cmp) bytes_is_order partials))
    (sorted_alike (slice_cmp nat_cmp) path_order (λ k. path_of k ≡ path)
    (λ a b pa pb. sym (ap (λ o. ordering_then o (slice_cmp nat_cmp a b)) (ap (λ (x : List ℕ). slice_cmp nat_cmp x (path_of b)) (pa ∙ sym pb) ∙ tied_itself bytes_total (path_of b))))
    (keys_in (slice_cmp nat_cmp) key_of partials)
    (recursion_from_All (λ k. path_of k ≡ path) (keys_in (slice_cmp nat_cmp) key_of partials)
    (keys_all key_of (combine grouping) (combines grouping) (slice_cmp nat_cmp) bytes_is_order (λ k. path_of k ≡ path) partials one))
    (keys_sorted (slice_cmp nat_cmp) bytes_is_order key_of partials)))
    (λ q. one_each_one key_of (combine grouping) (combines grouping) (slice_cmp nat_cmp) bytes_is_order q partials)
