-- The rows' own partial results, combined, are the groups.
use Rattle.std.proofs.Common.{◌≡◌, inl, inr, ℕ, zero, suc, Bool, true, false, cond, List, [], ◌∷◌, map, length, Option, Some, refl, ap, ap₂, sym, ◌∙◌, arith, rules, true≢false}
use Rattle.std.specs.Prelude.{All, fold, filter_map, ℤ, pos, ◌+ℤ◌, FitsSigned}
use Rattle.std.specs.BTreeSet.{insert_key}
use Rattle.std.specs.Int.{w64, w128, int_wrap, int_min, int_max}
use Rattle.std.specs.List.{AllByRecursion, list_any}
use Rattle.std.specs.Str.{bytes_eq}
use Rattle.std.proofs.lemmas.Bool.{cases_Bool}
use Rattle.std.proofs.lemmas.Int.{ints, int_wrap_fits, int_wrap-add_right}
use Rattle.std.proofs.lemmas.List.Elements.{All-head, All-tail, All-filter, filter_passes}
use Rattle.row_codec.specs.declared.values.Agg.{Agg}
use Rattle.row_codec.specs.declared.values.Agg.TheVariants.{Count, Sum, Min, Max}
use Rattle.row_codec.specs.declared.values.Value.{Value}
use Rattle.row_codec.specs.declared.values.Value.TheVariants.{Int, Text, Wide}
use Rattle.row_codec.specs.Row.{IsValue}
use Rattle.row_codec.specs.RowBytes.{key_bytes}
use Rattle.group_rows.specs.Aggregates.{aggregate, combined_number, number_at, number_of, numbers_at, own_number, total}
use Rattle.group_rows.specs.Combining.{AreValues}
use Rattle.group_rows.specs.Keyed.{IsExactOrder, KeyOrder, as_one, keys_in, merge_front, one_of, with_key}
use Rattle.group_rows.specs.Partials.{Grouping, Partial, combine, combined_by, combined_numbers, group_in, groups_by, key_of, partial_of}
use Rattle.group_rows.proofs.Each.{all_chosen, of_each}
use Rattle.group_rows.proofs.Merging.{max_parts, min_parts}
use Rattle.group_rows.proofs.Keys.{true_same}

-- ---- numbers
fits_more : (z : ℤ) → FitsSigned w64 z → FitsSigned w128 z
fits_more z fits = omega (arith, ints, fits)

value_fits : (v : Value) → IsValue v → FitsSigned w128 (number_of v)
value_fits (Int z) is = fits_more z is
value_fits (Text text) is = search rules
value_fits (Wide z) is = is

pub number_fits : (column : ℕ) (row : List Value) → All IsValue row → FitsSigned w128 (number_at column row)
number_fits column [] all = search rules
number_fits zero (v ∷ row) all = value_fits v (All-head IsValue v row all)
number_fits (suc column) (v ∷ row) all = number_fits column row (All-tail IsValue v row all)

pub total_from : (a : ℤ) (ns : List ℤ) → fold ◌+ℤ◌ a ns ≡ a +ℤ total ns
total_from a [] = omega (arith, ints)
total_from a (n ∷ ns) =
    let whole = total_from (a +ℤ n) ns in
    let rest = total_from (pos 0 +ℤ n) ns in
    omega (arith, ints, whole, rest)

pub min_from : (a m : ℤ) (ms : List ℤ) → int_min a (fold int_min m ms) ≡ fold int_min (int_min a m) ms
min_from a m [] = refl
min_from a m (n ∷ ms) = min_from a (int_min m n) ms ∙ ap (λ (z : ℤ). fold int_min z ms) (sym (min_parts a m n))

pub max_from : (a m : ℤ) (ms : List ℤ) → int_max a (fold int_max m ms) ≡ fold int_max (int_max a m) ms
max_from a m [] = refl
max_from a m (n ∷ ms) = max_from a (int_max m n) ms ∙ ap (λ (z : ℤ). fold int_max z ms) (sym (max_parts a m n))

-- ---- one aggregate
of_one : (agg : Agg) (row : List Value) → All IsValue row → own_number agg row ≡ aggregate agg (row ∷ [])
of_one Count row all = sym (int_wrap_fits w128 (pos 1) (search rules))
of_one (Sum column) row all =
    let alone : pos 0 +ℤ number_at column row ≡ number_at column row = omega (arith, ints) in
    sym (ap (int_wrap w128) alone ∙ int_wrap_fits w128 (number_at column row) (number_fits column row all))
of_one (Min column) row all = refl
of_one (Max column) row all = refl

of_more : (agg : Agg) (row next : List Value) (rows : List (List Value)) → combined_number agg (own_number agg row) (aggregate agg (next ∷ rows)) ≡ aggregate agg (row ∷ next ∷ rows)
of_more Count row next rows =
    let many : pos 1 +ℤ pos (length (next ∷ rows)) ≡ pos (length (row ∷ next ∷ rows)) = ap pos (omega arith) in
    int_wrap-add_right w128 (pos 1) (pos (length (next ∷ rows))) ∙ ap (int_wrap w128) many
of_more (Sum column) row next rows =
    let ns : List ℤ = numbers_at column (next ∷ rows) in
    let alone : pos 0 +ℤ number_at column row ≡ number_at column row = omega (arith, ints) in
    int_wrap-add_right w128 (number_at column row) (total (numbers_at column (next ∷ rows)))
    ∙ ap (int_wrap w128) (sym (total_from (number_at column row) (numbers_at column (next ∷ rows))) ∙ ap (λ (z : ℤ). fold ◌+ℤ◌ z (numbers_at column (next ∷ rows))) (sym alone))
of_more (Min column) row next rows = min_from (number_at column row) (number_at column next) (numbers_at column rows)
of_more (Max column) row next rows = max_from (number_at column row) (number_at column next) (numbers_at column rows)

-- ---- all aggregates
map_same : {A B : Type 0} (f g : A → B) → ((x : A) → f x ≡ g x) → (xs : List A) → map f xs ≡ map g xs
map_same f g same [] = refl
map_same f g same (x ∷ xs) = ap₂ (λ (y : _) (ys : List _). y ∷ ys) (same x) (map_same f g same xs)

combined_maps : (a b : Agg → ℤ) (aggs : List Agg) → combined_numbers aggs (map a aggs) (map b aggs) ≡ map (λ agg. combined_number agg (a agg) (b agg)) aggs
combined_maps a b [] = refl
combined_maps a b (agg ∷ aggs) = ap (λ (ns : List ℤ). combined_number agg (a agg) (b agg) ∷ ns) (combined_maps a b aggs)

-- the aggregates of these rows under a key
abbrev group_with : Grouping → List ℕ → List (List Value) → Partial
group_with grouping q rows = record { key = q; numbers = map (λ agg. aggregate agg rows) grouping.aggs }

as_group : (grouping : Grouping) (q : List ℕ) (row : List Value) (rows : List (List Value)) → All (λ r. key_bytes grouping.keys r ≡ q) (row ∷ rows) → AreValues (row ∷ rows)
    → as_one (combine grouping) (map (partial_of grouping) (row ∷ rows)) ≡ Some (group_with grouping q (row ∷ rows))
as_group grouping q row [] keys values =
    let of_q : key_bytes grouping.keys row ≡ q = All-head (λ r. key_bytes grouping.keys r ≡ q) row [] keys in
    let good : All IsValue row = All-head (λ r. All IsValue r) row [] values in
    ap₂ (λ (k : List ℕ) (ns : List ℤ). Some (record { key = k; numbers = ns })) of_q (map_same (λ agg. own_number agg row) (λ agg. aggregate agg (row ∷ [])) (λ agg. of_one agg row good) grouping.aggs)
as_group grouping q row (next ∷ rows) keys values =
    let of_q : key_bytes grouping.keys row ≡ q = All-head (λ r. key_bytes grouping.keys r ≡ q) row (next ∷ rows) keys in
    let rest = as_group grouping q next rows (All-tail (λ r. key_bytes grouping.keys r ≡ q) row (next ∷ rows) keys) (All-tail (λ r. All IsValue r) row (next ∷ rows) values) in
    ap (λ (o : Option Partial). Some (merge_front (combine grouping) (partial_of grouping row) o)) rest
    ∙ ap₂ (λ (k : List ℕ) (ns : List ℤ). Some (record { key = k; numbers = ns })) of_q
    (combined_maps (λ agg. own_number agg row) (λ agg. aggregate agg (next ∷ rows)) grouping.aggs
    ∙ map_same (λ agg. combined_number agg (own_number agg row) (aggregate agg (next ∷ rows))) (λ agg. aggregate agg (row ∷ next ∷ rows)) (λ agg. of_more agg row next rows) grouping.aggs)

some_group : (grouping : Grouping) (q : List ℕ) (rows : List (List Value)) → (rows ≡ [] → ⊥) → All (λ r. key_bytes grouping.keys r ≡ q) rows → AreValues rows
    → as_one (combine grouping) (map (partial_of grouping) rows) ≡ Some (group_with grouping q rows)
some_group grouping q [] some keys values = absurd (some refl)
some_group grouping q (row ∷ rows) some keys values = as_group grouping q row rows keys values

-- ---- keys
with_map : (grouping : Grouping) (q : List ℕ) (rows : List (List Value)) → with_key key_of q (map (partial_of grouping) rows) ≡ map (partial_of grouping) (with_key (key_bytes grouping.keys) q rows)
with_map grouping q [] = refl
with_map grouping q (row ∷ rows) = at (bytes_eq q (key_bytes grouping.keys row)) (with_map grouping q rows) where
  at : (b : Bool) → with_key key_of q (map (partial_of grouping) rows) ≡ map (partial_of grouping) (with_key (key_bytes grouping.keys) q rows)
      → cond b (partial_of grouping row ∷ with_key key_of q (map (partial_of grouping) rows)) (with_key key_of q (map (partial_of grouping) rows))
      ≡ map (partial_of grouping) (cond b (row ∷ with_key (key_bytes grouping.keys) q rows) (with_key (key_bytes grouping.keys) q rows))
  at true rest = ap (λ (ps : List Partial). partial_of grouping row ∷ ps) rest
  at false rest = rest

keys_map : (order : KeyOrder) (grouping : Grouping) (rows : List (List Value)) (ks : List (List ℕ))
    → fold (λ keys p. insert_key order keys (key_of p)) ks (map (partial_of grouping) rows) ≡ fold (λ keys row. insert_key order keys (key_bytes grouping.keys row)) ks rows
keys_map order grouping [] ks = refl
keys_map order grouping (row ∷ rows) ks = keys_map order grouping rows (insert_key order ks (key_bytes grouping.keys row))

some_with : (columns q : List ℕ) (rows : List (List Value)) → list_any (λ r. bytes_eq q (key_bytes columns r)) rows ≡ true → with_key (key_bytes columns) q rows ≡ [] → ⊥
some_with columns q [] is none = true≢false (sym is)
some_with columns q (row ∷ rows) is none = elim (cases_Bool (bytes_eq q (key_bytes columns row))) [
  | inl here ↦ let some : row ∷ with_key (key_bytes columns) q rows ≡ [] = rw here at none in absurd cc
  | inr off ↦
      let rest : with_key (key_bytes columns) q rows ≡ [] = rw off at none in
      let more : list_any (λ r. bytes_eq q (key_bytes columns r)) rows ≡ true = rw off at is in
      some_with columns q rows more rest
]

pub gives : (order : KeyOrder) → IsExactOrder order → (grouping : Grouping) (rows : List (List Value)) → AreValues rows → combined_by order grouping (map (partial_of grouping) rows) ≡ groups_by order grouping rows
gives order is_order grouping rows values =
    ap (filter_map (λ q. one_of key_of (combine grouping) q (map (partial_of grouping) rows))) (keys_map order grouping rows [])
    ∙ all_chosen (λ q. one_of key_of (combine grouping) q (map (partial_of grouping) rows)) (group_in grouping rows) (keys_in order (key_bytes grouping.keys) rows)
    (of_rows (λ q. one_of key_of (combine grouping) q (map (partial_of grouping) rows) ≡ Some (group_in grouping rows q))
    (λ q is.
    ap (as_one (combine grouping)) (with_map grouping q rows)
    ∙ some_group grouping q (with_key (key_bytes grouping.keys) q rows) (some_with grouping.keys q rows is)
    (λ k d inside. sym (true_same q _ (filter_passes (λ r. bytes_eq q (key_bytes grouping.keys r)) rows k d inside)))
    (All-filter (λ r. bytes_eq q (key_bytes grouping.keys r)) (λ r. All IsValue r) rows values)))
  where
    of_rows : (P : List ℕ → Type 0) → ((q : List ℕ) → list_any (λ r. bytes_eq q (key_bytes grouping.keys r)) rows ≡ true → P q) → AllByRecursion P (keys_in order (key_bytes grouping.keys) rows)
    of_rows P h = of_each order is_order (key_bytes grouping.keys) P rows h
