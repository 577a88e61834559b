-- A partial row's bytes are bytes of its row and sixteen for each aggregate.
use Rattle.std.proofs.Common.{◌≡◌, ◌≢◌, ℕ, zero, suc, ◌+◌, ◌*◌, ◌≤◌, ◌==◌, false, List, [], ◌∷◌, ◌++◌, map, length, get_or, set, refl, ap, ap₂, sym, ◌∙◌, arith, length-append, get_or-set_other}
use Rattle.std.specs.Prelude.{All, flat_map, slice_get, ℤ}
use Rattle.std.specs.Int.{w32, to_be_bytes}
use Rattle.std.specs.List.{AllByRecursion, IsDistinct, sum_by, cons_option}
use Rattle.std.proofs.lemmas.List.Concat.{length-flat_map}
use Rattle.std.proofs.lemmas.List.Sums.{sum_by-cons, sum_by-append}
use Rattle.std.proofs.lemmas.Bool.{eqb-false}
use Rattle.std.proofs.lemmas.List.Elements.{All-head, All-tail}
use Rattle.row_codec.specs.declared.values.Agg.{Agg}
use Rattle.row_codec.specs.declared.values.Value.{Value}
use Rattle.row_codec.specs.declared.values.Value.TheVariants.{Int, Text, Wide}
use Rattle.row_codec.specs.RowBytes.{field_bytes, key_part, row_bytes, values_in}
use Rattle.group_rows.specs.Aggregates.{own_number}
use Rattle.group_rows.specs.Partials.{Grouping}
use Rattle.group_rows.specs.Rows.{IsKeyValue, partial_row}

-- the sum of the sizes in distinct columns, those outside counted as 0
abbrev picked : List ℕ → List ℕ → ℕ
picked sizes columns = sum_by (λ c. get_or sizes c 0) columns

picked_same : (sizes new columns : List ℕ) → AllByRecursion (λ c. get_or new c 0 ≡ get_or sizes c 0) columns → picked new columns ≡ picked sizes columns
picked_same sizes new [] all = refl
picked_same sizes new (c ∷ cs) all =
    sum_by-cons (λ c. get_or new c 0) c cs ∙ ap₂ (λ (a b : ℕ). a + b) all.0 (picked_same sizes new cs all.1) ∙ sym (sum_by-cons (λ c. get_or sizes c 0) c cs)

others : (sizes : List ℕ) (c : ℕ) (cs : List ℕ) → AllByRecursion (λ d. (c == d) ≡ false) cs → AllByRecursion (λ d. get_or (set sizes c 0) d 0 ≡ get_or sizes d 0) cs
others sizes c [] all = tt
others sizes c (d ∷ cs) all =
    ((let ne : c ≢ d = eqb-false c d all.0 in get_or-set_other sizes c d 0 0 (λ e. ne (sym e))), others sizes c cs all.1)

past : (sizes : List ℕ) (c : ℕ) → length sizes ≤ c → get_or sizes c 0 ≡ 0
past [] c out = refl
past (n ∷ sizes) zero out = absurd (omega (arith, out))
past (n ∷ sizes) (suc c) out = past sizes c (omega (arith, out))

past_set : (sizes : List ℕ) (c : ℕ) → length sizes ≤ c → set sizes c 0 ≡ sizes
past_set [] c out = refl
past_set (n ∷ sizes) zero out = absurd (omega (arith, out))
past_set (n ∷ sizes) (suc c) out = ap (λ (ns : List ℕ). n ∷ ns) (past_set sizes c (omega (arith, out)))

taken : (sizes : List ℕ) (c : ℕ) → sum_by (λ n. n) (set sizes c 0) + get_or sizes c 0 ≡ sum_by (λ n. n) sizes
taken [] c = refl
taken (n ∷ sizes) zero = omega (arith, sum_by-cons (λ n. n) 0 sizes, sum_by-cons (λ n. n) n sizes)
taken (n ∷ sizes) (suc c) = omega (arith, sum_by-cons (λ n. n) n (set sizes c 0), sum_by-cons (λ n. n) n sizes, taken sizes c)

picked_few : (columns sizes : List ℕ) → IsDistinct ◌==◌ columns → picked sizes columns ≤ sum_by (λ n. n) sizes
unfolding IsDistinct
picked_few [] sizes distinct = omega arith
picked_few (c ∷ cs) sizes distinct =
    let rest = picked_few cs (set sizes c 0) distinct.1 in
    let same = picked_same sizes (set sizes c 0) cs (others sizes c cs distinct.0) in
    omega (arith, rest, same, taken sizes c, sum_by-cons (λ c. get_or sizes c 0) c cs)

-- how long a field is
abbrev pub size : Value → ℕ
size v = length (field_bytes v)

one_size : (row : List Value) (c : ℕ) (vs : List Value) (rest : ℕ) → sum_by size vs ≡ rest → sum_by size (cons_option (slice_get row c) vs) ≡ get_or (map size row) c 0 + rest
one_size [] c vs rest is = is ∙ omega arith
one_size (v ∷ row) zero vs rest is = sum_by-cons size v vs ∙ ap (λ (n : ℕ). size v + n) is
one_size (v ∷ row) (suc c) vs rest is = one_size row c vs rest is

sizes_in : (columns : List ℕ) (row : List Value) → sum_by size (values_in columns row) ≡ picked (map size row) columns
sizes_in [] row = refl
sizes_in (c ∷ cs) row = one_size row c (values_in cs row) (picked (map size row) cs) (sizes_in cs row) ∙ sym (sum_by-cons (λ c. get_or (map size row) c 0) c cs)

sum_map : (row : List Value) → sum_by (λ n. n) (map size row) ≡ sum_by size row
sum_map [] = refl
sum_map (v ∷ row) = sum_by-cons (λ n. n) (size v) (map size row) ∙ ap (λ (n : ℕ). size v + n) (sum_map row) ∙ sym (sum_by-cons size v row)

wides : (aggs : List Agg) (row : List Value) → sum_by size (map (λ agg. Wide (own_number agg row)) aggs) ≡ 16 * length aggs
wides [] row = refl
wides (agg ∷ aggs) row = sum_by-cons size (Wide (own_number agg row)) (map (λ agg. Wide (own_number agg row)) aggs) ∙ omega (arith, wides aggs row)

pub row_length : (row : List Value) → length (row_bytes row) ≡ 4 + sum_by size row
unfolding row_bytes
row_length row = length-append (to_be_bytes w32 (length (flat_map field_bytes row))) (flat_map field_bytes row) ∙ ap (λ (n : ℕ). 4 + n) (length-flat_map field_bytes row)

pub fits_weight : (grouping : Grouping) (row : List Value) → IsDistinct ◌==◌ grouping.keys → length (row_bytes (partial_row grouping row)) ≤ length (row_bytes row) + 16 * length grouping.aggs
fits_weight grouping row distinct =
    let few = picked_few grouping.keys (map size row) distinct in
    let parts = sum_by-append size (values_in grouping.keys row) (map (λ agg. Wide (own_number agg row)) grouping.aggs) in
    omega (arith, few, parts, sizes_in grouping.keys row, sum_map row, wides grouping.aggs row, row_length row, row_length (partial_row grouping row))

pub wide_sizes : (ns : List ℤ) → sum_by size (map Wide ns) ≡ 16 * length ns
wide_sizes [] = refl
wide_sizes (n ∷ ns) = sum_by-cons size (Wide n) (map Wide ns) ∙ omega (arith, wide_sizes ns)

pub stay_as_long : (values : List Value) (ms ns : List ℤ) → length ms ≡ length ns → length (row_bytes (values ++ map Wide ms)) ≡ length (row_bytes (values ++ map Wide ns))
stay_as_long values ms ns same =
    omega (arith, same, row_length (values ++ map Wide ms), row_length (values ++ map Wide ns), sum_by-append size values (map Wide ms), sum_by-append size values (map Wide ns), wide_sizes ms, wide_sizes ns)

part_length : (v : Value) → IsKeyValue v → length (key_part v) ≡ suc (size v)
part_length (Int z) is = refl
part_length (Text text) is = refl
part_length (Wide z) is = absurd (is.narrow refl)

keys_length : (values : List Value) → All IsKeyValue values → length (flat_map key_part values) ≡ length values + sum_by size values
keys_length [] all = refl
keys_length (v ∷ values) all =
    length-append (key_part v) (flat_map key_part values)
    ∙ omega (arith, part_length v (All-head IsKeyValue v values all), keys_length values (All-tail IsKeyValue v values all), sum_by-cons size v values)

pub length_by_key : (values : List Value) (ns : List ℤ) → All IsKeyValue values → length (row_bytes (values ++ map Wide ns)) + length values ≡ 4 + length (flat_map key_part values) + 16 * length ns
length_by_key values ns all = omega (arith, keys_length values all, row_length (values ++ map Wide ns), sum_by-append size values (map Wide ns), wide_sizes ns)
