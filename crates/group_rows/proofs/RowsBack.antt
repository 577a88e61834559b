-- A partial row is read back, and a key tells its values.
use Rattle.std.proofs.Common.{◌≡◌, ℕ, zero, suc, ◌<◌, ◌^◌, List, [], ◌∷◌, ◌++◌, length, map, take, drop, refl, ap, ap₂, sym, ◌∙◌, arith, append_assoc, length-append}
use Rattle.std.specs.Prelude.{All, flat_map, slice_get, ℤ, FitsSigned}
use Rattle.std.specs.List.{cons_option}
use Rattle.std.specs.Int.{w32, w64, to_be_bytes, from_be_bytes, cast_unsigned, cast_signed}
use Rattle.std.specs.Str.{bytes_eq}
use Rattle.std.proofs.Math.Facts.{Fits-of_z}
use Rattle.std.proofs.lemmas.Int.{to_z-of_z}
use Rattle.std.proofs.lemmas.Nat.{from_be_bytes-to_be_bytes_4, from_be_bytes-to_be_bytes_8}
use Rattle.std.proofs.Math.Seq.{take-append_seam, drop-append_seam}
use Rattle.std.proofs.lemmas.List.Elements.{All-filter, All-head, All-tail, filter_passes}
use Rattle.row_codec.specs.declared.values.Agg.{Agg}
use Rattle.row_codec.specs.declared.values.Value.{Value}
use Rattle.row_codec.specs.declared.values.Value.TheVariants.{Int, Text, Wide}
use Rattle.row_codec.specs.RowBytes.{field_bytes, key_bytes, key_part, values_in}
use Rattle.group_rows.specs.Aggregates.{aggregate, number_of, own_number}
use Rattle.group_rows.specs.Keyed.{with_key}
use Rattle.group_rows.specs.Partials.{group_in, Grouping, partial_of}
use Rattle.group_rows.specs.Rows.{HaveKeyValues, key_values, group_row, HasKeyColumns, IsKeyValue, partial_in, partial_row}
use Rattle.group_rows.proofs.Keys.{true_same}

one_there : (row : List Value) (c : ℕ) (vs : List Value) (n : ℕ) → c < length row → length vs ≡ n → length (cons_option (slice_get row c) vs) ≡ suc n
one_there [] c vs n inside long = absurd (omega (arith, inside))
one_there (v ∷ row) zero vs n inside long = ap suc long
one_there (v ∷ row) (suc c) vs n inside long = one_there row c vs n (omega (arith, inside)) long

all_there : (columns : List ℕ) (row : List Value) → All (λ column. column < length row) columns → length (values_in columns row) ≡ length columns
all_there [] row has = refl
all_there (c ∷ cs) row has = one_there row c (values_in cs row) (length cs) (All-head (λ column. column < length row) c cs has) (all_there cs row (All-tail (λ column. column < length row) c cs has))

numbers_back : (aggs : List Agg) (row : List Value) → map number_of (map (λ agg. Wide (own_number agg row)) aggs) ≡ map (λ agg. own_number agg row) aggs
numbers_back [] row = refl
numbers_back (agg ∷ aggs) row = ap (λ (ns : List ℤ). own_number agg row ∷ ns) (numbers_back aggs row)

pub reads_back : (grouping : Grouping) (row : List Value) → HasKeyColumns grouping row → partial_in grouping (partial_row grouping row) ≡ partial_of grouping row
unfolding key_bytes
reads_back grouping row has =
    let vs : List Value = values_in grouping.keys row in
    let wides : List Value = map (λ agg. Wide (own_number agg row)) grouping.aggs in
    let long : length (values_in grouping.keys row) ≡ length grouping.keys = all_there grouping.keys row has in
    ap (λ (n : ℕ). (record { key = flat_map key_part (take n (partial_row grouping row)); numbers = map number_of (drop n (partial_row grouping row)) })) (sym long)
    ∙ ap₂ (λ (a b : List Value). (record { key = flat_map key_part a; numbers = map number_of b })) (take-append_seam vs wides) (drop-append_seam vs wides)
    ∙ ap (λ (ns : List ℤ). (record { key = flat_map key_part vs; numbers = ns })) (numbers_back grouping.aggs row)

-- bytes of one length in front of others are told from them
front_same : (a b behind rest : List ℕ) → length a ≡ length b → a ++ behind ≡ b ++ rest → (a ≡ b) × (behind ≡ rest)
front_same a b behind rest long same =
    let first : a ≡ b = sym (take-append_seam a behind) ∙ ap₂ (λ (n : ℕ) (bytes : List ℕ). take n bytes) long same ∙ take-append_seam b rest in
    let second : behind ≡ rest = sym (drop-append_seam a behind) ∙ ap₂ (λ (n : ℕ) (bytes : List ℕ). drop n bytes) long same ∙ drop-append_seam b rest in
    (first, second)

int_tells : (x y : ℤ) (behind rest : List ℕ) → FitsSigned w64 x → FitsSigned w64 y → field_bytes (Int x) ++ behind ≡ field_bytes (Int y) ++ rest → (Int x ≡ Int y) × (behind ≡ rest)
int_tells x y behind rest a b same =
    let both = front_same (to_be_bytes w64 (cast_unsigned w64 x)) (to_be_bytes w64 (cast_unsigned w64 y)) behind rest refl same in
    let numbers : cast_unsigned w64 x ≡ cast_unsigned w64 y =
    sym (from_be_bytes-to_be_bytes_8 (cast_unsigned w64 x) (Fits-of_z a).fits) ∙ ap (from_be_bytes w64) both.0 ∙ from_be_bytes-to_be_bytes_8 (cast_unsigned w64 y) (Fits-of_z b).fits in
    let ints : x ≡ y = sym (to_z-of_z w64 x a) ∙ ap (cast_signed w64) numbers ∙ to_z-of_z w64 y b in
    (ap (λ (z : ℤ). Int z) ints, both.1)

text_tells : (t u behind rest : List ℕ) → length t < 2 ^ 32 → length u < 2 ^ 32 → field_bytes (Text t) ++ behind ≡ field_bytes (Text u) ++ rest → (Text t ≡ Text u) × (behind ≡ rest)
text_tells t u behind rest a b same =
    let heads : List ℕ × List ℕ = (to_be_bytes w32 (length t), to_be_bytes w32 (length u)) in
    let outer = front_same heads.0 heads.1 (t ++ behind) (u ++ rest) refl (sym (append_assoc heads.0 t behind) ∙ same ∙ append_assoc heads.1 u rest) in
    let long : length t ≡ length u = sym (from_be_bytes-to_be_bytes_4 (length t) a) ∙ ap (from_be_bytes w32) outer.0 ∙ from_be_bytes-to_be_bytes_4 (length u) b in
    let inner = front_same t u behind rest long outer.1 in
    (ap (λ (text : List ℕ). Text text) inner.0, inner.1)

text_short : (t : List ℕ) → length (field_bytes (Text t)) < 2 ^ 32 → length t < 2 ^ 32
text_short t short = omega (arith, short, length-append (to_be_bytes w32 (length t)) t)

both_same : (v w : Value) (vs ws : List Value) → (flat_map key_part vs ≡ flat_map key_part ws → vs ≡ ws) → (v ≡ w) × (flat_map key_part vs ≡ flat_map key_part ws) → v ∷ vs ≡ w ∷ ws
both_same v w vs ws rest both = ap₂ (λ (x : Value) (xs : List Value). x ∷ xs) both.0 (rest both.1)

part_tells : (v w : Value) (vs ws : List Value) → IsKeyValue v → IsKeyValue w → (flat_map key_part vs ≡ flat_map key_part ws → vs ≡ ws) → key_part v ++ flat_map key_part vs ≡ key_part w ++ flat_map key_part ws → v ∷ vs ≡ w ∷ ws
part_tells (Wide z) w vs ws a b rest same = absurd (a.narrow refl)
part_tells v (Wide z) vs ws a b rest same = absurd (b.narrow refl)
part_tells (Int x) (Text t) vs ws a b rest same = absurd cc
part_tells (Text t) (Int x) vs ws a b rest same = absurd cc
part_tells (Int x) (Int y) vs ws a b rest same =
    let behind : field_bytes (Int x) ++ flat_map key_part vs ≡ field_bytes (Int y) ++ flat_map key_part ws = cc in
    both_same (Int x) (Int y) vs ws rest (int_tells x y (flat_map key_part vs) (flat_map key_part ws) a.good b.good behind)
part_tells (Text t) (Text u) vs ws a b rest same =
    let behind : field_bytes (Text t) ++ flat_map key_part vs ≡ field_bytes (Text u) ++ flat_map key_part ws = cc in
    both_same (Text t) (Text u) vs ws rest (text_tells t u (flat_map key_part vs) (flat_map key_part ws) (text_short t a.short) (text_short u b.short) behind)

first_part : (v : Value) (more : List ℕ) → IsKeyValue v → key_part v ++ more ≡ [] → ⊥
first_part (Int z) more a e = cc
first_part (Text t) more a e = cc
first_part (Wide z) more a e = a.narrow refl

pub key_tells : (vs ws : List Value) → All IsKeyValue vs → All IsKeyValue ws → flat_map key_part vs ≡ flat_map key_part ws → vs ≡ ws
key_tells [] [] a b same = refl
key_tells [] (w ∷ ws) a b same = absurd (first_part w (flat_map key_part ws) (All-head IsKeyValue w ws b) (sym same))
key_tells (v ∷ vs) [] a b same = absurd (first_part v (flat_map key_part vs) (All-head IsKeyValue v vs a) same)
key_tells (v ∷ vs) (w ∷ ws) a b same =
    part_tells v w vs ws (All-head IsKeyValue v vs a) (All-head IsKeyValue w ws b) (key_tells vs ws (All-tail IsKeyValue v vs a) (All-tail IsKeyValue w ws b)) same

first_values : (grouping : Grouping) (values : List Value) (rows : List (List Value)) → All (λ row. All IsKeyValue (values_in grouping.keys row)) rows → All (λ row. key_bytes grouping.keys row ≡ flat_map key_part values) rows → All IsKeyValue values → 0 < length rows
    → values ≡ key_values grouping rows
unfolding key_bytes
first_values grouping values [] good keys are some = absurd (omega (arith, some))
first_values grouping values (row ∷ rows) good keys are some =
    key_tells values (values_in grouping.keys row) are (All-head (λ row. All IsKeyValue (values_in grouping.keys row)) row rows good)
    (sym (All-head (λ row. key_bytes grouping.keys row ≡ flat_map key_part values) row rows keys))

map_twice : (f : Agg → ℤ) (aggs : List Agg) → map Wide (map f aggs) ≡ map (λ agg. Wide (f agg)) aggs
map_twice f [] = refl
map_twice f (agg ∷ aggs) = ap (λ (vs : List Value). Wide (f agg) ∷ vs) (map_twice f aggs)

pub emits : (grouping : Grouping) (rows : List (List Value)) (values : List Value) → HaveKeyValues grouping rows → All IsKeyValue values
    → 0 < length (with_key (key_bytes grouping.keys) (flat_map key_part values) rows)
    → values ++ map Wide (group_in grouping rows (flat_map key_part values)).numbers ≡ group_row grouping rows (flat_map key_part values)
emits grouping rows values good are some =
    let q : List ℕ = flat_map key_part values in
    ap₂ (λ (a b : List Value). a ++ b)
    (first_values grouping values (with_key (key_bytes grouping.keys) q rows) (All-filter (λ r. bytes_eq q (key_bytes grouping.keys r)) (λ row. All IsKeyValue (values_in grouping.keys row)) rows good)
    (λ k d inside. sym (true_same q _ (filter_passes (λ r. bytes_eq q (key_bytes grouping.keys r)) rows k d inside))) are some)
    (map_twice (λ agg. aggregate agg (with_key (key_bytes grouping.keys) q rows)) grouping.aggs)
