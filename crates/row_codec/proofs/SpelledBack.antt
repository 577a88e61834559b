-- What is spelled is read back.
use Rattle.std.proofs.Common.{◌≡◌, ℕ, ◌+◌, ◌<◌, ◌≤◌, ◌^◌, List, [], ◌∷◌, ◌++◌, length, refl, ap, ◌∙◌, le-leb, arith}
use Rattle.std.proofs.Math.Facts.{Fits-of_z}
use Rattle.std.proofs.Math.Seq.{take-append_seam, drop-append_seam}
use Rattle.std.proofs.Math.Nat.{mod-eq_of_lt}
use Rattle.std.proofs.lemmas.List.{length-append}
use Rattle.std.proofs.lemmas.List.Elements.{All-tail}
use Rattle.std.proofs.lemmas.Int.{to_z-of_z}
use Rattle.std.specs.Prelude.{ℤ, All, Some, option_map, option_and_then, flat_map, FitsSigned}
use Rattle.std.specs.Int.{w32, w64, w128, to_be_bytes, cast_unsigned, cast_signed, bytes_high_first}
use Rattle.row_codec.specs.declared.values.Kind.TheVariants as kind
use Rattle.row_codec.specs.declared.values.Value.{Value}
use Rattle.row_codec.specs.declared.values.Value.TheVariants.{Int, Text, Wide}
use Rattle.row_codec.specs.Row.{kind_of, kinds_of, IsValue}
use Rattle.row_codec.specs.RowBytes.{framed, field_bytes, row_bytes}
use Rattle.row_codec.specs.RowReading.{number_in, front, framed_at, field_at, fields_in, row_at}
use Rattle.row_codec.specs.RowLaws.{RowBack}
use Rattle.row_codec.proofs.Numbers.{read_back}

-- bytes that stand before others are at the front
pub front_back : (bytes behind : List ℕ) → front (length bytes) (bytes ++ behind) ≡ Some (bytes, behind)
front_back bytes behind =
    let enough : length bytes ≤ length (bytes ++ behind) = omega (arith, length-append bytes behind) in
    rw (le-leb (length bytes) (length (bytes ++ behind)) enough, take-append_seam bytes behind, drop-append_seam bytes behind)

-- a number is read where it was spelled
pub number_back : (count n : ℕ) → n < 256 ^ count → number_in (bytes_high_first count n) ≡ n
number_back count n fits = omega (arith, read_back count 0 n, mod-eq_of_lt fits)

framed_back : (inside behind : List ℕ) → length inside < 2 ^ 32 → framed_at (framed inside ++ behind) ≡ Some (inside, behind)
framed_back inside behind fits =
    ap (λ o. option_and_then (λ (head, rest). front (number_in head) rest) o) (front_back (to_be_bytes w32 (length inside)) (inside ++ behind))
    ∙ ap (λ n. front n (inside ++ behind)) (number_back 4 (length inside) fits)
    ∙ front_back inside behind

int_back : (z : ℤ) (behind : List ℕ) → FitsSigned w64 z → field_at kind.Int (field_bytes (Int z) ++ behind) ≡ Some (Int z, behind)
int_back z behind fits =
    ap (λ o. option_map (λ (head, rest). (Int (cast_signed w64 (number_in head)), rest)) o) (front_back (to_be_bytes w64 (cast_unsigned w64 z)) behind)
    ∙ ap (λ n. Some (Int (cast_signed w64 n), behind)) (number_back 8 (cast_unsigned w64 z) (Fits-of_z fits).fits)
    ∙ ap (λ y. Some (Int y, behind)) (to_z-of_z w64 z fits)

wide_back : (z : ℤ) (behind : List ℕ) → FitsSigned w128 z → field_at kind.Wide (field_bytes (Wide z) ++ behind) ≡ Some (Wide z, behind)
wide_back z behind fits =
    ap (λ o. option_map (λ (head, rest). (Wide (cast_signed w128 (number_in head)), rest)) o) (front_back (to_be_bytes w128 (cast_unsigned w128 z)) behind)
    ∙ ap (λ n. Some (Wide (cast_signed w128 n), behind)) (number_back 16 (cast_unsigned w128 z) (Fits-of_z fits).fits)
    ∙ ap (λ y. Some (Wide y, behind)) (to_z-of_z w128 z fits)

-- a field is read where it was spelled
pub field_back : (v : Value) (behind : List ℕ) → IsValue v → length (field_bytes v) < 2 ^ 32 → field_at (kind_of v) (field_bytes v ++ behind) ≡ Some (v, behind)
field_back (Int z) behind is fits = int_back z behind is
field_back (Text text) behind is fits = ap (λ o. option_map (λ (inside, rest). (Text inside, rest)) o) (framed_back text behind (omega arith))
field_back (Wide z) behind is fits = wide_back z behind is

fields_back : (row : List Value) → All IsValue row → length (flat_map field_bytes row) < 2 ^ 32 → fields_in (kinds_of row) (flat_map field_bytes row) ≡ Some row
fields_back [] are fits = refl
fields_back (v ∷ row) are fits =
    let whole = length-append (field_bytes v) (flat_map field_bytes row) in
    let this = field_back v (flat_map field_bytes row) (are 0 v (omega arith)) (omega arith) in
    ap (λ o. option_and_then (λ (field, rest). option_map (λ fields. field ∷ fields) (fields_in (kinds_of row) rest)) o) this
    ∙ ap (λ o. option_map (λ fields. v ∷ fields) o) (fields_back row (All-tail IsValue v row are) (omega arith))

-- a row is read where it was spelled
pub row_back : RowBack
unfolding row_at row_bytes
row_back [] behind is = absurd (omega arith)
row_back (v ∷ row) behind is =
    let body : List ℕ = flat_map field_bytes (v ∷ row) in
    ap (λ o. option_and_then (λ (inside, rest). option_map (λ fields. (fields, 4 + length inside)) (fields_in (kinds_of (v ∷ row)) inside)) o) (framed_back body behind is.fits)
    ∙ ap (λ o. option_map (λ fields. (fields, 4 + length body)) o) (fields_back (v ∷ row) is.values is.fits)
    ∙ ap (λ n. Some (v ∷ row, n)) (omega arith)
