-- A row that is spelled is one row of a page, and says what was spelled.
use Rattle.std.proofs.Common.{◌≡◌, ◌∙◌, ℕ, ◌+◌, ◌<◌, ◌^◌, List, [], ◌∷◌, length, Some, refl, ap, sym, subst, arith, ne_eqb, length-append, append-nil}
use Rattle.std.specs.Prelude.{flat_map, option_and_then}
use Rattle.std.specs.Int.{w32, to_be_bytes}
use Rattle.row_codec.specs.declared.values.Kind.{Kind}
use Rattle.row_codec.specs.declared.values.Value.{Value}
use Rattle.row_codec.specs.declared.values.Value.TheVariants.{Int, Text, Wide}
use Rattle.row_codec.specs.Row.{kinds_of}
use Rattle.row_codec.specs.RowBytes.{field_bytes, framed, row_bytes}
use Rattle.row_codec.specs.RowLaws.{IsRow}
use Rattle.row_codec.specs.RowReading.{framed_at, front, number_in}
use Rattle.row_codec.proofs.SpelledBack.{front_back, number_back}
use Rattle.tuple_stream.specs.PageRows.{IsOneRow, framed_len}
use Rattle.row_reading.specs.Reading.{IsRowOf, values_at}
use Rattle.row_reading.proofs.Bodies.{spelled_is_row, values_back}

framed_there : (body : List ℕ) → length body < 2 ^ 32 → framed_at (framed body) ≡ Some (body, [])
framed_there body short =
    ap (λ o. option_and_then (λ (head, rest). front (number_in head) rest) o) (front_back (to_be_bytes w32 (length body)) body)
    ∙ ap (λ (n : ℕ). front n body) (number_back 4 (length body) short)
    ∙ ap (front (length body)) (sym (append-nil body))
    ∙ front_back body []

field_some : (v : Value) → 0 < length (field_bytes v)
field_some (Int z) = omega arith
field_some (Text text) = let long = length-append (to_be_bytes w32 (length text)) text in omega (arith, long)
field_some (Wide z) = omega arith

body_some : (vs : List Value) → 0 < length vs → 0 < length (flat_map field_bytes vs)
body_some [] some = absurd (omega (arith, some))
body_some (v ∷ vs) some = let long = length-append (field_bytes v) (flat_map field_bytes vs) in let first = field_some v in omega (arith, long, first)

pub row_is_one : (vs : List Value) → 0 < length vs → length (row_bytes vs) < 2 ^ 32 → IsOneRow (row_bytes vs)
unfolding row_bytes
row_is_one vs some short =
    let body : List ℕ = flat_map field_bytes vs in
    let long : length (framed body) ≡ 4 + length body = length-append (to_be_bytes w32 (length body)) body in
    let fits : length body < 2 ^ 32 = omega (arith, long, short) in
    let inside : 0 < length body = body_some vs some in
    record {
      some = omega (arith, long);
      whole = ap framed_len (framed_there body fits) ∙ rw (ne_eqb (length body) 0 (λ none. omega (arith, none, inside))) refl ∙ sym long;
    }

-- so are bytes that are a row of some kinds
pub read_is_one : (kinds : List Kind) (bytes : List ℕ) → IsRowOf kinds bytes → IsOneRow bytes
unfolding row_bytes
read_is_one kinds bytes is =
    let vs : List Value = values_at kinds bytes in
    let body : List ℕ = flat_map field_bytes vs in
    let long : length (framed body) ≡ 4 + length body = length-append (to_be_bytes w32 (length body)) body in
    let fits = is.is_row.fits in
    let inside : 0 < length body = body_some vs is.is_row.some in
    subst IsOneRow is.spelled (record {
      some = omega (arith, long);
      whole = ap framed_len (framed_there body fits) ∙ rw (ne_eqb (length body) 0 (λ none. omega (arith, none, inside))) refl ∙ sym long;
    })

pub body_fits : (vs : List Value) → length (row_bytes vs) < 2 ^ 32 → length (flat_map field_bytes vs) < 2 ^ 32
unfolding row_bytes
body_fits vs short =
    let body : List ℕ = flat_map field_bytes vs in
    let long : length (framed body) ≡ 4 + length body = length-append (to_be_bytes w32 (length body)) body in
    omega (arith, long, short)

-- what is read of a row's bytes is the row
pub row_back : (kinds : List Kind) (row : List Value) → IsRow row → kinds_of row ≡ kinds → values_at kinds (row_bytes row) ≡ row
row_back kinds row is same = ap (λ (ks : List Kind). values_at ks (row_bytes row)) (sym same) ∙ values_back row is

pub spelled_row : (kinds : List Kind) (row : List Value) → IsRow row → kinds_of row ≡ kinds → IsRowOf kinds (row_bytes row)
spelled_row kinds row is same = subst (λ (ks : List Kind). IsRowOf ks (row_bytes row)) same (spelled_is_row row is)
