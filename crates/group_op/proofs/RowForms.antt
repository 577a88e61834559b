-- The bytes of a row count themselves.
use Rattle.std.proofs.Common.{◌≡◌, ◌∙◌, ℕ, ◌+◌, ◌<◌, ◌≤◌, ◌^◌, List, [], ◌∷◌, ◌++◌, length, take, Some, refl, ap, sym, subst, arith, le-leb, ne_eqb, length-append}
use Rattle.std.specs.Prelude.{flat_map, option_and_then}
use Rattle.std.specs.Int.{w32, to_be_bytes}
use Rattle.std.proofs.Math.Seq.{take-length}
use Rattle.std.proofs.lemmas.List.{drop_all}
use Rattle.row_codec.specs.declared.values.Value.{Value}
use Rattle.row_codec.specs.declared.values.Value.TheVariants.{Int, Text, Wide}
use Rattle.row_codec.specs.RowBytes.{field_bytes, framed, row_bytes}
use Rattle.row_codec.specs.RowLaws.{IsRow}
use Rattle.row_codec.specs.RowReading.{framed_at, front, number_in}
use Rattle.store_api.specs.declared.shapes.Shape.{Shape}
use Rattle.tuple_stream.specs.PageRows.{IsOneRow, framed_len, row_len}
use Rattle.bucket_table.specs.Tables.{IsFramed}
use Rattle.bucket_table.proofs.Spelling.{link_back}
use Rattle.group_op.specs.Stored.{IsPartialRow, values_at}

front_all : (n : ℕ) (body : List ℕ) → n ≡ length body → front n body ≡ Some (body, [])
front_all n body is =
    ap (λ (k : ℕ). front k body) is
    ∙ rw (le-leb (length body) (length body) (omega arith), take-length body, drop_all (length body) body (omega arith)) refl

head_there : (n : ℕ) (body : List ℕ) → front 4 (to_be_bytes w32 n ++ body) ≡ Some (to_be_bytes w32 n, body)
head_there n body =
    let enough : 4 ≤ length (to_be_bytes w32 n ++ body) = (let long = length-append (to_be_bytes w32 n) body in omega (arith, long)) in
    rw (le-leb 4 (length (to_be_bytes w32 n ++ body)) enough) refl

framed_there : (body : List ℕ) → length body < 2 ^ 32 → framed_at (framed body) ≡ Some (body, [])
framed_there body short =
    ap (λ o. option_and_then (λ (head, rest). front (number_in head) rest) o) (head_there (length body) body)
    ∙ ap (λ (n : ℕ). front n body) (link_back (length body) short)
    ∙ front_all (length body) body refl

len_there : (body : List ℕ) → length body < 2 ^ 32 → 0 < length body → row_len (framed body) ≡ 4 + length body
len_there body short some = ap framed_len (framed_there body short) ∙ rw (ne_eqb (length body) 0 (λ none. omega (arith, none, some))) refl

field_some : (v : Value) → 0 < length (field_bytes v)
field_some (Int z) = omega arith
field_some (Text text) = let long = length-append (to_be_bytes w32 (length text)) text in omega (arith, long)
field_some (Wide z) = omega arith

pub body_some : (vs : List Value) → 0 < length vs → 0 < length (flat_map field_bytes vs)
body_some [] some = absurd (omega (arith, some))
body_some (v ∷ vs) some = let long = length-append (field_bytes v) (flat_map field_bytes vs) in let first = field_some v in omega (arith, long, first)

long_is : (body : List ℕ) → length (framed body) ≡ 4 + length body
long_is body = length-append (to_be_bytes w32 (length body)) body

pub row_is_one : (vs : List Value) → IsRow vs → IsOneRow (row_bytes vs)
unfolding row_bytes
row_is_one vs is =
    let body : List ℕ = flat_map field_bytes vs in
    let long : length (framed body) ≡ 4 + length body = long_is body in
    record { some = omega (arith, long); whole = len_there body is.fits (body_some vs is.some) ∙ sym long }

pub row_is_framed : (vs : List Value) → IsRow vs → IsFramed (row_bytes vs)
unfolding row_bytes
row_is_framed vs is =
    let body : List ℕ = flat_map field_bytes vs in
    let long : length (framed body) ≡ 4 + length body = long_is body in
    let count : number_in (take 4 (framed body)) ≡ length body = link_back (length body) is.fits in
    omega (arith, long, count)

pub partial_is_one : (shape : Shape) (bytes : List ℕ) → IsPartialRow shape bytes → IsOneRow bytes
partial_is_one shape bytes is = subst IsOneRow is.spelled (row_is_one (values_at shape bytes) is.is_row)

pub partial_is_framed : (shape : Shape) (bytes : List ℕ) → IsPartialRow shape bytes → IsFramed bytes
partial_is_framed shape bytes is = subst IsFramed is.spelled (row_is_framed (values_at shape bytes) is.is_row)
