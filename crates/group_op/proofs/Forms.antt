-- A partial row's values: those of the key, and numbers.
use Rattle.std.proofs.Common.{◌≡◌, ◌∙◌, ℕ, suc, ◌+◌, ◌*◌, List, [], ◌∷◌, ◌++◌, length, map, take, drop, refl, ap, ap₂, sym, subst, arith, append_assoc, append-nil, length-append}
use Rattle.std.specs.Prelude.{ℤ, flat_map, slice_get}
use Rattle.std.specs.Int.{w32, to_be_bytes}
use Rattle.std.proofs.Math.Seq.{take-append_seam, drop-append_seam}
use Rattle.std.proofs.lemmas.Grind.{flat_map-append}
use Rattle.std.proofs.lemmas.List.{length-map, map-append}
use Rattle.std.proofs.lemmas.Option.{same_Some}
use Rattle.row_codec.specs.declared.values.Agg.{Agg}
use Rattle.row_codec.specs.declared.values.Kind.{Kind}
use Rattle.row_codec.specs.declared.values.Kind.TheVariants as kind
use Rattle.row_codec.specs.declared.values.Value.{Value}
use Rattle.row_codec.specs.declared.values.Value.TheVariants.{Int, Text, Wide}
use Rattle.row_codec.specs.Row.{kind_of, kinds_of}
use Rattle.row_codec.specs.RowBytes.{field_bytes, framed, key_part, row_bytes}
use Rattle.row_codec.specs.RowLaws.{IsRow, RowBack}
use Rattle.row_codec.specs.RowReading.{row_at}
use Rattle.store_api.specs.declared.shapes.Shape.{Shape}
use Rattle.group_rows.specs.Aggregates.{number_of}
use Rattle.group_rows.specs.Rows.{partial_in}
use Rattle.group_op.specs.Stored.{IsPartialRow, grouping_of, key_kinds, partial_at, partial_kinds, values_at, values_read}
use Rattle.group_op.proofs.WideBytes.{all_long, all_wide, wide_fields}

-- the bytes are those of these values and these numbers
pub record HasForm (shape : Shape) (bytes : List ℕ) : Type 0 where
  pub values : List Value
  pub numbers : List ℤ
  pub spelled : row_bytes (values ++ map Wide numbers) ≡ bytes
  pub kinds_are : kinds_of values ≡ key_kinds shape
  pub many : length numbers ≡ length shape.aggs
  pub is_row : IsRow (values ++ map Wide numbers)
  pub read : values_at shape bytes ≡ values ++ map Wide numbers

record Split (ka : List Kind) (n : ℕ) (vs : List Value) : Type 0 where
  values : List Value
  numbers : List ℤ
  are : vs ≡ values ++ map Wide numbers
  kinds_are : kinds_of values ≡ ka
  many : length numbers ≡ n

one_wide : (v : Value) → kind_of v ≡ kind.Wide → v ≡ Wide (number_of v)
one_wide (Int z) is = absurd cc
one_wide (Text text) is = absurd cc
one_wide (Wide z) is = refl

module _ {X : Type 0} where
  pub head_same : (x y : X) (xs ys : List X) → x ∷ xs ≡ y ∷ ys → x ≡ y
  head_same x y xs ys same = same_Some x y (ap (λ (zs : List X). slice_get zs 0) same)

  pub tail_same : (x y : X) (xs ys : List X) → x ∷ xs ≡ y ∷ ys → xs ≡ ys
  tail_same x y xs ys same = ap (drop 1) same

no_more : {X : Type 0} (x : X) (xs : List X) → x ∷ xs ≡ [] → ⊥
no_more x xs same = let long = ap length same in omega (arith, long)

split_wide : (aggs : List Agg) (vs : List Value) → kinds_of vs ≡ map (λ agg. kind.Wide) aggs → Split [] (length aggs) vs
split_wide [] [] is = record { values = []; numbers = []; are = refl; kinds_are = refl; many = refl }
split_wide [] (v ∷ vs) is = absurd (no_more (kind_of v) (kinds_of vs) is)
split_wide (agg ∷ aggs) [] is = absurd (no_more kind.Wide (map (λ agg. kind.Wide) aggs) (sym is))
split_wide (agg ∷ aggs) (v ∷ vs) is =
    let rest = split_wide aggs vs (tail_same (kind_of v) kind.Wide (kinds_of vs) (map (λ agg. kind.Wide) aggs) is) in
    let first = one_wide v (head_same (kind_of v) kind.Wide (kinds_of vs) (map (λ agg. kind.Wide) aggs) is) in
    let none : rest.values ≡ [] = empty_kinds rest.values rest.kinds_are in
    record {
      values = [];
      numbers = number_of v ∷ rest.numbers;
      are = ap₂ (λ (w : Value) (ws : List Value). w ∷ ws) first (rest.are ∙ ap (λ (ws : List Value). ws ++ map Wide rest.numbers) none);
      kinds_are = refl;
      many = ap suc rest.many;
    }
  where
    empty_kinds : (ws : List Value) → kinds_of ws ≡ [] → ws ≡ []
    empty_kinds [] is = refl
    empty_kinds (w ∷ ws) is = absurd (no_more (kind_of w) (kinds_of ws) is)

split_kinds : (ka : List Kind) (aggs : List Agg) (vs : List Value) → kinds_of vs ≡ ka ++ map (λ agg. kind.Wide) aggs → Split ka (length aggs) vs
split_kinds [] aggs vs is = split_wide aggs vs is
split_kinds (k ∷ ka) aggs [] is = absurd (no_more k (ka ++ map (λ agg. kind.Wide) aggs) (sym is))
split_kinds (k ∷ ka) aggs (v ∷ vs) is =
    let rest = split_kinds ka aggs vs (tail_same (kind_of v) k (kinds_of vs) (ka ++ map (λ agg. kind.Wide) aggs) is) in
    record {
      values = v ∷ rest.values;
      numbers = rest.numbers;
      are = ap (λ (ws : List Value). v ∷ ws) rest.are;
      kinds_are = ap₂ (λ (a : Kind) (b : List Kind). a ∷ b) (head_same (kind_of v) k (kinds_of vs) (ka ++ map (λ agg. kind.Wide) aggs) is) rest.kinds_are;
      many = rest.many;
    }

-- a partial row has this form
pub has_form : (shape : Shape) (bytes : List ℕ) → IsPartialRow shape bytes → HasForm shape bytes
has_form shape bytes is =
    let split = split_kinds (key_kinds shape) shape.aggs (values_at shape bytes) is.kinds_are in
    record {
      values = split.values;
      numbers = split.numbers;
      spelled = ap row_bytes (sym split.are) ∙ is.spelled;
      kinds_are = split.kinds_are;
      many = split.many;
      is_row = subst IsRow split.are is.is_row;
      read = split.are;
    }

wide_kinds : (ns : List ℤ) (aggs : List Agg) → length ns ≡ length aggs → kinds_of (map Wide ns) ≡ map (λ agg. kind.Wide) aggs
wide_kinds [] [] same = refl
wide_kinds [] (agg ∷ aggs) same = absurd (omega (arith, same))
wide_kinds (n ∷ ns) [] same = absurd (omega (arith, same))
wide_kinds (n ∷ ns) (agg ∷ aggs) same = ap (λ (ks : List Kind). kind.Wide ∷ ks) (wide_kinds ns aggs (omega (arith, same)))

-- and what has this form is a partial row
module _ (back : RowBack) (shape : Shape) (ks : List Value) (ns : List ℤ) (kinds : kinds_of ks ≡ key_kinds shape) (many : length ns ≡ length shape.aggs) (is : IsRow (ks ++ map Wide ns)) where
  all_kinds : kinds_of (ks ++ map Wide ns) ≡ partial_kinds shape
  all_kinds = map-append kind_of ks (map Wide ns) ∙ ap₂ (λ (a b : List Kind). a ++ b) kinds (wide_kinds ns shape.aggs many)

  pub read_so : values_at shape (row_bytes (ks ++ map Wide ns)) ≡ ks ++ map Wide ns
  unfolding values_at
  read_so =
      ap values_read
      (ap (λ (kinds : List Kind). row_at kinds (row_bytes (ks ++ map Wide ns))) (sym all_kinds)
      ∙ ap (row_at (kinds_of (ks ++ map Wide ns))) (sym (append-nil (row_bytes (ks ++ map Wide ns))))
      ∙ back (ks ++ map Wide ns) [] is)

  pub partial_so : IsPartialRow shape (row_bytes (ks ++ map Wide ns))
  partial_so =
      record {
        is_row = subst IsRow (sym read_so) is;
        kinds_are = ap kinds_of read_so ∙ all_kinds;
        spelled = ap row_bytes read_so;
      }

  abbrev pub form_so : HasForm shape (row_bytes (ks ++ map Wide ns))
  form_so = record { values = ks; numbers = ns; spelled = refl; kinds_are = kinds; many = many; is_row = is; read = read_so }

numbers_back : (ns : List ℤ) → map number_of (map Wide ns) ≡ ns
numbers_back [] = refl
numbers_back (n ∷ ns) = ap (λ (ms : List ℤ). n ∷ ms) (numbers_back ns)

kinds_long : (vs : List Value) (ks : List Kind) → kinds_of vs ≡ ks → length vs ≡ length ks
kinds_long vs ks is = sym (length-map vs kind_of) ∙ ap length is

-- what it says
pub says : (shape : Shape) (bytes : List ℕ) → length (key_kinds shape) ≡ length shape.keys → (form : HasForm shape bytes) → partial_at shape bytes ≡ record { key = flat_map key_part form.values; numbers = form.numbers }
unfolding partial_at
says shape bytes full form =
    let long : length form.values ≡ length shape.keys = kinds_long form.values (key_kinds shape) form.kinds_are ∙ full in
    ap (partial_in (grouping_of shape)) form.read
    ∙ ap (λ (n : ℕ). (record { key = flat_map key_part (take n (form.values ++ map Wide form.numbers)); numbers = map number_of (drop n (form.values ++ map Wide form.numbers)) })) (sym long)
    ∙ ap₂ (λ (a b : List Value). (record { key = flat_map key_part a; numbers = map number_of b })) (take-append_seam form.values (map Wide form.numbers)) (drop-append_seam form.values (map Wide form.numbers))
    ∙ ap (λ (ns : List ℤ). (record { key = flat_map key_part form.values; numbers = ns })) (numbers_back form.numbers)

-- ---- its bytes

abbrev pub fields_of : List Value → List ℕ
fields_of vs = flat_map field_bytes vs

-- the frame and the key's fields, of a row with so many numbers
abbrev pub head_of : List Value → ℕ → List ℕ
head_of ks n = to_be_bytes w32 (length (fields_of ks) + 16 * n) ++ fields_of ks

pub head_long : (ks : List Value) (n : ℕ) → length (head_of ks n) ≡ 4 + length (fields_of ks)
head_long ks n = length-append (to_be_bytes w32 (length (fields_of ks) + 16 * n)) (fields_of ks)

pub bytes_are : (ks : List Value) (ns : List ℤ) → row_bytes (ks ++ map Wide ns) ≡ head_of ks (length ns) ++ all_wide ns
unfolding row_bytes
bytes_are ks ns =
    let body : flat_map field_bytes (ks ++ map Wide ns) ≡ fields_of ks ++ all_wide ns = flat_map-append field_bytes ks (map Wide ns) ∙ ap (λ (bytes : List ℕ). fields_of ks ++ bytes) (wide_fields ns) in
    let long : length (fields_of ks ++ all_wide ns) ≡ length (fields_of ks) + 16 * length ns = length-append (fields_of ks) (all_wide ns) ∙ ap (λ (n : ℕ). length (fields_of ks) + n) (all_long ns) in
    ap framed body
    ∙ ap (λ (n : ℕ). to_be_bytes w32 n ++ (fields_of ks ++ all_wide ns)) long
    ∙ sym (append_assoc (to_be_bytes w32 (length (fields_of ks) + 16 * length ns)) (fields_of ks) (all_wide ns))
