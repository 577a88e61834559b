-- The bytes before the numbers tell the key.
use Rattle.std.proofs.Common.{◌≡◌, ◌≢◌, ◌∙◌, ℕ, zero, suc, ◌+◌, ◌*◌, ◌<◌, ◌≤◌, ◌^◌, List, [], ◌∷◌, ◌++◌, length, map, take, drop, Option, Some, refl, ap, ap₂, sym, subst, arith, length-append}
use Rattle.std.specs.Prelude.{All, flat_map, filter_map, slice_get}
use Rattle.std.specs.List.{cons_option}
use Rattle.std.proofs.lemmas.Grind.{flat_map-append}
use Rattle.std.proofs.lemmas.List.Elements.{All-append, All-cons, All-drop, All-head, All-nil, All-tail, All-take}
use Rattle.std.proofs.lemmas.Option.{none-some, same_Some}
use Rattle.std.specs.Int.{w32, to_be_bytes}
use Rattle.std.proofs.Math.Seq.{take-append_seam, drop-append_seam}
use Rattle.std.proofs.lemmas.List.{length-map, take-take}
use Rattle.row_codec.specs.declared.values.Kind.{Kind}
use Rattle.row_codec.specs.declared.values.Kind.TheVariants as kind
use Rattle.row_codec.specs.declared.values.Value.{Value}
use Rattle.row_codec.specs.declared.values.Value.TheVariants.{Wide}
use Rattle.row_codec.specs.Row.{IsValue, kind_of, kinds_of}
use Rattle.row_codec.specs.RowBytes.{field_bytes, key_part, row_bytes}
use Rattle.row_codec.specs.RowLaws.{IsRow, RowBack}
use Rattle.row_codec.specs.RowReading.{number_in}
use Rattle.store_api.specs.declared.shapes.Shape.{Shape}
use Rattle.store_api.specs.Shapes.{IsKeyColumn, IsShape}
use Rattle.bucket_table.proofs.Spelling.{link_back}
use Rattle.group_rows.specs.Partials.{Partial}
use Rattle.group_rows.specs.Rows.{IsKeyValue}
use Rattle.group_rows.proofs.RowsBack.{key_tells}
use Rattle.tuple_stream.proofs.Chosen.{all_placed, at_place}
use Rattle.group_op.specs.Stored.{IsPartialRow, head_len, key_at, key_kinds, values_at}
use Rattle.group_op.proofs.Forms.{HasForm, bytes_are, fields_of, has_form, head_long, head_of, head_same, read_so, says, tail_same}
use Rattle.group_op.proofs.WideBytes.{all_long, all_wide, wide_fields}

module _ (shape : Shape) (bytes : List ℕ) (form : HasForm shape bytes) where
  pub whole_is : bytes ≡ head_of form.values (length shape.aggs) ++ all_wide form.numbers
  whole_is = sym form.spelled ∙ bytes_are form.values form.numbers ∙ ap (λ (n : ℕ). head_of form.values n ++ all_wide form.numbers) form.many

  pub whole_long : length bytes ≡ length (head_of form.values (length shape.aggs)) + 16 * length shape.aggs
  whole_long =
      ap length whole_is ∙ length-append (head_of form.values (length shape.aggs)) (all_wide form.numbers)
      ∙ ap (λ (n : ℕ). length (head_of form.values (length shape.aggs)) + n) (all_long form.numbers ∙ ap (λ (n : ℕ). 16 * n) form.many)

  pub head_is : head_len shape bytes ≡ length (head_of form.values (length shape.aggs))
  head_is = let long = whole_long in omega (arith, long)

  pub taken_is : take (head_len shape bytes) bytes ≡ head_of form.values (length shape.aggs)
  taken_is = ap₂ take head_is whole_is ∙ take-append_seam (head_of form.values (length shape.aggs)) (all_wide form.numbers)

  pub rest_is : drop (head_len shape bytes) bytes ≡ all_wide form.numbers
  rest_is = ap₂ drop head_is whole_is ∙ drop-append_seam (head_of form.values (length shape.aggs)) (all_wide form.numbers)

  -- the fields of the row are fewer than 2 ^ 32 bytes
  pub fields_fit : length (fields_of form.values) + 16 * length shape.aggs < 2 ^ 32
  fields_fit =
      let body : length (flat_map field_bytes (form.values ++ map Wide form.numbers)) ≡ length (fields_of form.values) + 16 * length shape.aggs =
      ap length (flat_map-append field_bytes form.values (map Wide form.numbers)) ∙ length-append (fields_of form.values) (flat_map field_bytes (map Wide form.numbers))
      ∙ ap (λ (bytes : List ℕ). length (fields_of form.values) + length bytes) (wide_fields form.numbers)
      ∙ ap (λ (n : ℕ). length (fields_of form.values) + n) (all_long form.numbers ∙ ap (λ (n : ℕ). 16 * n) form.many) in
      let fits = form.is_row.fits in
      omega (arith, body, fits)

  first_four : take 4 bytes ≡ to_be_bytes w32 (length (fields_of form.values) + 16 * length shape.aggs)
  first_four = ap (take 4) whole_is

  pub four_in : 4 ≤ head_len shape bytes
  four_in = let is = head_is in let long = head_long form.values (length shape.aggs) in omega (arith, is, long)

  pub good_values : All IsValue form.values
  good_values = subst (All IsValue) (take-append_seam form.values (map Wide form.numbers)) (All-take IsValue (length form.values) (form.values ++ map Wide form.numbers) form.is_row.values)

  pub good_numbers : All IsValue (map Wide form.numbers)
  good_numbers = subst (All IsValue) (drop-append_seam form.values (map Wide form.numbers)) (All-drop IsValue (length form.values) (form.values ++ map Wide form.numbers) form.is_row.values)

-- the same fields of a key
module _ (back : RowBack) (shape : Shape) (a b : List ℕ) (fa : HasForm shape a) (fb : HasForm shape b) where
  values_long : length fa.values ≡ length fb.values
  values_long = sym (length-map fa.values kind_of) ∙ ap length (fa.kinds_are ∙ sym fb.kinds_are) ∙ length-map fb.values kind_of

  -- where the fields are the same, so are the values
  same_fields : head_of fb.values (length shape.aggs) ≡ head_of fa.values (length shape.aggs) → length (fields_of fb.values) ≡ length (fields_of fa.values) → fa.values ≡ fb.values
  same_fields heads long =
      let mixed : row_bytes (fa.values ++ map Wide fb.numbers) ≡ b =
      bytes_are fa.values fb.numbers ∙ ap (λ (n : ℕ). head_of fa.values n ++ all_wide fb.numbers) fb.many
      ∙ ap (λ (bytes : List ℕ). bytes ++ all_wide fb.numbers) (sym heads) ∙ sym (whole_is shape b fb) in
      let body : length (flat_map field_bytes (fa.values ++ map Wide fb.numbers)) ≡ length (fields_of fa.values) + 16 * length shape.aggs =
      ap length (flat_map-append field_bytes fa.values (map Wide fb.numbers)) ∙ length-append (fields_of fa.values) (flat_map field_bytes (map Wide fb.numbers))
      ∙ ap (λ (bytes : List ℕ). length (fields_of fa.values) + length bytes) (wide_fields fb.numbers)
      ∙ ap (λ (n : ℕ). length (fields_of fa.values) + n) (all_long fb.numbers ∙ ap (λ (n : ℕ). 16 * n) fb.many) in
      let fits = fields_fit shape a fa in
      let some : 0 < length (fa.values ++ map Wide fb.numbers) =
      (let all = length-append fa.values (map Wide fb.numbers) in let was = length-append fb.values (map Wide fb.numbers) in let one = fb.is_row.some in omega (arith, all, was, one, values_long)) in
      let is : IsRow (fa.values ++ map Wide fb.numbers) =
      record { some = some; values = All-append IsValue fa.values (map Wide fb.numbers) (good_values shape a fa) (good_numbers shape b fb); fits = omega (arith, body, fits) } in
      let both : fa.values ++ map Wide fb.numbers ≡ fb.values ++ map Wide fb.numbers =
      sym (read_so back shape fa.values fb.numbers fa.kinds_are fb.many is) ∙ ap (values_at shape) mixed ∙ fb.read in
      sym (take-append_seam fa.values (map Wide fb.numbers)) ∙ ap₂ take values_long both ∙ take-append_seam fb.values (map Wide fb.numbers)

  pub same_values : take (head_len shape a) b ≡ take (head_len shape a) a → fa.values ≡ fb.values
  same_values same =
      let at = four_in shape a fa in
      let four : take 4 b ≡ take 4 a = sym (take-take 4 (head_len shape a) b at) ∙ ap (take 4) same ∙ take-take 4 (head_len shape a) a at in
      let counts : to_be_bytes w32 (length (fields_of fb.values) + 16 * length shape.aggs) ≡ to_be_bytes w32 (length (fields_of fa.values) + 16 * length shape.aggs) = sym (first_four shape b fb) ∙ four ∙ first_four shape a fa in
      let count : length (fields_of fb.values) + 16 * length shape.aggs ≡ length (fields_of fa.values) + 16 * length shape.aggs =
      sym (link_back (length (fields_of fb.values) + 16 * length shape.aggs) (fields_fit shape b fb)) ∙ ap number_in counts ∙ link_back (length (fields_of fa.values) + 16 * length shape.aggs) (fields_fit shape a fa) in
      let fields : length (fields_of fb.values) ≡ length (fields_of fa.values) = omega (arith, count) in
      let cut : head_len shape a ≡ head_len shape b =
      (let x = head_is shape a fa in let y = head_is shape b fb in let la = head_long fa.values (length shape.aggs) in let lb = head_long fb.values (length shape.aggs) in omega (arith, x, y, la, lb, fields)) in
      let heads : head_of fb.values (length shape.aggs) ≡ head_of fa.values (length shape.aggs) =
      sym (taken_is shape b fb) ∙ ap (λ (n : ℕ). take n b) (sym cut) ∙ same ∙ taken_is shape a fa in
      same_fields heads fields

  pub same_heads : fa.values ≡ fb.values → take (head_len shape a) b ≡ take (head_len shape a) a
  same_heads same =
      let heads : head_of fb.values (length shape.aggs) ≡ head_of fa.values (length shape.aggs) = ap (λ (vs : List Value). head_of vs (length shape.aggs)) (sym same) in
      let cut : head_len shape a ≡ head_len shape b = head_is shape a fa ∙ sym (ap length heads) ∙ sym (head_is shape b fb) in
      ap (λ (n : ℕ). take n b) cut ∙ taken_is shape b fb ∙ heads ∙ sym (taken_is shape a fa)

-- ---- the kinds of a key

key_long : (kinds : List Kind) (columns : List ℕ) → All (IsKeyColumn kinds) columns → length (filter_map (slice_get kinds) columns) ≡ length columns
key_long kinds [] are = refl
key_long kinds (c ∷ cs) are =
    let first = All-head (IsKeyColumn kinds) c cs are in
    let rest = key_long kinds cs (All-tail (IsKeyColumn kinds) c cs are) in
    ap (λ (o : Option Kind). length (cons_option o (filter_map (slice_get kinds) cs))) first.1 ∙ ap suc rest

pub full_keys : (shape : Shape) → IsShape shape → length (key_kinds shape) ≡ length shape.keys
full_keys shape is = key_long shape.kinds shape.keys is.keys

narrow_more : (k : Kind) (ks : List Kind) → k ≢ kind.Wide → ((vs : List Value) → kinds_of vs ≡ ks → All (λ v. kind_of v ≢ kind.Wide) vs) → (vs : List Value) → kinds_of vs ≡ k ∷ ks → All (λ v. kind_of v ≢ kind.Wide) vs
narrow_more k ks narrow rest [] is = All-nil (λ v. kind_of v ≢ kind.Wide)
narrow_more k ks narrow rest (v ∷ vs) is =
    All-cons (λ w. kind_of w ≢ kind.Wide) v vs
    (λ wide. narrow (sym (head_same (kind_of v) k (kinds_of vs) ks is) ∙ wide))
    (rest vs (tail_same (kind_of v) k (kinds_of vs) ks is))

narrow_kinds : (kinds : List Kind) (columns : List ℕ) → All (IsKeyColumn kinds) columns → (vs : List Value) → kinds_of vs ≡ filter_map (slice_get kinds) columns → All (λ v. kind_of v ≢ kind.Wide) vs
narrow_kinds kinds [] are [] is = All-nil (λ v. kind_of v ≢ kind.Wide)
narrow_kinds kinds [] are (v ∷ vs) is = absurd (let long = ap length is in omega (arith, long))
narrow_kinds kinds (c ∷ cs) are vs is =
    let first = All-head (IsKeyColumn kinds) c cs are in
    narrow_more first.0 (filter_map (slice_get kinds) cs) first.2 (λ ws same. narrow_kinds kinds cs (All-tail (IsKeyColumn kinds) c cs are) ws same) vs
    (is ∙ ap (λ (o : Option Kind). cons_option o (filter_map (slice_get kinds) cs)) first.1)

pub field_fits : (vs : List Value) (i : ℕ) (v : Value) → slice_get vs i ≡ Some v → length (field_bytes v) ≤ length (fields_of vs)
field_fits [] i v at = absurd (none-some v at)
field_fits (w ∷ vs) zero v at = let long = length-append (field_bytes w) (fields_of vs) in let same : length (field_bytes w) ≡ length (field_bytes v) = ap (λ (x : Value). length (field_bytes x)) (same_Some w v at) in omega (arith, long, same)
field_fits (w ∷ vs) (suc i) v at = let long = length-append (field_bytes w) (fields_of vs) in let rest = field_fits vs i v at in omega (arith, long, rest)

pub key_values : (shape : Shape) (bytes : List ℕ) → IsShape shape → (form : HasForm shape bytes) → All IsKeyValue form.values
key_values shape bytes is form =
    let narrow = narrow_kinds shape.kinds shape.keys is.keys form.values form.kinds_are in
    all_placed IsKeyValue form.values (λ i v at. record {
      good = at_place IsValue form.values i v (good_values shape bytes form) at;
      narrow = at_place (λ w. kind_of w ≢ kind.Wide) form.values i v narrow at;
      short = let fits = fields_fit shape bytes form in let one = field_fits form.values i v at in omega (arith, fits, one);
    })

-- the bytes before the numbers are the same exactly where the keys are
pub head_tells : RowBack → (shape : Shape) (a b : List ℕ) → IsShape shape → IsPartialRow shape a → IsPartialRow shape b → take (head_len shape a) b ≡ take (head_len shape a) a → key_at shape a ≡ key_at shape b
head_tells back shape a b is pa pb same =
    let fa = has_form shape a pa in
    let fb = has_form shape b pb in
    let full = full_keys shape is in
    ap (λ (p : Partial). p.key) (says shape a full fa) ∙ ap (flat_map key_part) (same_values back shape a b fa fb same) ∙ sym (ap (λ (p : Partial). p.key) (says shape b full fb))

pub key_tells_head : RowBack → (shape : Shape) (a b : List ℕ) → IsShape shape → IsPartialRow shape a → IsPartialRow shape b → key_at shape a ≡ key_at shape b → take (head_len shape a) b ≡ take (head_len shape a) a
key_tells_head back shape a b is pa pb same =
    let fa = has_form shape a pa in
    let fb = has_form shape b pb in
    let full = full_keys shape is in
    let keys : flat_map key_part fa.values ≡ flat_map key_part fb.values = sym (ap (λ (p : Partial). p.key) (says shape a full fa)) ∙ same ∙ ap (λ (p : Partial). p.key) (says shape b full fb) in
    same_heads back shape a b fa fb (key_tells fa.values fb.values (key_values shape a is fa) (key_values shape b is fb) keys)

-- and then they are as long
pub heads_long : (shape : Shape) (a b : List ℕ) → IsShape shape → IsPartialRow shape a → IsPartialRow shape b → key_at shape a ≡ key_at shape b → head_len shape a ≡ head_len shape b
heads_long shape a b is pa pb same =
    let fa = has_form shape a pa in
    let fb = has_form shape b pb in
    let full = full_keys shape is in
    let keys : flat_map key_part fa.values ≡ flat_map key_part fb.values = sym (ap (λ (p : Partial). p.key) (says shape a full fa)) ∙ same ∙ ap (λ (p : Partial). p.key) (says shape b full fb) in
    head_is shape a fa
    ∙ ap (λ (vs : List Value). length (head_of vs (length shape.aggs))) (key_tells fa.values fb.values (key_values shape a is fa) (key_values shape b is fb) keys)
    ∙ sym (head_is shape b fb)
