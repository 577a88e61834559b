-- The field in a column of a row, and the key that it gives.
use Rattle.std.proofs.Common.{◌≡◌, ◌∙◌, ℕ, zero, suc, ◌+◌, ◌<◌, ◌^◌, List, [], ◌∷◌, ◌++◌, length, take, drop, Some, None, refl, ap, ap₂, sym, arith, append-nil, length-append, take-append-drop}
use Rattle.std.specs.Prelude.{flat_map, get_or, option_map, slice_get}
use Rattle.std.proofs.lemmas.List.Elements.{filter_map-append}
use Rattle.std.proofs.lemmas.Option.{same_Some, slice_get-map, slice_get_within}
use Rattle.std.proofs.lemmas.List.{length-map, take_more}
use Rattle.std.proofs.lemmas.List.Concat.{flat_map-append}
use Rattle.row_codec.specs.declared.values.Kind.{Kind}
use Rattle.row_codec.specs.declared.values.Value.{Value}
use Rattle.row_codec.specs.declared.values.Value.TheVariants.{Int, Text, Wide}
use Rattle.row_codec.specs.Row.{kind_of, kinds_of}
use Rattle.row_codec.specs.RowBytes.{field_bytes, framed, key_bytes, key_part, values_in}
use Rattle.row_reading.specs.FieldParts.{behind_fields, cut_at, tagged}
use Rattle.row_reading.specs.Reading.{IsRowOf, values_at}
use Rattle.row_reading.proofs.Skipping.{cut_back, fields_are, skipped_back}

-- the value in a column, and those behind it
pub record At (vs : List Value) (column : ℕ) : Type 0 where
  pub value : Value
  pub there : slice_get vs column ≡ Some value
  pub split : drop column vs ≡ value ∷ drop (suc column) vs

value_in : (vs : List Value) (column : ℕ) → column < length vs → At vs column
value_in [] column inside = absurd (omega (arith, inside))
value_in (v ∷ vs) zero inside = record { value = v; there = refl; split = refl }
value_in (v ∷ vs) (suc column) inside =
    let later = value_in vs column (omega (arith, inside)) in
    record { value = later.value; there = later.there; split = later.split }

kinds_taken : (n : ℕ) (vs : List Value) → take n (kinds_of vs) ≡ kinds_of (take n vs)
kinds_taken zero vs = refl
kinds_taken (suc n) [] = refl
kinds_taken (suc n) (v ∷ vs) = ap (λ (ks : List Kind). kind_of v ∷ ks) (kinds_taken n vs)

tag_is : (v : Value) → tagged (kind_of v) (field_bytes v) ≡ key_part v
tag_is (Int z) = refl
tag_is (Text text) = refl
tag_is (Wide z) = refl

one_part : (vs : List Value) (column : ℕ) (v : Value) → slice_get vs column ≡ Some v → key_bytes (column ∷ []) vs ≡ key_part v
unfolding key_bytes
one_part vs column v there = rw there (append-nil (key_part v))

module _ (kinds : List Kind) (body : List ℕ) (is : IsRowOf kinds (framed body)) (column : ℕ) (k : Kind) (there : slice_get kinds column ≡ Some k) where
  abbrev vs : List Value
  vs = values_at kinds (framed body)

  inside : column < length vs
  inside =
      let below = slice_get_within kinds column k there in
      let long : length (kinds_of vs) ≡ length vs = length-map vs kind_of in
      let same = ap length is.kinds_are in
      omega (arith, below, long, same)

  pub at : At vs column
  at = value_in vs column inside

  kind_is : k ≡ kind_of at.value
  kind_is =
      same_Some k (kind_of at.value)
      (sym there ∙ ap (λ (ks : List Kind). slice_get ks column) (sym is.kinds_are) ∙ slice_get-map kind_of vs column ∙ ap (option_map kind_of) at.there)

  split : flat_map field_bytes vs ≡ flat_map field_bytes (take column vs) ++ flat_map field_bytes (drop column vs)
  split = ap (flat_map field_bytes) (sym (take-append-drop column vs)) ∙ flat_map-append field_bytes (take column vs) (drop column vs)

  behind_split : flat_map field_bytes (drop column vs) ≡ field_bytes at.value ++ flat_map field_bytes (drop (suc column) vs)
  behind_split = ap (flat_map field_bytes) at.split

  long : length (flat_map field_bytes (take column vs)) + (length (field_bytes at.value) + length (flat_map field_bytes (drop (suc column) vs))) < 2 ^ 32
  long =
      let all = ap length split in
      let two = length-append (flat_map field_bytes (take column vs)) (flat_map field_bytes (drop column vs)) in
      let behind = ap length behind_split in
      let three = length-append (field_bytes at.value) (flat_map field_bytes (drop (suc column) vs)) in
      let fits = is.is_row.fits in
      omega (arith, all, two, behind, three, fits)

  -- the fields before it are skipped
  pub walked : behind_fields (take column kinds) body ≡ Some (flat_map field_bytes (drop column vs))
  walked =
      ap₂ behind_fields (ap (take column) (sym is.kinds_are) ∙ kinds_taken column vs) (fields_are kinds body is ∙ split)
      ∙ skipped_back (take column vs) (flat_map field_bytes (drop column vs)) (let all = long in omega (arith, all))

  -- and it is cut
  pub field_cut : cut_at k (flat_map field_bytes (drop column vs)) ≡ Some (field_bytes at.value, flat_map field_bytes (drop (suc column) vs))
  field_cut =
      ap₂ cut_at kind_is behind_split
      ∙ cut_back at.value (flat_map field_bytes (drop (suc column) vs)) (let all = long in omega (arith, all))

  pub none_walked : None ≡ behind_fields (take column kinds) body → ⊥
  none_walked none = absurd (let both = none ∙ walked in cc)

  pub inside_kinds : column < length kinds
  inside_kinds = slice_get_within kinds column k there

  module _ (rest : List ℕ) (found : Some rest ≡ behind_fields (take column kinds) body) where
    rest_is : rest ≡ flat_map field_bytes (drop column vs)
    rest_is = same_Some rest (flat_map field_bytes (drop column vs)) (found ∙ walked)

    pub none_cut : None ≡ cut_at k rest → ⊥
    none_cut none = absurd (let both = none ∙ ap (cut_at k) rest_is ∙ field_cut in cc)

    -- what the cut field is in the key
    pub part_is : (field behind : List ℕ) → Some (field, behind) ≡ cut_at k rest → tagged k field ≡ key_bytes (column ∷ []) vs
    part_is field behind cut =
        let same : (field, behind) ≡ (field_bytes at.value, flat_map field_bytes (drop (suc column) vs)) = same_Some _ _ (cut ∙ ap (cut_at k) rest_is ∙ field_cut) in
        ap₂ tagged kind_is (ap (λ (p : List ℕ × List ℕ). p.0) same) ∙ tag_is at.value ∙ sym (one_part vs column at.value at.there)

-- a key grows by one column
pub key_grows : (columns : List ℕ) (vs : List Value) (i d : ℕ) (key now : List ℕ) → i < length columns → key ≡ key_bytes (take i columns) vs → now ≡ key ++ key_bytes (get_or columns i d ∷ []) vs → now ≡ key_bytes (take (i + 1) columns) vs
unfolding key_bytes
key_grows columns vs i d key now inside is grown =
    grown ∙ ap (λ (k : List ℕ). k ++ flat_map key_part (values_in (get_or columns i d ∷ []) vs)) is
    ∙ sym (flat_map-append key_part (values_in (take i columns) vs) (values_in (get_or columns i d ∷ []) vs))
    ∙ ap (flat_map key_part) (sym (filter_map-append (slice_get vs) (take i columns) (get_or columns i d ∷ [])))
    ∙ ap (λ (cs : List ℕ). flat_map key_part (values_in cs vs)) (sym (take_more columns i d inside))
