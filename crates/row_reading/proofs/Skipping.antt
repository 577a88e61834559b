-- Fields are skipped where they can be read.
use Rattle.std.proofs.Common.{◌≡◌, ◌∙◌, ℕ, ◌+◌, ◌<◌, ◌≤◌, ◌^◌, List, [], ◌∷◌, ◌++◌, length, take, drop, Option, Some, None, refl, ap, ap₂, sym, arith, append_assoc, append-nil, length-append, le-leb, leb-true, cond}
use Rattle.std.specs.Prelude.{Bool, true, false, flat_map, nat_le, option_map, option_and_then}
use Rattle.std.specs.Int.{w32, w64, w128, to_be_bytes, cast_signed}
use Rattle.std.proofs.lemmas.List.{drop-drop, length-drop}
use Rattle.std.proofs.lemmas.Option.{same_Some}
use Rattle.row_codec.specs.declared.values.Kind.{Kind}
use Rattle.row_codec.specs.declared.values.Kind.TheVariants as kind
use Rattle.row_codec.specs.declared.values.Value.{Value}
use Rattle.row_codec.specs.declared.values.Value.TheVariants.{Int, Text, Wide}
use Rattle.row_codec.specs.Row.{kind_of, kinds_of}
use Rattle.row_codec.specs.RowBytes.{field_bytes, framed}
use Rattle.row_codec.specs.RowReading.{field_at, fields_in, framed_at, front, number_in}
use Rattle.row_codec.proofs.SpelledBack.{front_back, number_back}
use Rattle.row_reading.specs.FieldParts.{behind_fields, cut_at}
use Rattle.row_reading.specs.Reading.{IsRowOf, values_at}
use Rattle.row_reading.proofs.Bodies.{body_there}

-- ---- what is spelled is cut

text_cut : (text behind : List ℕ) → length text < 2 ^ 32 → cut_at kind.Text (framed text ++ behind) ≡ Some (framed text, behind)
text_cut text behind fits =
    let long : length (framed text) ≡ 4 + length text = length-append (to_be_bytes w32 (length text)) text in
    ap (λ o. option_and_then (λ (head, rest). front (4 + number_in head) (framed text ++ behind)) o) (front_back (to_be_bytes w32 (length text)) (text ++ behind))
    ∙ ap (λ (n : ℕ). front (4 + n) (framed text ++ behind)) (number_back 4 (length text) fits)
    ∙ ap (λ (n : ℕ). front n (framed text ++ behind)) (sym long)
    ∙ front_back (framed text) behind

pub cut_back : (v : Value) (behind : List ℕ) → length (field_bytes v) < 2 ^ 32 → cut_at (kind_of v) (field_bytes v ++ behind) ≡ Some (field_bytes v, behind)
cut_back (Int z) behind fits = front_back (field_bytes (Int z)) behind
cut_back (Text text) behind fits = text_cut text behind (let long = length-append (to_be_bytes w32 (length text)) text in omega (arith, long, fits))
cut_back (Wide z) behind fits = front_back (field_bytes (Wide z)) behind

pub skipped_back : (vs : List Value) (behind : List ℕ) → length (flat_map field_bytes vs) < 2 ^ 32 → behind_fields (kinds_of vs) (flat_map field_bytes vs ++ behind) ≡ Some behind
skipped_back [] behind fits = refl
skipped_back (v ∷ vs) behind fits =
    let long = length-append (field_bytes v) (flat_map field_bytes vs) in
    ap (λ (bytes : List ℕ). behind_fields (kinds_of (v ∷ vs)) bytes) (append_assoc (field_bytes v) (flat_map field_bytes vs) behind)
    ∙ ap (λ o. option_and_then (λ (field, rest). behind_fields (kinds_of vs) rest) o) (cut_back v (flat_map field_bytes vs ++ behind) (omega (arith, long, fits)))
    ∙ skipped_back vs behind (omega (arith, long, fits))

-- ---- what is cut is read

then_some : {A B : Type 0} (f : A → Option B) (o : Option A) (y : B) → option_and_then f o ≡ Some y → (x : A) × (o ≡ Some x) × (f x ≡ Some y)
then_some f None y e = absurd cc
then_some f (Some x) y e = (x, refl, e)

-- a front that was cut
record Cut (n : ℕ) (bytes : List ℕ) (found : List ℕ × List ℕ) : Type 0 where
  enough : n ≤ length bytes
  is : (take n bytes, drop n bytes) ≡ found

front_cut : (n : ℕ) (bytes : List ℕ) (found : List ℕ × List ℕ) → front n bytes ≡ Some found → Cut n bytes found
front_cut n bytes found e = tested (nat_le n (length bytes)) refl e
  where
    tested : (test : Bool) → nat_le n (length bytes) ≡ test → cond test (Some (take n bytes, drop n bytes)) None ≡ Some found → Cut n bytes found
    tested true is e = record { enough = leb-true n (length bytes) is; is = cc }
    tested false is e = absurd cc

front_is : (n : ℕ) (bytes : List ℕ) → n ≤ length bytes → front n bytes ≡ Some (take n bytes, drop n bytes)
front_is n bytes enough = rw (le-leb n (length bytes) enough) refl

cut_field : (k : Kind) (bytes field rest : List ℕ) → cut_at k bytes ≡ Some (field, rest) → (v : Value) × (field_at k bytes ≡ Some (v, rest))
cut_field kind.Int bytes field rest e = (Int (cast_signed w64 (number_in field)), ap (λ o. option_map (λ (head, behind). (Int (cast_signed w64 (number_in head)), behind)) o) e)
cut_field kind.Text bytes field rest e =
    let outer = then_some (λ (head, behind). front (4 + number_in head) bytes) (front 4 bytes) (field, rest) e in
    let four = front_cut 4 bytes outer.0 outer.1 in
    let n : ℕ = number_in outer.0.0 in
    let whole = front_cut (4 + n) bytes (field, rest) outer.2 in
    let behind : drop 4 bytes ≡ outer.0.1 = ap (λ (p : List ℕ × List ℕ). p.1) four.is in
    let last : drop n (drop 4 bytes) ≡ rest = drop-drop n 4 bytes ∙ ap (λ (p : List ℕ × List ℕ). p.1) whole.is in
    let enough : n ≤ length (drop 4 bytes) = (let long = length-drop 4 bytes in let all = whole.enough in omega (arith, long, all)) in
    let framed_is : framed_at bytes ≡ Some (take n (drop 4 bytes), rest) =
    ap (λ o. option_and_then (λ (head, more). front (number_in head) more) o) outer.1
    ∙ ap (λ (more : List ℕ). front n more) (sym behind) ∙ front_is n (drop 4 bytes) enough
    ∙ ap (λ (more : List ℕ). Some (take n (drop 4 bytes), more)) last in
    (Text (take n (drop 4 bytes)), ap (λ o. option_map (λ (text, more). (Text text, more)) o) framed_is)
cut_field kind.Wide bytes field rest e = (Wide (cast_signed w128 (number_in field)), ap (λ o. option_map (λ (head, behind). (Wide (cast_signed w128 (number_in head)), behind)) o) e)

pub all_read : (ks : List Kind) (bytes : List ℕ) → behind_fields ks bytes ≡ Some [] → (vs : List Value) × (fields_in ks bytes ≡ Some vs)
all_read [] [] e = ([], refl)
all_read [] (b ∷ bytes) e = absurd cc
all_read (k ∷ ks) bytes e =
    let outer = then_some (λ (field, rest). behind_fields ks rest) (cut_at k bytes) [] e in
    let first = cut_field k bytes outer.0.0 outer.0.1 outer.1 in
    let later = all_read ks outer.0.1 outer.2 in (
      first.0 ∷ later.0,
      ap (λ o. option_and_then (λ (field, rest). option_map (λ fields. field ∷ fields) (fields_in ks rest)) o) first.1
          ∙ ap (λ o. option_map (λ fields. first.0 ∷ fields) o) later.1,
    )

-- ---- a row's fields

same_framed : (a b : List ℕ) → framed a ≡ framed b → a ≡ b
same_framed a b same = ap (drop 4) same

module _ (kinds : List Kind) (row : List ℕ) (is : IsRowOf kinds row) where
  abbrev vs : List Value
  vs = values_at kinds row

  pub row_skipped : (body : List ℕ) → framed body ≡ row → behind_fields kinds body ≡ Some []
  row_skipped body spelled =
      let same : flat_map field_bytes vs ++ [] ≡ body = append-nil (flat_map field_bytes vs) ∙ same_framed (flat_map field_bytes vs) body (body_there kinds row is ∙ sym spelled) in
      ap₂ behind_fields (sym is.kinds_are) (sym same) ∙ skipped_back vs [] is.is_row.fits

  pub is_none : (body : List ℕ) → framed body ≡ row → None ≡ behind_fields kinds body → ⊥
  is_none body spelled none = absurd (let both = none ∙ row_skipped body spelled in cc)

  pub is_rest : (body rest : List ℕ) → framed body ≡ row → Some rest ≡ behind_fields kinds body → rest ≡ []
  is_rest body rest spelled found = same_Some rest [] (found ∙ row_skipped body spelled)

pub fields_are : (kinds : List Kind) (body : List ℕ) → IsRowOf kinds (framed body) → body ≡ flat_map field_bytes (values_at kinds (framed body))
fields_are kinds body is = sym (same_framed (flat_map field_bytes (values_at kinds (framed body))) body (body_there kinds (framed body) is))

pub no_bytes : (bytes : List ℕ) → length bytes ≡ 0 → bytes ≡ []
no_bytes [] none = refl
no_bytes (b ∷ bytes) none = absurd (omega (arith, none))
