-- The fields behind the frame of a row, read and skipped.
use Rattle.std.proofs.Common.{◌≡◌, ◌∙◌, ℕ, ◌+◌, ◌<◌, ◌^◌, List, [], ◌∷◌, ◌++◌, length, Option, Some, None, refl, ap, sym, subst, arith, append-nil, length-append}
use Rattle.std.specs.Prelude.{Bool, true, false, flat_map, option_map, option_and_then, IfOk, OnOk, Ok, Err, Result}
use Rattle.std.specs.Int.{w32, to_be_bytes}
use Rattle.row_codec.specs.declared.values.Kind.{Kind}
use Rattle.row_codec.specs.declared.values.Value.{Value}
use Rattle.row_codec.specs.declared.values.Value.TheVariants.{Int, Text, Wide}
use Rattle.row_codec.specs.Row.{kinds_of}
use Rattle.row_codec.specs.RowBytes.{field_bytes, framed, row_bytes}
use Rattle.row_codec.specs.RowLaws.{Begins, IsRow}
use Rattle.row_codec.specs.RowReading.{fields_in, framed_at, front, number_in, row_at}
use Rattle.row_codec.proofs.Numbers.{AreBytes}
use Rattle.row_codec.proofs.ReadBack.{row_begins}
use Rattle.row_codec.proofs.SpelledBack.{front_back, number_back, row_back}
use Rattle.row_reading.specs.Reading.{IsRowOf, values_at, values_read}
use Rattle.row_reading.specs.ReadingLaws.{SpelledIsRow, ValuesBack}

-- ---- what is spelled is read back

pub values_back : ValuesBack
unfolding values_at
values_back row is =
    ap (λ (bytes : List ℕ). values_read (row_at (kinds_of row) bytes)) (sym (append-nil (row_bytes row)))
    ∙ ap values_read (row_back row [] is)

pub spelled_is_row : SpelledIsRow
spelled_is_row row is =
    let back = values_back row is in
    record { is_row = subst IsRow (sym back) is; kinds_are = ap kinds_of back; spelled = ap row_bytes back }

-- ---- what is read was spelled

framed_back : (body : List ℕ) → length body < 2 ^ 32 → framed_at (framed body) ≡ Some (body, [])
framed_back body fits =
    ap (λ o. option_and_then (λ (head, rest). front (number_in head) rest) o) (front_back (to_be_bytes w32 (length body)) body)
    ∙ ap (λ (n : ℕ). front n body) (number_back 4 (length body) fits)
    ∙ ap (λ (bytes : List ℕ). front (length body) bytes) (sym (append-nil body))
    ∙ front_back body []

abbrev counted : List ℕ → Option (List Value) → Option (List Value × ℕ)
counted body found = option_map (λ vs. (vs, 4 + length body)) found

-- a row with a field, behind its frame
body_read : (kinds : List Kind) (body : List ℕ) → 0 < length body → length body < 2 ^ 32 → row_at kinds (framed body) ≡ counted body (fields_in kinds body)
unfolding row_at
body_read [] [] some fits = absurd (omega (arith, some))
body_read [] (b ∷ body) some fits = refl
body_read (k ∷ kinds) body some fits =
    ap (λ o. option_and_then (λ (inside, rest). option_map (λ vs. (vs, 4 + length inside)) (fields_in (k ∷ kinds) inside)) o) (framed_back body fits)

no_rest : (xs ys zs : List ℕ) → xs ++ ys ≡ zs → length xs ≡ length zs → xs ≡ zs
no_rest xs [] zs same long = sym (append-nil xs) ∙ same
no_rest xs (y ∷ ys) zs same long = absurd (let all = length-append xs (y ∷ ys) in let is = ap length same in omega (arith, all, is, long))

no_read : (o : Option (List Value)) (n : ℕ) (row : List Value) (body : List ℕ) → counted body o ≡ Some (row, n) → o ≡ None → ⊥
no_read None n row body read none = absurd cc
no_read (Some vs) n row body read none = absurd cc

module _ (kinds : List Kind) (row body : List ℕ) (spelled : framed body ≡ row) (some : 0 < length body) (fits : length body < 2 ^ 32) where
  row_is : row_at kinds row ≡ counted body (fields_in kinds body)
  row_is = ap (row_at kinds) (sym spelled) ∙ body_read kinds body some fits

  found : (vs : List Value) → fields_in kinds body ≡ Some vs → row_at kinds row ≡ Some (vs, 4 + length body)
  found vs read = row_is ∙ ap (counted body) read

  pub values_found : (vs : List Value) → fields_in kinds body ≡ Some vs → vs ≡ values_at kinds row
  unfolding values_at
  values_found vs read = sym (ap values_read (found vs read))

  pub row_found : (vs : List Value) → AreBytes row → fields_in kinds body ≡ Some vs → IsRowOf kinds row
  row_found vs small read =
      let begins = row_begins kinds row (vs, 4 + length body) small (found vs read) in
      let here : Begins kinds vs row = begins.0 in
      let long : length (framed body) ≡ 4 + length body = length-append (to_be_bytes w32 (length body)) body in
      let whole : length (row_bytes vs) ≡ length row = sym begins.1 ∙ sym long ∙ ap length spelled in
      let same = values_found vs read in
      record {
        is_row = subst IsRow same here.is_row;
        kinds_are = ap kinds_of (sym same) ∙ here.kinds_are;
        spelled = ap row_bytes (sym same) ∙ no_rest (row_bytes vs) here.behind row here.bytes_are whole;
      }

  pub row_missed : fields_in kinds body ≡ None → IsRowOf kinds row → ⊥
  row_missed none is =
      let vs : List Value = values_at kinds row in
      let back : row_at kinds row ≡ Some (vs, length (row_bytes vs)) =
      ap (λ (ks : List Kind). row_at ks row) (sym is.kinds_are)
      ∙ ap (row_at (kinds_of vs)) (sym (append-nil (row_bytes vs) ∙ is.spelled))
      ∙ row_back vs [] is.is_row in
      no_read (fields_in kinds body) (length (row_bytes vs)) vs body (sym row_is ∙ back) none

-- a row has a body
field_some : (v : Value) → 0 < length (field_bytes v)
field_some (Int z) = omega arith
field_some (Text text) = let long = length-append (to_be_bytes w32 (length text)) text in omega (arith, long)
field_some (Wide z) = omega arith

body_some : (vs : List Value) → 0 < length vs → 0 < length (flat_map field_bytes vs)
body_some [] some = absurd (omega (arith, some))
body_some (v ∷ vs) some = let long = length-append (field_bytes v) (flat_map field_bytes vs) in let first = field_some v in omega (arith, long, first)

pub body_there : (kinds : List Kind) (row : List ℕ) → IsRowOf kinds row → framed (flat_map field_bytes (values_at kinds row)) ≡ row
unfolding row_bytes
body_there kinds row is = is.spelled

pub has_body : (kinds : List Kind) (row : List ℕ) → IsRowOf kinds row → ((body : List ℕ) → framed body ≡ row → 0 < length body → length body < 2 ^ 32 → ⊥) → ⊥
has_body kinds row is none =
    none (flat_map field_bytes (values_at kinds row)) (body_there kinds row is) (body_some (values_at kinds row) is.is_row.some) is.is_row.fits

-- ---- an answer whether there is a row

pub if_ok : {A E : Type 0} {P Q : A → Type 0} (r : Result A E) → ((x : A) → P x → Q x) → IfOk r P → IfOk r Q
if_ok (Ok x) more holds = more x holds
if_ok (Err e) more holds = holds

pub told : {P R : Type 0} (found : Bool) → (found ≡ false → P) → (P → R → ⊥) → R → found ≡ true
told true none never is = refl
told false none never is = absurd (never (none refl) is)

pub on_ok : {A E : Type 0} {P Q : Type 0} (r : Result A E) → (P → Q) → OnOk r P → OnOk r Q
on_ok (Ok x) more holds = more holds
on_ok (Err e) more holds = holds
