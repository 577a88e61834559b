-- What is read was spelled so.
use Rattle.std.proofs.Common.{◌≡◌, ℕ, ◌+◌, suc, ◌<◌, ◌^◌, Bool, true, false, List, [], ◌∷◌, ◌++◌, length, take, drop, get_or, refl, sym, ap, ◌∙◌, leb-true, append_assoc, length-take-le, take-append-drop, subst, arith}
use Rattle.std.proofs.Math.Facts.{sfits_to_z, Fits-of_lt}
use Rattle.std.proofs.lemmas.List.Elements.{All-nil, All-cons}
use Rattle.std.proofs.lemmas.Int.{of_z-to_z}
use Rattle.std.specs.Prelude.{All, Option, Some, None, option_map, option_and_then, flat_map, nat_le, if◌then◌else◌}
use Rattle.std.specs.Int.{w32, w64, w128, to_be_bytes, cast_signed, bytes_high_first}
use Rattle.row_codec.specs.declared.values.Kind.{Kind}
use Rattle.row_codec.specs.declared.values.Kind.TheVariants as kind
use Rattle.row_codec.specs.declared.values.Value.{Value}
use Rattle.row_codec.specs.declared.values.Value.TheVariants.{Int, Text, Wide}
use Rattle.row_codec.specs.Row.{kind_of, kinds_of, IsValue}
use Rattle.row_codec.specs.RowBytes.{framed, field_bytes, row_bytes}
use Rattle.row_codec.specs.RowReading.{number_in, front, framed_at, field_at, fields_in, row_at}
use Rattle.row_codec.specs.RowLaws.{Begins, NoneBegins}
use Rattle.row_codec.proofs.SpelledBack.{row_back}
use Rattle.row_codec.proofs.Numbers.{AreBytes, number_below, spelled_again}

-- ---- bytes

all_bytes : (bs : List ℕ) → AreBytes bs → All (λ byte. byte < 256) bs
all_bytes [] small = All-nil (λ byte. byte < 256)
all_bytes (b ∷ bs) small = All-cons (λ byte. byte < 256) b bs small.0 (all_bytes bs small.1)

pub from_places : (bs : List ℕ) → ((i : ℕ) → get_or bs i 0 < 256) → AreBytes bs
from_places [] small = tt
from_places (b ∷ bs) small = (small 0, from_places bs (λ i. small (suc i)))

fore_bytes : (xs ys : List ℕ) → AreBytes (xs ++ ys) → AreBytes xs
fore_bytes [] ys small = tt
fore_bytes (x ∷ xs) ys small = (small.0, fore_bytes xs ys small.1)

hind_bytes : (xs ys : List ℕ) → AreBytes (xs ++ ys) → AreBytes ys
hind_bytes [] ys small = small
hind_bytes (x ∷ xs) ys small = hind_bytes xs ys small.1

-- ---- the parts of an answer

map_some : {A B : Type 0} (f : A → B) (o : Option A) (y : B) → option_map f o ≡ Some y → (x : A) × (o ≡ Some x) × (f x ≡ y)
map_some f None y e = absurd (cc)
map_some f (Some x) y e = (x, refl, cc)

then_some : {A B : Type 0} (f : A → Option B) (o : Option A) (y : B) → option_and_then f o ≡ Some y → (x : A) × (o ≡ Some x) × (f x ≡ Some y)
then_some f None y e = absurd (cc)
then_some f (Some x) y e = (x, refl, e)

-- so many bytes, and those behind them
pub record Parts (count : ℕ) (bytes : List ℕ) (parts : List ℕ × List ℕ) : Type 0 where
  pub joined : parts.0 ++ parts.1 ≡ bytes
  pub long : length parts.0 ≡ count

abbrev tested : Bool → ℕ → List ℕ → Option (List ℕ × List ℕ)
tested test count bytes = if test then Some (take count bytes, drop count bytes) else None

front_tested : (count : ℕ) (bytes : List ℕ) (parts : List ℕ × List ℕ) (test : Bool) → nat_le count (length bytes) ≡ test → tested test count bytes ≡ Some parts → Parts count bytes parts
front_tested count bytes parts true enough e =
    let same : (take count bytes, drop count bytes) ≡ parts = cc in
    let cut : Parts count bytes (take count bytes, drop count bytes) = record {
      joined = take-append-drop count bytes;
      long = length-take-le count bytes (leb-true count (length bytes) enough);
    } in
    subst (Parts count bytes) same cut
front_tested count bytes parts false enough e = absurd (cc)

front_parts : (count : ℕ) (bytes : List ℕ) (parts : List ℕ × List ℕ) → front count bytes ≡ Some parts → Parts count bytes parts
front_parts count bytes parts e = front_tested count bytes parts (nat_le count (length bytes)) refl e

-- the bytes of a number that was read
head_again : (count : ℕ) (bytes : List ℕ) (parts : List ℕ × List ℕ) → AreBytes bytes → Parts count bytes parts → (bytes_high_first count (number_in parts.0) ≡ parts.0) × (number_in parts.0 < 256 ^ count)
head_again count bytes parts small cut =
    let head_small : AreBytes parts.0 = fore_bytes parts.0 parts.1 (subst AreBytes (sym cut.joined) small) in (
      ap (λ k. bytes_high_first k (number_in parts.0)) (sym cut.long) ∙ spelled_again 0 parts.0 head_small,
      subst (λ k. number_in parts.0 < 256 ^ k) cut.long (number_below parts.0 head_small),
    )

pub record Framed (bytes : List ℕ) (parts : List ℕ × List ℕ) : Type 0 where
  pub spelled : framed parts.0 ++ parts.1 ≡ bytes
  pub fits : length parts.0 < 2 ^ 32

pub framed_parts : (bytes : List ℕ) (parts : List ℕ × List ℕ) → AreBytes bytes → framed_at bytes ≡ Some parts → Framed bytes parts
framed_parts bytes parts small e =
    let outer = then_some (λ (head, rest). front (number_in head) rest) (front 4 bytes) parts e in
    let cut = front_parts 4 bytes outer.0 outer.1 in
    let again = head_again 4 bytes outer.0 small cut in
    let inner = front_parts (number_in outer.0.0) outer.0.1 parts outer.2 in
    record {
      spelled =
          append_assoc (to_be_bytes w32 (length parts.0)) parts.0 parts.1
          ∙ ap (λ n. bytes_high_first 4 n ++ (parts.0 ++ parts.1)) inner.long
          ∙ ap (λ head. head ++ (parts.0 ++ parts.1)) again.0
          ∙ ap (λ rest. outer.0.0 ++ rest) inner.joined
          ∙ cut.joined;
      fits = subst (λ n. n < 256 ^ 4) (sym inner.long) again.1;
    }

-- ---- fields

-- a field that was read is what its bytes spell
pub record Spells (k : Kind) (bytes : List ℕ) (field : Value × List ℕ) : Type 0 where
  pub spelled : field_bytes field.0 ++ field.1 ≡ bytes
  pub kind_is : kind_of field.0 ≡ k
  pub is_value : IsValue field.0

int_spells : (bytes : List ℕ) (parts : List ℕ × List ℕ) → AreBytes bytes → Parts 8 bytes parts → Spells kind.Int bytes (Int (cast_signed w64 (number_in parts.0)), parts.1)
int_spells bytes parts small cut =
    let again = head_again 8 bytes parts small cut in
    record {
      spelled =
          ap (λ n. bytes_high_first 8 n ++ parts.1) (of_z-to_z w64 (number_in parts.0) again.1)
          ∙ ap (λ head. head ++ parts.1) again.0
          ∙ cut.joined;
      kind_is = refl;
      is_value = sfits_to_z (Fits-of_lt again.1);
    }

wide_spells : (bytes : List ℕ) (parts : List ℕ × List ℕ) → AreBytes bytes → Parts 16 bytes parts → Spells kind.Wide bytes (Wide (cast_signed w128 (number_in parts.0)), parts.1)
wide_spells bytes parts small cut =
    let again = head_again 16 bytes parts small cut in
    record {
      spelled =
          ap (λ n. bytes_high_first 16 n ++ parts.1) (of_z-to_z w128 (number_in parts.0) again.1)
          ∙ ap (λ head. head ++ parts.1) again.0
          ∙ cut.joined;
      kind_is = refl;
      is_value = sfits_to_z (Fits-of_lt again.1);
    }

text_spells : (bytes : List ℕ) (parts : List ℕ × List ℕ) → AreBytes bytes → Framed bytes parts → Spells kind.Text bytes (Text parts.0, parts.1)
text_spells bytes parts small cut =
    let framed_small : AreBytes (framed parts.0) = fore_bytes (framed parts.0) parts.1 (subst AreBytes (sym cut.spelled) small) in
    record {
      spelled = cut.spelled;
      kind_is = refl;
      is_value = all_bytes parts.0 (hind_bytes (to_be_bytes w32 (length parts.0)) parts.0 framed_small);
    }

pub field_spells : (k : Kind) (bytes : List ℕ) (field : Value × List ℕ) → AreBytes bytes → field_at k bytes ≡ Some field → Spells k bytes field
field_spells kind.Int bytes field small e =
    let read = map_some (λ (head, rest). (Int (cast_signed w64 (number_in head)), rest)) (front 8 bytes) field e in
    subst (Spells kind.Int bytes) read.2 (int_spells bytes read.0 small (front_parts 8 bytes read.0 read.1))
field_spells kind.Text bytes field small e =
    let read = map_some (λ (inside, rest). (Text inside, rest)) (framed_at bytes) field e in
    subst (Spells kind.Text bytes) read.2 (text_spells bytes read.0 small (framed_parts bytes read.0 small read.1))
field_spells kind.Wide bytes field small e =
    let read = map_some (λ (head, rest). (Wide (cast_signed w128 (number_in head)), rest)) (front 16 bytes) field e in
    subst (Spells kind.Wide bytes) read.2 (wide_spells bytes read.0 small (front_parts 16 bytes read.0 read.1))

-- ---- rows

-- fields that were read are what the bytes spell
pub record SpellAll (kinds : List Kind) (bytes : List ℕ) (row : List Value) : Type 0 where
  pub spelled : flat_map field_bytes row ≡ bytes
  pub kinds_are : kinds_of row ≡ kinds
  pub values : All IsValue row

fields_spell : (kinds : List Kind) (bytes : List ℕ) (row : List Value) → AreBytes bytes → fields_in kinds bytes ≡ Some row → SpellAll kinds bytes row
fields_spell [] [] [] small e = record { spelled = refl; kinds_are = refl; values = All-nil IsValue }
fields_spell [] [] (v ∷ row) small e = absurd (cc)
fields_spell [] (b ∷ bytes) row small e = absurd (cc)
fields_spell (k ∷ kinds) bytes row small e =
    let outer = then_some (λ (field, rest). option_map (λ fields. field ∷ fields) (fields_in kinds rest)) (field_at k bytes) row e in
    let first = field_spells k bytes outer.0 small outer.1 in
    let inner = map_some (λ fields. outer.0.0 ∷ fields) (fields_in kinds outer.0.1) row outer.2 in
    let behind_small : AreBytes outer.0.1 = hind_bytes (field_bytes outer.0.0) outer.0.1 (subst AreBytes (sym first.spelled) small) in
    let later = fields_spell kinds outer.0.1 inner.0 behind_small inner.1 in
    let all : SpellAll (k ∷ kinds) bytes (outer.0.0 ∷ inner.0) = record {
      spelled = ap (λ rest. field_bytes outer.0.0 ++ rest) later.spelled ∙ first.spelled;
      kinds_are = λ i. first.kind_is i ∷ later.kinds_are i;
      values = All-cons IsValue outer.0.0 inner.0 first.is_value later.values;
    } in
    subst (SpellAll (k ∷ kinds) bytes) inner.2 all

some_field : (k : Kind) (kinds : List Kind) (row : List Value) → kinds_of row ≡ k ∷ kinds → 0 < length row
some_field k kinds [] e = absurd (cc)
some_field k kinds (v ∷ row) e = omega arith

-- a row that was read is what the bytes begin with
pub row_begins : (kinds : List Kind) (bytes : List ℕ) (found : List Value × ℕ) → AreBytes bytes → row_at kinds bytes ≡ Some found → Begins kinds found.0 bytes × (found.1 ≡ length (row_bytes found.0))
unfolding row_at row_bytes
row_begins [] bytes found small e = absurd (cc)
row_begins (k ∷ kinds) bytes found small e =
    let outer = then_some (λ (body, rest). option_map (λ row. (row, 4 + length body)) (fields_in (k ∷ kinds) body)) (framed_at bytes) found e in
    let body : List ℕ = outer.0.0 in
    let cut = framed_parts bytes outer.0 small outer.1 in
    let inner = map_some (λ row. (row, 4 + length body)) (fields_in (k ∷ kinds) body) found outer.2 in
    let framed_small : AreBytes (framed body) = fore_bytes (framed body) outer.0.1 (subst AreBytes (sym cut.spelled) small) in
    let all = fields_spell (k ∷ kinds) body inner.0 (hind_bytes (to_be_bytes w32 (length body)) body framed_small) inner.1 in
    let as_long = ap length all.spelled in
    let stands : Begins (k ∷ kinds) inner.0 bytes × (4 + length body ≡ length (row_bytes inner.0)) = (
      record {
        is_row = record { some = some_field k kinds inner.0 all.kinds_are; values = all.values; fits = subst (λ n. n < 2 ^ 32) (sym as_long) cut.fits };
        kinds_are = all.kinds_are;
        behind = outer.0.1;
        bytes_are = ap (λ inside. framed inside ++ outer.0.1) all.spelled ∙ cut.spelled;
      },
      omega arith,
    ) in
    subst (λ (f : List Value × ℕ). Begins (k ∷ kinds) f.0 bytes × (f.1 ≡ length (row_bytes f.0))) inner.2 stands

-- where nothing is read, the bytes begin with no row
pub none_begins : (kinds : List Kind) (bytes : List ℕ) → row_at kinds bytes ≡ None → NoneBegins kinds bytes
none_begins kinds bytes e row begins =
    let back = row_back row begins.behind begins.is_row in
    let same : row_at kinds bytes ≡ Some (row, length (row_bytes row)) = rw (← begins.kinds_are, ← begins.bytes_are) back in
    cc
