-- A key is read field by field.
use Rattle.std.proofs.Common.{◌≡◌, ◌∙◌, ℕ, zero, suc, ◌+◌, ◌*◌, ◌<◌, ◌≤◌, ◌^◌, List, [], ◌∷◌, ◌++◌, length, map, take, drop, Option, Some, None, refl, ap, ap₂, sym, subst, arith, append_assoc, append-nil, length-append, le-leb, leb-true, cond}
use Rattle.std.specs.Prelude.{ℤ, All, Bool, true, false, flat_map, filter_map, get_or, nat_le, option_map, option_and_then, slice_get}
use Rattle.std.specs.List.{cons_option}
use Rattle.std.specs.Int.{w32, w64, w128, to_be_bytes, cast_signed}
use Rattle.std.proofs.lemmas.List.{drop-drop, drop_all, length-drop, length-map}
use Rattle.std.proofs.lemmas.List.Elements.{All-append, All-cons, All-nil, filter_map-append}
use Rattle.std.proofs.lemmas.Option.{same_Some}
use Rattle.std.proofs.lemmas.List.Concat.{flat_map-append}
use Rattle.row_codec.specs.declared.values.Kind.{Kind}
use Rattle.row_codec.specs.declared.values.Kind.TheVariants as kind
use Rattle.row_codec.specs.declared.values.Value.{Value}
use Rattle.row_codec.specs.declared.values.Value.TheVariants.{Int, Text, Wide}
use Rattle.row_codec.specs.Row.{IsValue, kind_of, kinds_of}
use Rattle.row_codec.specs.RowBytes.{field_bytes, framed, key_part, row_bytes}
use Rattle.row_codec.specs.RowLaws.{IsRow, RowBack}
use Rattle.row_codec.specs.RowReading.{field_at, framed_at, front, number_in}
use Rattle.row_codec.proofs.Numbers.{AreBytes}
use Rattle.row_codec.proofs.ReadBack.{Spells, field_spells}
use Rattle.row_codec.proofs.SpelledBack.{front_back, number_back}
use Rattle.store_api.specs.declared.shapes.Shape.{Shape}
use Rattle.group_op.specs.KeyParts.{behind_key, counted, cut_at, parts_at, tagged}
use Rattle.group_op.specs.Stored.{IsPartialRow, key_at, key_kinds, partial_at}
use Rattle.group_op.proofs.Forms.{HasForm, has_form, partial_so}
use Rattle.group_op.proofs.RowForms.{body_some}
use Rattle.group_op.proofs.WideBytes.{all_long, all_wide, wide_fields}

-- ---- forwards: what is spelled is cut

text_cut : (text behind : List ℕ) → length text < 2 ^ 32 → cut_at kind.Text (framed text ++ behind) ≡ Some (framed text, behind)
text_cut text behind fits =
    let long : length (framed text) ≡ 4 + length text = length-append (to_be_bytes w32 (length text)) text in
    ap (λ o. option_and_then (λ (head, rest). front (4 + number_in head) (framed text ++ behind)) o) (front_back (to_be_bytes w32 (length text)) (text ++ behind))
    ∙ ap (λ (n : ℕ). front (4 + n) (framed text ++ behind)) (number_back 4 (length text) fits)
    ∙ ap (λ (n : ℕ). front n (framed text ++ behind)) (sym long)
    ∙ front_back (framed text) behind

cut_back : (v : Value) (behind : List ℕ) → length (field_bytes v) < 2 ^ 32 → cut_at (kind_of v) (field_bytes v ++ behind) ≡ Some (field_bytes v, behind)
cut_back (Int z) behind fits = front_back (field_bytes (Int z)) behind
cut_back (Text text) behind fits = text_cut text behind (let long = length-append (to_be_bytes w32 (length text)) text in omega (arith, long, fits))
cut_back (Wide z) behind fits = front_back (field_bytes (Wide z)) behind

tag_is : (v : Value) → tagged (kind_of v) (field_bytes v) ≡ key_part v
tag_is (Int z) = refl
tag_is (Text text) = refl
tag_is (Wide z) = refl

abbrev more_parts : Kind → List Kind → Option (List ℕ × List ℕ) → Option (List ℕ × List ℕ)
more_parts k ks found = option_and_then (λ (field, rest). option_map (λ (parts, behind). (tagged k field ++ parts, behind)) (parts_at ks rest)) found

pub parts_back : (vs : List Value) (behind : List ℕ) → length (flat_map field_bytes vs) < 2 ^ 32 → parts_at (kinds_of vs) (flat_map field_bytes vs ++ behind) ≡ Some (flat_map key_part vs, behind)
parts_back [] behind fits = refl
parts_back (v ∷ vs) behind fits =
    let long = length-append (field_bytes v) (flat_map field_bytes vs) in
    ap (λ (bytes : List ℕ). parts_at (kinds_of (v ∷ vs)) bytes) (append_assoc (field_bytes v) (flat_map field_bytes vs) behind)
    ∙ ap (more_parts (kind_of v) (kinds_of vs)) (cut_back v (flat_map field_bytes vs ++ behind) (omega (arith, long, fits)))
    ∙ ap (λ o. option_map (λ (parts, rest). (tagged (kind_of v) (field_bytes v) ++ parts, rest)) o) (parts_back vs behind (omega (arith, long, fits)))
    ∙ ap (λ (part : List ℕ). Some (part ++ flat_map key_part vs, behind)) (tag_is v)

-- ---- backwards: what is cut was spelled

then_some : {A B : Type 0} (f : A → Option B) (o : Option A) (y : B) → option_and_then f o ≡ Some y → (x : A) × (o ≡ Some x) × (f x ≡ Some y)
then_some f None y e = absurd cc
then_some f (Some x) y e = (x, refl, e)

map_some : {A B : Type 0} (f : A → B) (o : Option A) (y : B) → option_map f o ≡ Some y → (x : A) × (o ≡ Some x) × (f x ≡ y)
map_some f None y e = absurd cc
map_some f (Some x) y e = (x, refl, cc)

-- a front that was cut
record Cut (n : ℕ) (bytes : List ℕ) (found : List ℕ × List ℕ) : Type 0 where
  enough : n ≤ length bytes
  is : (take n bytes, drop n bytes) ≡ found

front_cut : (n : ℕ) (bytes : List ℕ) (found : List ℕ × List ℕ) → front n bytes ≡ Some found → Cut n bytes found
front_cut n bytes found e = tested (nat_le n (length bytes)) refl e
  where
    tested : (test : Bool) → nat_le n (length bytes) ≡ test → cond test (Some (take n bytes, drop n bytes)) None ≡ Some found → Cut n bytes found
    tested true is e = record { enough = leb-true n (length bytes) is; is = cc }
    tested false is e = absurd cc

front_is : (n : ℕ) (bytes : List ℕ) → n ≤ length bytes → front n bytes ≡ Some (take n bytes, drop n bytes)
front_is n bytes enough = rw (le-leb n (length bytes) enough) refl

cut_field : (k : Kind) (bytes field rest : List ℕ) → cut_at k bytes ≡ Some (field, rest) → (v : Value) × (field_at k bytes ≡ Some (v, rest))
cut_field kind.Int bytes field rest e = (Int (cast_signed w64 (number_in field)), ap (λ o. option_map (λ (head, behind). (Int (cast_signed w64 (number_in head)), behind)) o) e)
cut_field kind.Text bytes field rest e =
    let outer = then_some (λ (head, behind). front (4 + number_in head) bytes) (front 4 bytes) (field, rest) e in
    let four = front_cut 4 bytes outer.0 outer.1 in
    let n : ℕ = number_in outer.0.0 in
    let whole = front_cut (4 + n) bytes (field, rest) outer.2 in
    let behind : drop 4 bytes ≡ outer.0.1 = ap (λ (p : List ℕ × List ℕ). p.1) four.is in
    let last : drop n (drop 4 bytes) ≡ rest = drop-drop n 4 bytes ∙ ap (λ (p : List ℕ × List ℕ). p.1) whole.is in
    let enough : n ≤ length (drop 4 bytes) = (let long = length-drop 4 bytes in let all = whole.enough in omega (arith, long, all)) in
    let framed_is : framed_at bytes ≡ Some (take n (drop 4 bytes), rest) =
    ap (λ o. option_and_then (λ (head, more). front (number_in head) more) o) outer.1
    ∙ ap (λ (more : List ℕ). front n more) (sym behind) ∙ front_is n (drop 4 bytes) enough
    ∙ ap (λ (more : List ℕ). Some (take n (drop 4 bytes), more)) last in
    (Text (take n (drop 4 bytes)), ap (λ o. option_map (λ (text, more). (Text text, more)) o) framed_is)
cut_field kind.Wide bytes field rest e = (Wide (cast_signed w128 (number_in field)), ap (λ o. option_map (λ (head, behind). (Wide (cast_signed w128 (number_in head)), behind)) o) e)

hind : (xs ys : List ℕ) → AreBytes (xs ++ ys) → AreBytes ys
hind [] ys small = small
hind (x ∷ xs) ys small = hind xs ys small.1

-- values that these bytes begin with
record Begun (kinds : List Kind) (bytes rest : List ℕ) : Type 0 where
  values : List Value
  kinds_are : kinds_of values ≡ kinds
  spelled : flat_map field_bytes values ++ rest ≡ bytes
  all : All IsValue values
  small : AreBytes rest

begun : (ks : List Kind) (bytes key rest : List ℕ) → AreBytes bytes → parts_at ks bytes ≡ Some (key, rest) → Begun ks bytes rest
begun [] bytes key rest small e =
    let same : bytes ≡ rest = ap (λ (p : List ℕ × List ℕ). p.1) (same_Some ([], bytes) (key, rest) e) in
    record { values = []; kinds_are = refl; spelled = sym same; all = All-nil IsValue; small = subst AreBytes same small }
begun (k ∷ ks) bytes key rest small e =
    let outer = then_some (λ (field, more). option_map (λ (parts, behind). (tagged k field ++ parts, behind)) (parts_at ks more)) (cut_at k bytes) (key, rest) e in
    let first = cut_field k bytes outer.0.0 outer.0.1 outer.1 in
    let spells : Spells k bytes (first.0, outer.0.1) = field_spells k bytes (first.0, outer.0.1) small first.1 in
    let behind_small : AreBytes outer.0.1 = hind (field_bytes first.0) outer.0.1 (subst AreBytes (sym spells.spelled) small) in
    let inner = map_some (λ (parts, behind). (tagged k outer.0.0 ++ parts, behind)) (parts_at ks outer.0.1) (key, rest) outer.2 in
    let ends : inner.0.1 ≡ rest = ap (λ (p : List ℕ × List ℕ). p.1) inner.2 in
    let later : Begun ks outer.0.1 rest = subst (Begun ks outer.0.1) ends (begun ks outer.0.1 inner.0.0 inner.0.1 behind_small inner.1) in
    record {
      values = first.0 ∷ later.values;
      kinds_are = ap₂ (λ (x : Kind) (xs : List Kind). x ∷ xs) spells.kind_is later.kinds_are;
      spelled =
          append_assoc (field_bytes first.0) (flat_map field_bytes later.values) rest
          ∙ ap (λ (more : List ℕ). field_bytes first.0 ++ more) later.spelled ∙ spells.spelled;
      all = All-cons IsValue first.0 later.values spells.is_value later.all;
      small = later.small;
    }

-- numbers that these bytes spell
record Numbered (n : ℕ) (bytes : List ℕ) : Type 0 where
  numbers : List ℤ
  many : length numbers ≡ n
  spelled : flat_map field_bytes (map Wide numbers) ≡ bytes
  all : All IsValue (map Wide numbers)

one_number : (v : Value) → kind_of v ≡ kind.Wide → (z : ℤ) × (v ≡ Wide z)
one_number (Int z) is = absurd cc
one_number (Text text) is = absurd cc
one_number (Wide z) is = (z, refl)

no_bytes : (bytes : List ℕ) → length bytes ≡ 0 → [] ≡ bytes
no_bytes [] none = refl
no_bytes (b ∷ bytes) none = absurd (omega (arith, none))

numbered : (n : ℕ) (bytes : List ℕ) → AreBytes bytes → length bytes ≡ 16 * n → Numbered n bytes
numbered zero bytes small long = record { numbers = []; many = refl; spelled = no_bytes bytes (omega (arith, long)); all = All-nil IsValue }
numbered (suc n) bytes small long =
    let enough : 16 ≤ length bytes = omega (arith, long) in
    let read = cut_field kind.Wide bytes (take 16 bytes) (drop 16 bytes) (front_is 16 bytes enough) in
    let spells : Spells kind.Wide bytes (read.0, drop 16 bytes) = field_spells kind.Wide bytes (read.0, drop 16 bytes) small read.1 in
    let wide = one_number read.0 spells.kind_is in
    let behind_small : AreBytes (drop 16 bytes) = hind (field_bytes read.0) (drop 16 bytes) (subst AreBytes (sym spells.spelled) small) in
    let later = numbered n (drop 16 bytes) behind_small (let less = length-drop 16 bytes in omega (arith, less, long)) in
    record {
      numbers = wide.0 ∷ later.numbers;
      many = ap suc later.many;
      spelled = ap₂ (λ (x : Value) (more : List ℕ). field_bytes x ++ more) (sym wide.1) later.spelled ∙ spells.spelled;
      all = All-cons IsValue (Wide wide.0) (map Wide later.numbers) (subst IsValue wide.1 spells.is_value) later.all;
    }

-- ---- the key of a partial row

no_parts : (n : ℕ) (ns : List ℤ) → flat_map key_part (take n (map Wide ns)) ≡ []
no_parts zero ns = refl
no_parts (suc n) [] = refl
no_parts (suc n) (z ∷ ns) = no_parts n ns

taken_parts : (n : ℕ) (vs : List Value) (ns : List ℤ) → length vs ≤ n → flat_map key_part (take n (vs ++ map Wide ns)) ≡ flat_map key_part vs
taken_parts n [] ns few = no_parts n ns
taken_parts zero (v ∷ vs) ns few = absurd (omega (arith, few))
taken_parts (suc n) (v ∷ vs) ns few = ap (λ (parts : List ℕ). key_part v ++ parts) (taken_parts n vs ns (omega (arith, few)))

few_kinds : (kinds : List Kind) (columns : List ℕ) → length (filter_map (slice_get kinds) columns) ≤ length columns
few_kinds kinds [] = omega arith
few_kinds kinds (c ∷ cs) = one (slice_get kinds c) (few_kinds kinds cs)
  where
    one : (o : Option Kind) → length (filter_map (slice_get kinds) cs) ≤ length cs → length (cons_option o (filter_map (slice_get kinds) cs)) ≤ suc (length cs)
    one None rest = omega (arith, rest)
    one (Some k) rest = omega (arith, rest)

module _ (back : RowBack) (shape : Shape) (row : List ℕ) where
  -- where the values are those of a row
  key_so : (form : HasForm shape row) → key_at shape row ≡ flat_map key_part form.values
  unfolding partial_at
  key_so form =
      let few : length form.values ≤ length shape.keys =
      (let kinds = ap length form.kinds_are in let long = length-map form.values kind_of in let all = few_kinds shape.kinds shape.keys in omega (arith, kinds, long, all)) in
      ap (λ (vs : List Value). flat_map key_part (take (length shape.keys) vs)) form.read ∙ taken_parts (length shape.keys) form.values form.numbers few

  -- what the walk finds of a partial row
  pub found_of : IsPartialRow shape row → (body : List ℕ) × (framed body ≡ row) × (0 < length body) × (length body < 2 ^ 32) × (rest : List ℕ) × (parts_at (key_kinds shape) body ≡ Some (key_at shape row, rest)) × (length rest ≡ 16 * length shape.aggs)
  unfolding row_bytes
  found_of is =
      let form = has_form shape row is in
      let body : List ℕ = flat_map field_bytes (form.values ++ map Wide form.numbers) in
      let split : body ≡ flat_map field_bytes form.values ++ all_wide form.numbers = flat_map-append field_bytes form.values (map Wide form.numbers) ∙ ap (λ (bytes : List ℕ). flat_map field_bytes form.values ++ bytes) (wide_fields form.numbers) in
      let long = ap length split ∙ length-append (flat_map field_bytes form.values) (all_wide form.numbers) in
      let fits = form.is_row.fits in (
        body,
        form.spelled,
        body_some (form.values ++ map Wide form.numbers) form.is_row.some,
        fits,
        all_wide form.numbers,
        ap₂ parts_at (sym form.kinds_are) split ∙ parts_back form.values (all_wide form.numbers) (omega (arith, long, fits)) ∙ ap (λ (key : List ℕ). Some (key, all_wide form.numbers)) (sym (key_so form)),
        all_long form.numbers ∙ ap (λ (n : ℕ). 16 * n) form.many,
      )

  -- and where it finds one, the bytes are a partial row
  pub row_so : (body key rest : List ℕ) → AreBytes row → framed body ≡ row → 0 < length body → length body < 2 ^ 32 → parts_at (key_kinds shape) body ≡ Some (key, rest) → length rest ≡ 16 * length shape.aggs → IsPartialRow shape row
  unfolding row_bytes
  row_so body key rest small spelled some fits parts many =
      let body_small : AreBytes body = hind (to_be_bytes w32 (length body)) body (subst AreBytes (sym spelled) small) in
      let keys = begun (key_kinds shape) body key rest body_small parts in
      let numbers = numbered (length shape.aggs) rest keys.small many in
      let fields : flat_map field_bytes (keys.values ++ map Wide numbers.numbers) ≡ body =
      flat_map-append field_bytes keys.values (map Wide numbers.numbers) ∙ ap (λ (bytes : List ℕ). flat_map field_bytes keys.values ++ bytes) numbers.spelled ∙ keys.spelled in
      let is : IsRow (keys.values ++ map Wide numbers.numbers) =
      record {
        some = some_values (keys.values ++ map Wide numbers.numbers) (subst (λ (bytes : List ℕ). 0 < length bytes) (sym fields) some);
        values = All-append IsValue keys.values (map Wide numbers.numbers) keys.all numbers.all;
        fits = subst (λ (bytes : List ℕ). length bytes < 2 ^ 32) (sym fields) fits;
      } in
      subst (IsPartialRow shape) (ap framed fields ∙ spelled) (partial_so back shape keys.values numbers.numbers keys.kinds_are numbers.many is)
    where
      some_values : (vs : List Value) → 0 < length (flat_map field_bytes vs) → 0 < length vs
      some_values [] some = some
      some_values (v ∷ vs) some = omega arith

-- ---- column by column

pub there_or : {X : Type 0} (xs : List X) (c : ℕ) (d : X) → c < length xs → slice_get xs c ≡ Some (get_or xs c d)
there_or {X = X} [] c d inside = absurd (omega (arith, inside))
there_or {X = X} (y ∷ xs) zero d inside = refl
there_or {X = X} (y ∷ xs) (suc c) d inside = there_or xs c d (omega (arith, inside))

pub column_past : (o : Option Kind) (key bytes : List ℕ) → o ≡ None → Some (key, bytes) ≡ behind_key key (parts_at (cons_option o []) bytes)
column_past o key bytes none = ap (λ (k : List ℕ). Some (k, bytes)) (sym (append-nil key)) ∙ ap (λ (p : Option Kind). behind_key key (parts_at (cons_option p []) bytes)) (sym none)

pub column_stops : (o : Option Kind) (k : Kind) (key bytes : List ℕ) → o ≡ Some k → None ≡ cut_at k bytes → None ≡ behind_key key (parts_at (cons_option o []) bytes)
column_stops o k key bytes is none =
    ap (λ (found : Option (List ℕ × List ℕ)). behind_key key (more_parts k [] found)) none ∙ ap (λ (p : Option Kind). behind_key key (parts_at (cons_option p []) bytes)) (sym is)

pub column_more : (o : Option Kind) (k : Kind) (key now bytes field rest : List ℕ) → o ≡ Some k → Some (field, rest) ≡ cut_at k bytes → now ≡ key ++ tagged k field → Some (now, rest) ≡ behind_key key (parts_at (cons_option o []) bytes)
column_more o k key now bytes field rest is cut pushed =
    ap (λ (n : List ℕ). Some (n, rest)) (pushed ∙ ap (λ (part : List ℕ). key ++ part) (sym (append-nil (tagged k field))))
    ∙ ap (λ (found : Option (List ℕ × List ℕ)). behind_key key (more_parts k [] found)) cut ∙ ap (λ (p : Option Kind). behind_key key (parts_at (cons_option p []) bytes)) (sym is)

pub behind_none : (o : Option (List ℕ × List ℕ)) → o ≡ behind_key [] o
behind_none None = refl
behind_none (Some p) = refl

behind_both : (key more : List ℕ) (o : Option (List ℕ × List ℕ)) → behind_key key (behind_key more o) ≡ behind_key (key ++ more) o
behind_both key more None = refl
behind_both key more (Some p) = ap (λ (k : List ℕ). Some (k, p.1)) (sym (append_assoc key more p.0))

abbrev then_parts : List Kind → Option (List ℕ × List ℕ) → Option (List ℕ × List ℕ)
then_parts ms found = option_and_then (λ (parts, rest). behind_key parts (parts_at ms rest)) found

parts_append : (ks ms : List Kind) (bytes : List ℕ) → parts_at (ks ++ ms) bytes ≡ then_parts ms (parts_at ks bytes)
parts_append [] ms bytes = behind_none (parts_at ms bytes)
parts_append (k ∷ ks) ms bytes = first (cut_at k bytes) (λ rest. parts_append ks ms rest)
  where
    second : (field : List ℕ) (o : Option (List ℕ × List ℕ)) → option_map (λ (parts, behind). (tagged k field ++ parts, behind)) (then_parts ms o) ≡ then_parts ms (option_map (λ (parts, behind). (tagged k field ++ parts, behind)) o)
    second field None = refl
    second field (Some p) = behind_both (tagged k field) p.0 (parts_at ms p.1)

    first : (o : Option (List ℕ × List ℕ)) → ((rest : List ℕ) → parts_at (ks ++ ms) rest ≡ then_parts ms (parts_at ks rest)) → more_parts k (ks ++ ms) o ≡ then_parts ms (more_parts k ks o)
    first None later = refl
    first (Some p) later = ap (λ o. option_map (λ (parts, behind). (tagged k p.0 ++ parts, behind)) o) (later p.1) ∙ second p.0 (parts_at ks p.1)

one_more : (key now rest : List ℕ) (ms : List Kind) (o : Option (List ℕ × List ℕ)) → Some (now, rest) ≡ behind_key key o → behind_key key (then_parts ms o) ≡ behind_key now (parts_at ms rest)
one_more key now rest ms None is = absurd cc
one_more key now rest ms (Some p) is =
    let same : (now, rest) ≡ (key ++ p.0, p.1) = same_Some (now, rest) (key ++ p.0, p.1) is in
    let key_is : now ≡ key ++ p.0 = ap (λ (q : List ℕ × List ℕ). q.0) same in
    let rest_is : rest ≡ p.1 = ap (λ (q : List ℕ × List ℕ). q.1) same in
    behind_both key p.0 (parts_at ms p.1) ∙ ap₂ (λ (k r : List ℕ). behind_key k (parts_at ms r)) (sym key_is) (sym rest_is)

none_more : (key : List ℕ) (ms : List Kind) (o : Option (List ℕ × List ℕ)) → None ≡ behind_key key o → None ≡ behind_key key (then_parts ms o)
none_more key ms None is = refl
none_more key ms (Some p) is = absurd cc

module _ (kinds : List Kind) (columns : List ℕ) (i : ℕ) (inside : i < length columns) where
  left_kinds : filter_map (slice_get kinds) (drop i columns) ≡ cons_option (slice_get kinds (get_or columns i 0)) [] ++ filter_map (slice_get kinds) (drop (i + 1) columns)
  left_kinds =
      ap (filter_map (slice_get kinds)) (drop_one columns i inside)
      ∙ filter_map-append (slice_get kinds) (get_or columns i 0 ∷ []) (drop (i + 1) columns)
    where
      drop_one : (cs : List ℕ) (i : ℕ) → i < length cs → drop i cs ≡ get_or cs i 0 ∷ drop (i + 1) cs
      drop_one [] i inside = absurd (omega (arith, inside))
      drop_one (c ∷ cs) zero inside = refl
      drop_one (c ∷ cs) (suc i) inside =
          let next : suc i + 1 ≡ suc (i + 1) = omega arith in
          drop_one cs i (omega (arith, inside)) ∙ ap (λ (n : ℕ). get_or cs i 0 ∷ drop n (c ∷ cs)) (sym next)

  pub walk_more : (whole : Option (List ℕ × List ℕ)) (key now rest behind : List ℕ) → whole ≡ behind_key key (parts_at (filter_map (slice_get kinds) (drop i columns)) rest) → Some (now, behind) ≡ behind_key key (parts_at (cons_option (slice_get kinds (get_or columns i 0)) []) rest)
      → whole ≡ behind_key now (parts_at (filter_map (slice_get kinds) (drop (i + 1) columns)) behind)
  walk_more whole key now rest behind is found =
      is ∙ ap (λ (ks : List Kind). behind_key key (parts_at ks rest)) left_kinds
      ∙ ap (behind_key key) (parts_append (cons_option (slice_get kinds (get_or columns i 0)) []) (filter_map (slice_get kinds) (drop (i + 1) columns)) rest)
      ∙ one_more key now behind (filter_map (slice_get kinds) (drop (i + 1) columns)) (parts_at (cons_option (slice_get kinds (get_or columns i 0)) []) rest) found

  pub walk_stops : (whole : Option (List ℕ × List ℕ)) (key rest : List ℕ) → whole ≡ behind_key key (parts_at (filter_map (slice_get kinds) (drop i columns)) rest) → None ≡ behind_key key (parts_at (cons_option (slice_get kinds (get_or columns i 0)) []) rest) → None ≡ whole
  walk_stops whole key rest is found =
      none_more key (filter_map (slice_get kinds) (drop (i + 1) columns)) (parts_at (cons_option (slice_get kinds (get_or columns i 0)) []) rest) found
      ∙ ap (behind_key key) (sym (parts_append (cons_option (slice_get kinds (get_or columns i 0)) []) (filter_map (slice_get kinds) (drop (i + 1) columns)) rest))
      ∙ ap (λ (ks : List Kind). behind_key key (parts_at ks rest)) (sym left_kinds) ∙ sym is

pub walk_ends : (kinds : List Kind) (columns : List ℕ) (i : ℕ) (whole : Option (List ℕ × List ℕ)) (key rest : List ℕ) → length columns ≤ i → whole ≡ behind_key key (parts_at (filter_map (slice_get kinds) (drop i columns)) rest) → Some (key, length rest) ≡ counted whole
walk_ends kinds columns i whole key rest end is =
    ap (λ (k : List ℕ). Some (k, length rest)) (sym (append-nil key))
    ∙ ap counted (sym (is ∙ ap (λ (cs : List ℕ). behind_key key (parts_at (filter_map (slice_get kinds) cs) rest)) (drop_all i columns end)))

-- ---- what was counted

pub same_framed : (a b : List ℕ) → framed a ≡ framed b → a ≡ b
same_framed a b same = ap (drop 4) same

no_count : (o : Option (List ℕ × List ℕ)) (p : List ℕ × List ℕ) → None ≡ counted o → o ≡ Some p → ⊥
no_count None p none is = absurd cc
no_count (Some q) p none is = absurd cc

pub counted_some : (o : Option (List ℕ × List ℕ)) (key : List ℕ) (left : ℕ) → Some (key, left) ≡ counted o → (rest : List ℕ) × (o ≡ Some (key, rest)) × (length rest ≡ left)
counted_some None key left is = absurd cc
counted_some (Some p) key left is =
    let same : (key, left) ≡ (p.0, length p.1) = same_Some (key, left) (p.0, length p.1) is in
    (p.1, ap (λ (k : List ℕ). Some (k, p.1)) (sym (ap (λ (q : List ℕ × ℕ). q.0) same)), sym (ap (λ (q : List ℕ × ℕ). q.1) same))

module _ (back : RowBack) (shape : Shape) (row body : List ℕ) (spelled : framed body ≡ row) where
  pub found_here : IsPartialRow shape row → (rest : List ℕ) × (parts_at (key_kinds shape) body ≡ Some (key_at shape row, rest)) × (length rest ≡ 16 * length shape.aggs)
  found_here is =
      let found = found_of back shape row is in
      let same : found.0 ≡ body = same_framed found.0 body (found.1 ∙ sym spelled) in
      (found.4, ap (parts_at (key_kinds shape)) (sym same) ∙ found.5, found.6)

  pub not_none : None ≡ counted (parts_at (key_kinds shape) body) → IsPartialRow shape row → ⊥
  not_none none is = let found = found_here is in no_count (parts_at (key_kinds shape) body) (key_at shape row, found.0) none found.1

  module _ (key : List ℕ) (left : ℕ) (is : Some (key, left) ≡ counted (parts_at (key_kinds shape) body)) where
    pub row_here : AreBytes row → 0 < length body → length body < 2 ^ 32 → left ≡ 16 * length shape.aggs → IsPartialRow shape row
    row_here small some fits many =
        let found = counted_some (parts_at (key_kinds shape) body) key left is in
        row_so back shape row body key found.0 small spelled some fits found.1 (found.2 ∙ many)

    both_here : IsPartialRow shape row → (key ≡ key_at shape row) × (left ≡ 16 * length shape.aggs)
    both_here partial =
        let mine = counted_some (parts_at (key_kinds shape) body) key left is in
        let found = found_here partial in
        let same : (key, mine.0) ≡ (key_at shape row, found.0) = same_Some (key, mine.0) (key_at shape row, found.0) (sym mine.1 ∙ found.1) in
        (ap (λ (q : List ℕ × List ℕ). q.0) same, sym mine.2 ∙ ap (λ (q : List ℕ × List ℕ). length q.1) same ∙ found.2)

    pub key_here : IsPartialRow shape row → key ≡ key_at shape row
    key_here partial = (both_here partial).0

    pub many_here : IsPartialRow shape row → left ≡ 16 * length shape.aggs
    many_here partial = (both_here partial).1
