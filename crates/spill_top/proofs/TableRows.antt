-- The rows of the generated table: its lines read as rows of two numbers, and none is refused.
use Rattle.std.proofs.Common.{◌≡◌, ◌∙◌, ◌≤◌, ◌<◌, ◌+◌, ◌-◌, ◌*◌, ◌^◌, ◌++◌, ap, ap₂, refl, arith, Bool, true, false, ℕ, ℤ, pos, neg_ℤ, zero, suc, List, [], ◌∷◌, Option, Some, None, Ok, codes, decimal, map, length, flat_map}
use Rattle.std.specs.Prelude.{◌==◌, if◌then◌else◌, nat_le, option_map}
use Rattle.std.specs.Int.{IsInRange}
use Rattle.std.specs.List.{range_with_len}
use Rattle.std.specs.Str.Parse.{AllDigits, digits_value, digits_value_after}
use Rattle.std.specs.Char.{digit_value}
use Rattle.std.proofs.lemmas.Bool.{ne_eqb}
use Rattle.std.proofs.lemmas.Fmt.{decimal_is_IsNumeral, length-decimal-le}
use Rattle.std.proofs.lemmas.List.{append_assoc, length-append}
use Rattle.std.proofs.lemmas.Str.{digit_value_digit}
use Rattle.std.proofs.lemmas.Str.Parse.{digit_from_value}
use Rattle.csv_edge.specs.Ints.{int_of, number_of, is_digit, number_from, up_to}
use Rattle.csv_edge.specs.Typed.{places_of, row_from, rows_of as csv_rows, rows_under, typed_rows, value_then}
use Rattle.csv_edge.specs.declared.header.Placed.{Placed}
use Rattle.row_codec.specs.declared.values.Column.{Column}
use Rattle.row_codec.specs.declared.values.Kind.TheVariants.{Int as IntKind}
use Rattle.row_codec.specs.declared.values.Value.{Value}
use Rattle.row_codec.specs.declared.values.Value.TheVariants.{Int}
use Rattle.table_gen.specs.Table.{key_in_row, lines_from, row_line, table_bytes}
use Rattle.spill_top.proofs.TableRead.{ArePlain, IsPlain, IsPlainByte, Line, fields_of, lines_read, text_of, texts}

-- ---- digits

plain-digit : (c : ℕ) → IsInRange 48 57 c → IsPlainByte c
plain-digit c r = record {
  comma = ne_eqb c 44 (λ e. omega (arith, r, e));
  quote = ne_eqb c 34 (λ e. omega (arith, r, e));
  return = ne_eqb c 13 (λ e. omega (arith, r, e));
  newline = ne_eqb c 10 (λ e. omega (arith, r, e));
  mark = ne_eqb c 239 (λ e. omega (arith, r, e));
}

plain-digits : (ds : List ℕ) → AllDigits 10 ds → IsPlain ds
plain-digits [] d = tt
plain-digits (c ∷ cs) d = (plain-digit c (digit_from_value c d.0), plain-digits cs d.1)

is-digit : (c : ℕ) → IsInRange 48 57 c → is_digit c ≡ true
is-digit c r = let low : nat_le 48 c ≡ true = grind (arith, r) in let high : nat_le c 57 ≡ true = grind (arith, r) in rw (low, high) refl

number-digits : (m : ℕ) (ds : List ℕ) → AllDigits 10 ds → number_from m ds ≡ Some (digits_value_after 10 m ds)
number-digits m [] d = refl
number-digits m (c ∷ cs) d =
    let r = digit_from_value c d.0 in
    let whole = digit_value_digit c r in
    let value : c - 48 ≡ digit_value c = omega (arith, whole) in
    ap (λ (b : Bool). if b then number_from (m * 10 + (c - 48)) cs else None) (is-digit c r)
    ∙ (number-digits (m * 10 + (c - 48)) cs d.1 ∙ ap (λ (v : ℕ). Some (digits_value_after 10 (m * 10 + v) cs)) value)

within : (n most : ℕ) → n ≤ most → up_to most (Some n) ≡ Some n
within n most few = let le : nat_le n most ≡ true = grind arith in rw le refl

int-digits : (ds : List ℕ) → AllDigits 10 ds → 0 < length ds → digits_value 10 ds ≤ 2147483647 → int_of ds ≡ Some (pos (digits_value 10 ds))
int-digits [] d some few = absurd (omega (arith, some))
int-digits (c ∷ cs) d some few =
    let r = digit_from_value c d.0 in
    let minus : (c == 45) ≡ false = ne_eqb c 45 (λ e. omega (arith, r, e)) in
    let plus : (c == 43) ≡ false = ne_eqb c 43 (λ e. omega (arith, r, e)) in
    ap₂ (λ (a b : Bool). if a then option_map (λ n. neg_ℤ (pos n)) (up_to (2 ^ 63) (number_of cs)) else if b then option_map pos (up_to (2 ^ 63 - 1) (number_of cs)) else option_map pos (up_to (2 ^ 63 - 1) (number_of (c ∷ cs)))) minus plus
    ∙ (ap (λ (o : Option ℕ). option_map pos (up_to (2 ^ 63 - 1) o)) (number-digits 0 (c ∷ cs) d)
    ∙ ap (option_map pos) (within (digits_value 10 (c ∷ cs)) (2 ^ 63 - 1) (omega (arith, few))))

int-decimal : (n : ℕ) → n ≤ 2147483647 → int_of (decimal n) ≡ Some (pos n)
int-decimal n few =
    let k = decimal_is_IsNumeral n (omega (arith, few)) in
    let value = k.1 in
    int-digits (decimal n) k.0.1 k.0.0 (omega (arith, value, few)) ∙ ap (λ (m : ℕ). Some (pos m)) value

plain-decimal : (n : ℕ) → n ≤ 2147483647 → IsPlain (decimal n)
plain-decimal n few = plain-digits (decimal n) (decimal_is_IsNumeral n (omega (arith, few))).0.1

-- ---- the lines of the table, and its rows

abbrev row-as-line : ℕ → ℕ → ℕ → Line
row-as-line start groups row = record { first = decimal (key_in_row start groups row); second = decimal row }

abbrev pub table_row : ℕ → ℕ → ℕ → List Value
table_row start groups row = Int (pos (key_in_row start groups row)) ∷ Int (pos row) ∷ []

abbrev pub two_ints : List Column
two_ints = record { name = codes "k"; kind = IntKind } ∷ record { name = codes "v"; kind = IntKind } ∷ []

abbrev two-places : List Placed
two-places = record { place = 0; kind = IntKind } ∷ record { place = 1; kind = IntKind } ∷ []

abbrev header-line : Line
header-line = record { first = codes "k"; second = codes "v" }

same-line : (start groups row : ℕ) → row_line start groups row ≡ text_of (row-as-line start groups row)
same-line start groups row = parts (decimal (key_in_row start groups row)) (decimal row)
  where
    parts : (a b : List ℕ) → a ++ codes "," ++ b ++ codes "\n" ≡ (a ++ (44 ∷ b)) ++ (10 ∷ [])
    parts a b = ap (λ (xs : List ℕ). xs ++ (10 ∷ [])) (append_assoc a (44 ∷ []) b)

same-lines : (start groups row count : ℕ) → flat_map (row_line start groups) (range_with_len row count) ≡ texts (map (row-as-line start groups) (range_with_len row count))
same-lines start groups row zero = refl
same-lines start groups row (suc count) = ap₂ (λ (a b : List ℕ). a ++ b) (same-line start groups row) (same-lines start groups (row + 1) count)

same-table : (start rows groups : ℕ) → table_bytes start rows groups ≡ texts (header-line ∷ map (row-as-line start groups) (range_with_len 0 rows))
unfolding lines_from
same-table start rows groups = ap (λ (xs : List ℕ). codes "k,v\n" ++ xs) (same-lines start groups 0 rows)

none-before : (n : ℕ) → 0 + n ≡ n
none-before n = omega arith

header-plain : IsPlain (codes "k") × IsPlain (codes "v")
header-plain = (
  (record { comma = refl; quote = refl; return = refl; newline = refl; mark = refl }, tt),
  (record { comma = refl; quote = refl; return = refl; newline = refl; mark = refl }, tt),
)

module _ (start groups : ℕ) (some : 0 < groups) (few : groups ≤ 2147483647) where
  key-few : (row : ℕ) → key_in_row start groups row ≤ 2147483647
  key-few row = omega (arith, some, few)

  plain-lines : (row count : ℕ) → row + count ≤ 2147483647 → ArePlain (map (row-as-line start groups) (range_with_len row count))
  plain-lines row zero short = tt
  plain-lines row (suc count) short = (plain-decimal (key_in_row start groups row) (key-few row), plain-decimal row (omega (arith, short)), plain-lines (row + 1) count (omega (arith, short)))

  typed-row : (row : ℕ) → row ≤ 2147483647 → row_from 0 two-places (fields_of (row-as-line start groups row)) ≡ Ok (table_row start groups row)
  typed-row row short =
      ap₂ (λ (a b : Option ℤ). value_then 0 (option_map Int a) (value_then 1 (option_map Int b) (Ok []))) (int-decimal (key_in_row start groups row) (key-few row)) (int-decimal row short)

  typed-rows : (row count number : ℕ) → row + count ≤ 2147483647 → number + count ≤ 2147483648
      → rows_under 2 two-places 2147483648 number (map fields_of (map (row-as-line start groups) (range_with_len row count))) ≡ record { rows = map (table_row start groups) (range_with_len row count); refusal = None }
  typed-rows row zero number short few = refl
  typed-rows row (suc count) number short few =
      let more : nat_le 2147483648 number ≡ false = grind (arith, few) in
      rw (more, typed-row row (omega (arith, short)), typed-rows (row + 1) count (number + 1) (omega (arith, short)) (omega (arith, few))) refl

  placed : places_of (codes "k" ∷ codes "v" ∷ []) two_ints ≡ Some two-places
  placed = refl

  pub table_typed : (rows : ℕ) → rows ≤ 2147483647 → typed_rows two_ints 2147483648 (table_bytes start rows groups) ≡ record { rows = map (table_row start groups) (range_with_len 0 rows); refusal = None }
  table_typed rows short =
      ap (typed_rows two_ints 2147483648) (same-table start rows groups)
      ∙ (ap (λ (rs : List (List (List ℕ))). csv_rows two_ints 2147483648 rs) (lines_read header-line (map (row-as-line start groups) (range_with_len 0 rows)) (header-plain.0, header-plain.1, plain-lines 0 rows (omega (arith, short))) (none-before _))
      ∙ typed-rows 0 rows 1 (omega (arith, short)) (omega (arith, short)))

  line-few : (row : ℕ) → row ≤ 2147483647 → length (text_of (row-as-line start groups row)) ≤ 42
  line-few row short =
      let key : length (decimal (key_in_row start groups row)) ≤ 20 = length-decimal-le 20 (key_in_row start groups row) (omega arith) (let few = key-few row in omega (arith, few)) (let few = key-few row in omega (arith, few)) in
      let number : length (decimal row) ≤ 20 = length-decimal-le 20 row (omega arith) (omega (arith, short)) (omega (arith, short)) in
      let inner = length-append (decimal (key_in_row start groups row)) (44 ∷ decimal row) in
      let outer = length-append (decimal (key_in_row start groups row) ++ (44 ∷ decimal row)) (10 ∷ []) in
      omega (arith, key, number, inner, outer)

  lines-few : (row count : ℕ) → row + count ≤ 2147483647 → length (texts (map (row-as-line start groups) (range_with_len row count))) ≤ 42 * count
  lines-few row zero short = omega arith
  lines-few row (suc count) short =
      let here = line-few row (omega (arith, short)) in
      let more = lines-few (row + 1) count (omega (arith, short)) in
      let both = length-append (text_of (row-as-line start groups row)) (texts (map (row-as-line start groups) (range_with_len (row + 1) count))) in
      omega (arith, here, more, both)

  pub table_few : (rows : ℕ) → rows ≤ 2147483647 → length (table_bytes start rows groups) ≤ 1099511627776
  table_few rows short =
      let more = lines-few 0 rows (omega (arith, short)) in
      let both = length-append (codes "k,v\n") (texts (map (row-as-line start groups) (range_with_len 0 rows))) in
      let same = ap (λ (xs : List ℕ). length xs) (same-table start rows groups) in
      omega (arith, more, both, same, short)
