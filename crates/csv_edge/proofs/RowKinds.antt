-- Rows have the kinds of the columns.
use Rattle.std.proofs.Common.{◌≡◌, ◌+◌, refl, ℕ, ℤ, List, [], ◌∷◌, Option, Some, None, Result, Ok, Err, map, slice_get, slice_index_or, option_map, suc, arith}
use Rattle.std.specs.Prelude.{◌≢◌}
use Rattle.csv_edge.specs.declared.refusal.InputErr.{InputErr}
use Rattle.csv_edge.specs.declared.refusal.InputErr.TheVariants as why
use Rattle.csv_edge.specs.Rows.{HasNoSums, IsOfRecord, NamesInt}
use Rattle.csv_edge.specs.Ints.{int_of}
use Rattle.csv_edge.specs.Typed.{only_place, placed_then, places_of, row_from, value_of, value_then}
use Rattle.csv_edge.specs.declared.header.Placed.{Placed}
use Rattle.row_codec.specs.Row.{kind_of, kinds_of}
use Rattle.row_codec.specs.declared.values.Column.{Column}
use Rattle.row_codec.specs.declared.values.Kind.{Kind}
use Rattle.row_codec.specs.declared.values.Kind.TheVariants as kind
use Rattle.row_codec.specs.declared.values.Value.{Value}
use Rattle.row_codec.specs.declared.values.Value.TheVariants as value

-- the row of a record has the kinds of the columns
value-kinds : (number : ℕ) (k : Kind) (kinds : List Kind) (one-value : Option Value) (others : Result (List Value) ℕ) (row : List Value)
    → ((found : Value) → one-value ≡ Some found → kind_of found ≡ k) → ((rest : List Value) → others ≡ Ok rest → kinds_of rest ≡ kinds)
    → value_then number one-value others ≡ Ok row → kinds_of row ≡ k ∷ kinds
value-kinds number k kinds None others row one more e = cc e
value-kinds number k kinds (Some found) (Err later) row one more e = cc e
value-kinds number k kinds (Some found) (Ok rest) row one more e =
    let same : row ≡ found ∷ rest = cc e in
    rw (same, one found refl, more rest refl) refl

int-kind : (number : Option ℤ) (found : Value) → option_map value.Int number ≡ Some found → kind_of found ≡ kind.Int
int-kind None found e = cc e
int-kind (Some number) found e = let same : found ≡ value.Int number = cc e in rw same refl

value-kind : (k : Kind) (field : List ℕ) (found : Value) → value_of k field ≡ Some found → kind_of found ≡ k
value-kind kind.Int field found e = int-kind (int_of field) found e
value-kind kind.Text field found e = let same : found ≡ value.Text field = cc e in rw same refl
value-kind kind.Wide field found e = cc e

pub row_kinds : (number : ℕ) (columns : List Placed) (fields : List (List ℕ)) (row : List Value) → row_from number columns fields ≡ Ok row → kinds_of row ≡ map (λ (column : Placed). column.kind) columns
row_kinds number [] fields row e = let same : row ≡ [] = cc e in rw same refl
row_kinds number (column ∷ rest) fields row e =
    value-kinds number column.kind (map (λ (c : Placed). c.kind) rest) (value_of column.kind (slice_index_or fields column.place [])) (row_from (number + 1) rest fields) row
    (λ found is. value-kind column.kind (slice_index_or fields column.place []) found is) (λ others is. row_kinds (number + 1) rest fields others is) e

-- where the places are known, the columns have the kinds that were declared
more-placed : (k : Kind) (kinds : List Kind) (one : Option ℕ) (rest : Option (List Placed)) (placed : List Placed)
    → ((found : List Placed) → rest ≡ Some found → map (λ (column : Placed). column.kind) found ≡ kinds)
    → placed_then k one rest ≡ Some placed → map (λ (column : Placed). column.kind) placed ≡ k ∷ kinds
more-placed k kinds None rest placed others e = cc e
more-placed k kinds (Some place) None placed others e = cc e
more-placed k kinds (Some place) (Some found) placed others e =
    let same : placed ≡ record { place = place; kind = k } ∷ found = cc e in
    rw (same, others found refl) refl

pub placed_kinds : (header : List (List ℕ)) (columns : List Column) (placed : List Placed) → places_of header columns ≡ Some placed
    → map (λ (column : Placed). column.kind) placed ≡ map (λ (column : Column). column.kind) columns
placed_kinds header [] placed e = let same : placed ≡ [] = cc e in rw same refl
placed_kinds header (column ∷ rest) placed e =
    more-placed column.kind (map (λ (c : Column). c.kind) rest) (only_place header column.name) (places_of header rest) placed (λ found is. placed_kinds header rest found is) e

-- the first column that has no value is an int
names-next : (number : ℕ) (k : Kind) (kinds : List Kind) (one-value : Option Value) (others : Result (List Value) ℕ) (column : ℕ)
    → (one-value ≡ None → k ≡ kind.Int) → ((later : ℕ) → others ≡ Err later → (i : ℕ) × (later ≡ number + 1 + i) × (slice_get kinds i ≡ Some kind.Int))
    → value_then number one-value others ≡ Err column → (i : ℕ) × (column ≡ number + i) × (slice_get (k ∷ kinds) i ≡ Some kind.Int)
names-next number k kinds None others column one more e =
    let same : number ≡ column = cc e in
    let int : k ≡ kind.Int = one refl in
    (0, omega (arith, same), rw int refl)
names-next number k kinds (Some found) (Ok rest) column one more e = cc e
names-next number k kinds (Some found) (Err later) column one more e =
    let same : later ≡ column = cc e in
    let below = more later refl in
    let at = below.1 in
    (suc below.0, omega (arith, same, at), below.2)

no-value : (k : Kind) (field : List ℕ) → k ≢ kind.Wide → value_of k field ≡ None → k ≡ kind.Int
no-value kind.Int field plain e = refl
no-value kind.Text field plain e = cc e
no-value kind.Wide field plain e = absurd (plain refl)

names_int : (number : ℕ) (columns : List Placed) (fields : List (List ℕ)) (column : ℕ) → row_from number columns fields ≡ Err column
    → HasNoSums (map (λ (c : Placed). c.kind) columns) → (i : ℕ) × (column ≡ number + i) × (slice_get (map (λ (c : Placed). c.kind) columns) i ≡ Some kind.Int)
names_int number [] fields column e plain = cc e
names_int number (first ∷ rest) fields column e plain =
    names-next number first.kind (map (λ (c : Placed). c.kind) rest) (value_of first.kind (slice_index_or fields first.place [])) (row_from (number + 1) rest fields) column
    (no-value first.kind (slice_index_or fields first.place []) plain.0) (λ later is. names_int (number + 1) rest fields later is plain.1) e

-- the column is counted from the first one
pub int_named : (columns : List Placed) (fields : List (List ℕ)) (column : ℕ) → row_from 0 columns fields ≡ Err column
    → HasNoSums (map (λ (c : Placed). c.kind) columns) → slice_get (map (λ (c : Placed). c.kind) columns) column ≡ Some kind.Int
int_named columns fields column e plain =
    let found = names_int 0 columns fields column e plain in
    let same : column ≡ found.0 = omega (arith, found.1) in
    rw same found.2

pub names_no_field : (e : InputErr) (kinds : List Kind) → (IsOfRecord e → ⊥) → NamesInt e kinds
names_no_field why.Fault kinds other = tt
names_no_field why.TooLarge kinds other = tt
names_no_field why.Header kinds other = tt
names_no_field (why.Csv number) kinds other = tt
names_no_field (why.Field number column) kinds other = absurd (other tt)
names_no_field why.Memory kinds other = tt
