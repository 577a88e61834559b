-- Columns and their places, and the row of a record, column by column.
use Rattle.std.proofs.Common.{◌≡◌, ◌<◌, ◌+◌, ap, sym, refl, get_or, List, ℕ, [], ◌∷◌, ◌++◌, Option, Some, None, Result, Ok, Err, drop, length, option_map, append_assoc}
use Rattle.std.proofs.lemmas.List.{drop_more}
use Rattle.csv_edge.specs.Typed.{only_place, placed_then, places_of}
use Rattle.csv_edge.specs.declared.header.Placed.{Placed}
use Rattle.row_codec.specs.declared.values.Column.{Column}
use Rattle.row_codec.specs.declared.values.Kind.{Kind}
use Rattle.row_codec.specs.declared.values.Value.{Value}

-- no place for a column
pub place_none : (header : List (List ℕ)) (columns : List Column) (i : ℕ) (column : Column) (done : List Placed) → i < length columns → column ≡ get_or columns i column
    → only_place header column.name ≡ None → ◌≡◌ {A = Option (List Placed)} None (option_map (λ others. done ++ others) (places_of header (drop i columns)))
place_none header columns i column done lt is none = rw (drop_more columns i column lt, ← is, none) refl

then-more : (done : List Placed) (kind : Kind) (place : ℕ) (o : Option (List Placed))
    → option_map (λ others. done ++ others) (placed_then kind (Some place) o) ≡ option_map (λ others. (done ++ record { place = place; kind = kind } ∷ []) ++ others) o
then-more done kind place None = refl
then-more done kind place (Some others) = ap Some (sym (append_assoc done (record { place = place; kind = kind } ∷ []) others))

-- one more place
pub place_more : (header : List (List ℕ)) (columns : List Column) (i : ℕ) (column : Column) (done : List Placed) (place : ℕ) → i < length columns → column ≡ get_or columns i column
    → only_place header column.name ≡ Some place
    → option_map (λ others. done ++ others) (places_of header (drop i columns)) ≡ option_map (λ others. (done ++ record { place = place; kind = column.kind } ∷ []) ++ others) (places_of header (drop (i + 1) columns))
place_more header columns i column done place lt is found = rw (drop_more columns i column lt, ← is, found) (then-more done column.kind place _)

-- these values, and then the others, if there are such
abbrev pub behind : List Value → Result (List Value) ℕ → Result (List Value) ℕ
behind done (Ok others) = Ok (done ++ others)
behind done (Err column) = Err column
