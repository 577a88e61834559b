-- Partial rows as rows of values, and the rows of groups.
use Rattle.std.specs.Prelude.{◌≡◌, ◌≢◌, ℕ, ◌<◌, ◌^◌, List, [], ◌∷◌, ◌++◌, All, map, take, drop, length, flat_map}
use Rattle.row_codec.specs.declared.values.Kind.TheVariants as kind
use Rattle.row_codec.specs.declared.values.Value.{Value}
use Rattle.row_codec.specs.declared.values.Value.TheVariants.{Wide}
use Rattle.row_codec.specs.Row.{IsValue, kind_of}
use Rattle.row_codec.specs.RowBytes.{field_bytes, key_bytes, key_part, values_in}
use Rattle.group_rows.specs.Aggregates.{aggregate, number_of, own_number}
use Rattle.group_rows.specs.Keyed.{with_key}
use Rattle.group_rows.specs.Partials.{Grouping, Partial, group_in, partial_of}

-- the partial row of a row: the values of its key, and a wide number for each aggregate
abbrev pub partial_row : Grouping → List Value → List Value
partial_row grouping row = values_in grouping.keys row ++ map (λ agg. Wide (own_number agg row)) grouping.aggs

-- what a row of this form says: first the values of the key, then a number for each aggregate
abbrev pub partial_in : Grouping → List Value → Partial
partial_in grouping row = record {
  key = flat_map key_part (take (length grouping.keys) row);
  numbers = map number_of (drop (length grouping.keys) row);
}

-- the row has each column of the key
abbrev pub HasKeyColumns : Grouping → List Value → Type 0
HasKeyColumns grouping row = All (λ column. column < length row) grouping.keys

-- the partial row of a row says what the row says
abbrev pub ReadsBack : Type 0
ReadsBack =
    (grouping : Grouping) (row : List Value) → HasKeyColumns grouping row
    → partial_in grouping (partial_row grouping row) ≡ partial_of grouping row

-- a value that a key may have: an int, or a text whose length fits in four bytes
pub record IsKeyValue (v : Value) : Type 0 where
  pub good : IsValue v
  pub narrow : kind_of v ≢ kind.Wide
  pub short : length (field_bytes v) < 2 ^ 32

-- values that spell the same key are the same
abbrev pub KeyTellsValues : Type 0
KeyTellsValues =
    (vs ws : List Value) → All IsKeyValue vs → All IsKeyValue ws → flat_map key_part vs ≡ flat_map key_part ws → vs ≡ ws

-- the key's values in the first of these rows
abbrev pub key_values : Grouping → List (List Value) → List Value
key_values grouping [] = []
key_values grouping (row ∷ rows) = values_in grouping.keys row

-- the row of a group: the values of its key, and each aggregate over the rows with this key
abbrev pub group_row : Grouping → List (List Value) → List ℕ → List Value
group_row grouping rows q =
    key_values grouping (with_key (key_bytes grouping.keys) q rows)
    ++ map (λ agg. Wide (aggregate agg (with_key (key_bytes grouping.keys) q rows))) grouping.aggs

-- the key values of each row are values that a key may have
abbrev pub HaveKeyValues : Grouping → List (List Value) → Type 0
HaveKeyValues grouping rows = All (λ row. All IsKeyValue (values_in grouping.keys row)) rows

-- values that spell the key of some row, with the numbers of its group behind them, are the group's row
abbrev pub EmitsGroupRow : Type 0
EmitsGroupRow =
    (grouping : Grouping) (rows : List (List Value)) (values : List Value) → HaveKeyValues grouping rows → All IsKeyValue values
    → 0 < length (with_key (key_bytes grouping.keys) (flat_map key_part values) rows)
    → values ++ map Wide (group_in grouping rows (flat_map key_part values)).numbers ≡ group_row grouping rows (flat_map key_part values)
