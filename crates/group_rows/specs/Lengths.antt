-- How many bytes a partial row has.
use Rattle.std.specs.Prelude.{◌≡◌, ◌+◌, ◌*◌, ◌≤◌, ◌==◌, List, ◌++◌, All, map, flat_map, length, ℤ}
use Rattle.std.specs.List.{IsDistinct}
use Rattle.row_codec.specs.declared.values.Value.{Value}
use Rattle.row_codec.specs.declared.values.Value.TheVariants.{Wide}
use Rattle.row_codec.specs.RowBytes.{key_part, row_bytes}
use Rattle.group_rows.specs.Partials.{Grouping}
use Rattle.group_rows.specs.Rows.{IsKeyValue, partial_row}

-- a partial row of distinct key columns is at most as long as its row and sixteen bytes an aggregate
abbrev pub FitsWeight : Type 0
FitsWeight =
    (grouping : Grouping) (row : List Value) → IsDistinct ◌==◌ grouping.keys
    → length (row_bytes (partial_row grouping row)) ≤ length (row_bytes row) + 16 * length grouping.aggs

-- it is as long with other numbers
abbrev pub StayAsLong : Type 0
StayAsLong =
    (values : List Value) (ms ns : List ℤ) → length ms ≡ length ns
    → length (row_bytes (values ++ map Wide ms)) ≡ length (row_bytes (values ++ map Wide ns))

-- its key's bytes tell its length: one byte less for each value, four bytes and the numbers more
abbrev pub LengthByKey : Type 0
LengthByKey =
    (values : List Value) (ns : List ℤ) → All IsKeyValue values
    → length (row_bytes (values ++ map Wide ns)) + length values ≡ 4 + length (flat_map key_part values) + 16 * length ns
