-- Partial rows as they are stored, in tables and on pages: the values of a key and a wide number for each aggregate, as
-- one encoded row. Lengths are in bytes.
use Rattle.std.specs.Prelude.{◌≡◌, ℕ, ◌+◌, ◌-◌, ◌*◌, ◌==◌, List, ◌++◌, length, map, filter, filter_map, slice_get, sum_by, take, ℤ}
use Rattle.row_codec.specs.declared.values.Kind.{Kind}
use Rattle.row_codec.specs.declared.values.Kind.TheVariants.{Wide}
use Rattle.row_codec.specs.declared.values.Value.{Value}
use Rattle.row_codec.specs.declared.values.Value.TheVariants as value
use Rattle.row_codec.specs.Order.{hash_of, nibble_of, path_order}
use Rattle.row_codec.specs.Row.{kinds_of}
use Rattle.row_codec.specs.RowBytes.{key_bytes, row_bytes}
use Rattle.row_codec.specs.RowLaws.{IsRow}
use Rattle.row_codec.specs.RowReading.{row_at}
use Rattle.store_api.specs.Shapes.{IsShape}
pub use Rattle.row_reading.specs.Reading.{values_read}
use Rattle.store_api.specs.declared.shapes.Shape.{Shape}
use Rattle.group_rows.specs.Keyed.{keys_in}
use Rattle.group_rows.specs.Partials.{Grouping, Partial, combined_numbers, combined_of}
use Rattle.group_rows.specs.Rows.{partial_in, partial_row}

abbrev pub grouping_of : Shape → Grouping
grouping_of shape = record { keys = shape.keys; aggs = shape.aggs }

-- the kinds of a key's columns, and of a partial row
abbrev pub key_kinds : Shape → List Kind
key_kinds shape = filter_map (slice_get shape.kinds) shape.keys

abbrev pub partial_kinds : Shape → List Kind
partial_kinds shape = key_kinds shape ++ map (λ agg. Wide) shape.aggs

-- the values that bytes spell
unfoldable pub values_at : Shape → List ℕ → List Value
values_at shape bytes = values_read (row_at (partial_kinds shape) bytes)

-- what they say, and of which key
unfoldable pub partial_at : Shape → List ℕ → Partial
partial_at shape bytes = partial_in (grouping_of shape) (values_at shape bytes)

abbrev pub key_at : Shape → List ℕ → List ℕ
key_at shape bytes = (partial_at shape bytes).key

-- the bytes are a partial row
pub record IsPartialRow (shape : Shape) (bytes : List ℕ) : Type 0 where
  pub is_row : IsRow (values_at shape bytes)
  pub kinds_are : kinds_of (values_at shape bytes) ≡ partial_kinds shape
  pub spelled : row_bytes (values_at shape bytes) ≡ bytes

-- how many of its bytes come before the numbers
abbrev pub head_len : Shape → List ℕ → ℕ
head_len shape bytes = length bytes - 16 * length shape.aggs

-- the partial row of a row
abbrev pub own_bytes : Shape → List Value → List ℕ
own_bytes shape row = row_bytes (partial_row (grouping_of shape) row)

-- its key's values, and its numbers
abbrev pub key_values_at : Shape → List ℕ → List Value
key_values_at shape bytes = take (length shape.keys) (values_at shape bytes)

abbrev pub numbers_at : Shape → List ℕ → List ℤ
numbers_at shape bytes = (partial_at shape bytes).numbers

-- the row of a key with these numbers
abbrev pub with_numbers : Shape → List ℕ → List ℤ → List ℕ
with_numbers shape bytes numbers = row_bytes (key_values_at shape bytes ++ map value.Wide numbers)

-- two stored rows of one key as one
abbrev pub joined : Shape → List ℕ → List ℕ → List ℕ
joined shape entry row = with_numbers shape entry (combined_numbers shape.aggs (numbers_at shape entry) (numbers_at shape row))

-- what some stored rows say
abbrev pub partials_at : Shape → List (List ℕ) → List Partial
partials_at shape rows = map (partial_at shape) rows

-- combined, the ones are what the others are, whatever stands beside them
abbrev pub SameGroups : Grouping → List Partial → List Partial → Type 0
SameGroups grouping xs ys = (others : List Partial) → combined_of grouping (xs ++ others) ≡ combined_of grouping (ys ++ others)

-- where a row goes at a level, of sixteen partitions of which the lowest stands at `base`: nibble 0 is the highest
abbrev pub nibble_at : Shape → ℕ → List ℕ → ℕ
nibble_at shape level row = nibble_of (hash_of (key_at shape row)) level

abbrev pub place_of : Shape → ℕ → ℕ → List ℕ → ℕ
place_of shape level base row = base + (15 - nibble_at shape level row)

-- of some rows, those that go to this partition
abbrev pub dealt : Shape → ℕ → ℕ → List (List ℕ) → ℕ → List (List ℕ)
dealt shape level base rows i = filter (λ row. place_of shape level base row == i) rows

-- how long the partial row of a key is: four bytes, those of the key but one for each value, and sixteen a number
abbrev pub row_len : Shape → List ℕ → ℕ
row_len shape key = 4 + length key + 16 * length shape.aggs - length shape.keys

abbrev pub LongByKey : Type 0
LongByKey = (shape : Shape) (row : List ℕ) → IsShape shape → IsPartialRow shape row → length row ≡ row_len shape (key_at shape row)

-- the partial rows of the distinct keys of these rows, with four bytes more each, take so many bytes together
abbrev pub keys_len : Shape → List (List Value) → ℕ
keys_len shape rows = sum_by (λ key. row_len shape key + 4) (keys_in path_order (key_bytes shape.keys) rows)
