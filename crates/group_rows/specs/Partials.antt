-- Groups of rows, as filters and folds over the rows; and partial rows, and how they combine.
use Rattle.std.specs.Prelude.{ℕ, List, [], ◌∷◌, map, ℤ}
use Rattle.row_codec.specs.declared.values.Agg.{Agg}
use Rattle.row_codec.specs.declared.values.Value.{Value}
use Rattle.row_codec.specs.Order.{path_order}
use Rattle.row_codec.specs.RowBytes.{key_bytes}
use Rattle.group_rows.specs.Aggregates.{aggregate, combined_number, own_number}
use Rattle.group_rows.specs.Keyed.{KeyOrder, keys_in, one_each, with_key}

-- the columns of the key, and what is computed over each group
pub record Grouping : Type 0 where
  pub keys : List ℕ
  pub aggs : List Agg

-- the bytes of a key, and a number for each aggregate
pub record Partial : Type 0 where
  pub key : List ℕ
  pub numbers : List ℤ

-- its key
abbrev pub key_of : Partial → List ℕ
key_of p = p.key

-- the group with this key: each aggregate over the rows with it
abbrev pub group_in : Grouping → List (List Value) → List ℕ → Partial
group_in grouping rows q = record {
  key = q;
  numbers = map (λ agg. aggregate agg (with_key (key_bytes grouping.keys) q rows)) grouping.aggs;
}

-- the groups: one for each distinct key, in order
abbrev pub groups_by : KeyOrder → Grouping → List (List Value) → List Partial
groups_by order grouping rows = map (group_in grouping rows) (keys_in order (key_bytes grouping.keys) rows)

-- what a row says by itself
abbrev pub partial_of : Grouping → List Value → Partial
partial_of grouping row = record {
  key = key_bytes grouping.keys row;
  numbers = map (λ agg. own_number agg row) grouping.aggs;
}

-- two lists of numbers combined, aggregate by aggregate
abbrev pub combined_numbers : List Agg → List ℤ → List ℤ → List ℤ
combined_numbers [] ms ns = []
combined_numbers (agg ∷ aggs) [] ns = []
combined_numbers (agg ∷ aggs) (m ∷ ms) [] = []
combined_numbers (agg ∷ aggs) (m ∷ ms) (n ∷ ns) = combined_number agg m n ∷ combined_numbers aggs ms ns

-- two partial rows of one key as one
abbrev pub combine : Grouping → Partial → Partial → Partial
combine grouping p q = record { key = p.key; numbers = combined_numbers grouping.aggs p.numbers q.numbers }

-- partial rows combined key by key: one for each distinct key, in order
abbrev pub combined_by : KeyOrder → Grouping → List Partial → List Partial
combined_by order grouping partials = one_each order key_of (combine grouping) partials

-- the same in the order of paths
abbrev pub combined_of : Grouping → List Partial → List Partial
combined_of grouping partials = combined_by path_order grouping partials
