-- Batches of rows, as fragments are given them. Rows run from the first to the last.
use Rattle.std.specs.Prelude.{◌≤◌, ℕ, List, All, length, map, take, Vec}
use Rattle.std.specs.declared.alloc.Global.{Global}
use Rattle.row_codec.specs.declared.values.Kind.{Kind}
use Rattle.row_codec.specs.declared.values.Value.{Value}
use Rattle.query_run.specs.Feeding.{MayBeTaken}
use Rattle.query_run.specs.declared.batches.Batch.{Batch}

-- the values of the first ones of some rows
abbrev pub first_rows : ℕ → List (Vec Value Global) → List (List Value)
first_rows n rows = map (λ row. row.items) (take n rows)

module _ {R : Type 0} where
  -- the rows of a batch
  abbrev pub rows_in : Batch R → List (List Value)
  rows_in batch = first_rows batch.len batch.rows.items

  -- a batch of rows that an operator takes: each of its kinds, and with so many bytes more no longer than a page
  pub record MayBeFed (kinds : List Kind) (extra page : ℕ) (batch : Batch R) : Type 0 where
    pub has : batch.len ≤ length batch.rows.items
    pub each : All (MayBeTaken kinds extra page) (rows_in batch)
