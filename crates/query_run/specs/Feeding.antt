-- Rows of an input that were read, and fed to an operator.
use Rattle.std.specs.Prelude.{◌≡◌, ◌<◌, ◌+◌, ◌-◌, ◌^◌, ◌++◌, ◌⊎◌, ◌≤◌, ℕ, List, Option, IfSome, filter, length, min}
use Rattle.row_codec.specs.declared.values.Kind.{Kind}
use Rattle.row_codec.specs.declared.values.Value.{Value}
use Rattle.row_codec.specs.Row.{kinds_of}
use Rattle.row_codec.specs.RowBytes.{row_bytes}
use Rattle.scan_filter.specs.Passes.{passes}
use Rattle.query_plan.specs.declared.plan.Query.{Query}
use Rattle.query_plan.specs.declared.plan.Side.{Side}
use Rattle.query_plan.specs.declared.plan.SidePlan.{SidePlan}
use Rattle.reservation_tree.specs.declared.errors.PoolErr.{PoolErr}
use Rattle.query_run.specs.FedRows.{AreFed}
use Rattle.query_run.specs.Plans.{kinds_of_columns}
use Rattle.query_run.specs.Through.{taken_in}
use Rattle.query_run.specs.Input.{IsAcceptedIn, rows_read, weight_of}
use Rattle.query_plan.specs.declared.outcome.QueryErr.{QueryErr}
use Rattle.query_plan.specs.declared.outcome.QueryErr.TheVariants.{Pool, RowTooLong}
use Rattle.query_run.specs.declared.feeding.Fed.{Fed}

-- a row that an operator takes: of its kinds, and with so many bytes more no longer than a page
pub record MayBeTaken (kinds : List Kind) (extra page : ℕ) (row : List Value) : Type 0 where
  pub kinds_are : kinds_of row ≡ kinds
  pub short : length (row_bytes row) + extra ≤ page

-- so many rows were read, and those that pass were fed: the rows of the input, where its bytes are told
pub record HasFed (plan : Query) (side : Side) (asked : SidePlan) (page : ℕ) (told : Option (List ℕ)) (fed : Fed) (feeds : List (List Value) → Type 0) : Type 0 where
  pub rows : List (List Value)
  pub read : fed.read ≡ length rows
  pub kept : fed.kept ≡ length (filter (passes asked.preds) rows)
  pub few : length rows < 2 ^ 32
  pub formed : AreFed (kinds_of_columns asked.columns) (filter (passes asked.preds) rows)
  pub came : feeds (filter (passes asked.preds) rows)
  pub are : IfSome told (λ bytes. IsAcceptedIn plan side asked page bytes × (rows ≡ rows_read asked bytes))

-- rows are the first ones of these
abbrev pub AreFirstOf : List (List Value) → List (List Value) → Type 0
AreFirstOf rows all = (rest : List (List Value)) × (all ≡ rows ++ rest)

-- this holds of rows that were taken: the first ones of those that pass up to the place where the input is refused, where its bytes are told
pub record OfTaken (plan : Query) (asked : SidePlan) (page : ℕ) (told : Option (List ℕ)) (holds : List (List Value) → Type 0) : Type 0 where
  pub rows : List (List Value)
  pub first : IfSome told (λ bytes. AreFirstOf rows (taken_in plan asked page bytes))
  pub so : holds rows

-- a row of this number is refused: it weighs too much, or the store answered so
abbrev pub RefusesRow : Query → Side → ℕ → ℕ → List Value → QueryErr → Type 0
RefusesRow plan side page number row why =
    ((page < weight_of plan row) × (why ≡ RowTooLong side number (min (weight_of plan row) (2 ^ 64 - 1)))) ⊎ ((e : PoolErr) × (why ≡ Pool e))
