-- What was read of an input so far, and what is still to come. About inner calls; no public clause cites this.
use Rattle.std.specs.Prelude.{◌≡◌, ◌≤◌, ℕ, List, Option, All, filter, length}
use Rattle.std.specs.Option.{option_map}
use Rattle.row_codec.specs.declared.values.Value.{Value}
use Rattle.scan_filter.specs.Passes.{passes}
use Rattle.csv_edge.specs.Rows.{Becomes, CountsBytes}
use Rattle.csv_edge.specs.Typed.{Typed, rows_then}
use Rattle.query_plan.specs.declared.plan.Query.{Query}
use Rattle.query_plan.specs.declared.plan.Side.{Side}
use Rattle.query_plan.specs.declared.plan.SidePlan.{SidePlan}
use Rattle.query_run.specs.FedRows.{AreFed}
use Rattle.query_run.specs.Input.{most_bytes, rows_of, weight_of}
use Rattle.query_run.specs.Plans.{kinds_of_columns}
use Rattle.query_run.specs.declared.feeding.Fed.{Fed}

-- the rows so far, and what is still to come, are the input
abbrev pub IsSoFar : SidePlan → Option (List ℕ) → List (List Value) → Option Typed → Type 0
IsSoFar asked told rows rest = Becomes (rows_then rows) (option_map (rows_of asked.columns) told) rest

-- a row weighs no more than is allowed
abbrev pub IsLight : Query → ℕ → List Value → Type 0
IsLight plan page row = weight_of plan row ≤ page

-- so many rows were read, and those that pass were fed; the others are still to come
pub record IsReading (plan : Query) (side : Side) (asked : SidePlan) (page : ℕ) (told : Option (List ℕ)) (fed : Fed) (feeds : List (List Value) → Type 0) (rest : Option Typed) (now : Option (List ℕ)) (allowed : ℕ) : Type 0 where
  pub rows : List (List Value)
  pub read : fed.read ≡ length rows
  pub kept : fed.kept ≡ length (filter (passes asked.preds) rows)
  pub light : All (IsLight plan page) rows
  pub formed : AreFed (kinds_of_columns asked.columns) rows
  pub came : feeds (filter (passes asked.preds) rows)
  pub so_far : IsSoFar asked told rows rest
  pub counts : CountsBytes most_bytes told allowed now

abbrev pub fed_of : ℕ → ℕ → Fed
fed_of read kept = record { read = read; kept = kept }
