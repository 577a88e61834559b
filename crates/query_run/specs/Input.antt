-- What an input is to a query: its rows, or the first place where it is refused. Lengths are in bytes.
use Rattle.std.specs.Prelude.{◌≡◌, ◌<◌, ◌≤◌, ◌⊎◌, ◌&&◌, ◌+◌, ◌-◌, ◌*◌, ◌^◌, ℕ, Bool, List, [], ◌∷◌, Option, Some, None, is_none, length, filter, min, nat_le, if◌then◌else◌}
use Rattle.std.specs.Option.{option_map, option_or}
use Rattle.row_codec.specs.declared.values.Column.{Column}
use Rattle.row_codec.specs.declared.values.Value.{Value}
use Rattle.row_codec.specs.RowBytes.{row_bytes}
use Rattle.scan_filter.specs.Passes.{passes}
use Rattle.csv_edge.specs.Typed.{Typed, typed_rows}
use Rattle.query_plan.specs.Sizes.{operators}
use Rattle.query_plan.specs.declared.plan.Query.{Query}
use Rattle.query_plan.specs.declared.plan.Side.{Side}
use Rattle.query_plan.specs.declared.plan.Side.TheVariants.{Left}
use Rattle.query_plan.specs.declared.plan.SidePlan.{SidePlan}
use Rattle.query_run.specs.Causes.{cause_of_input}
use Rattle.query_plan.specs.declared.outcome.QueryErr.{QueryErr}
use Rattle.query_plan.specs.declared.outcome.QueryErr.TheVariants.{RowTooLong, TooLarge}

-- the most records of an input, the header among them
abbrev pub most_records : ℕ
most_records = 2147483648

-- the most bytes of an input
abbrev pub most_bytes : ℕ
most_bytes = 1099511627776

-- the rows of these columns, and where the reading of them ends
abbrev pub rows_of : List Column → List ℕ → Typed
rows_of columns bytes = typed_rows columns most_records bytes

-- what a row weighs: its encoding and 16 bytes for each aggregate, once for each operator that it goes through
abbrev pub weight_of : Query → List Value → ℕ
weight_of plan row = operators plan * (length (row_bytes row) + 16 * length plan.aggs)

-- the first of these rows that weighs more than a page has bytes, where they are numbered from here on
abbrev pub first_too_long : Query → Side → ℕ → ℕ → List (List Value) → Option QueryErr
first_too_long plan side page number [] = None
first_too_long plan side page number (row ∷ rest) =
    if nat_le (weight_of plan row) page then first_too_long plan side page (number + 1) rest
    else Some (RowTooLong side number (min (weight_of plan row) (2 ^ 64 - 1)))

-- the first refusal of these rows and what stands behind them
abbrev pub first_refusal : Query → Side → ℕ → Typed → Option QueryErr
first_refusal plan side page typed = option_or (first_too_long plan side page 1 typed.rows) (option_map (cause_of_input side) typed.refusal)

-- the first refusal of a side's input, in the order of reading, where pages have so many bytes
abbrev pub refusal_in : Query → Side → SidePlan → ℕ → List ℕ → Option QueryErr
refusal_in plan side asked page bytes = first_refusal plan side page (rows_of asked.columns bytes)

-- the input is refused for this: where it has too many bytes, that may be found before another refusal
abbrev pub IsRefusalIn : Query → Side → SidePlan → ℕ → List ℕ → QueryErr → Type 0
IsRefusalIn plan side asked page bytes why = (refusal_in plan side asked page bytes ≡ Some why) ⊎ ((why ≡ TooLarge side) × (most_bytes < length bytes))

-- the input is accepted to its end
pub record IsAcceptedIn (plan : Query) (side : Side) (asked : SidePlan) (page : ℕ) (bytes : List ℕ) : Type 0 where
  pub whole : refusal_in plan side asked page bytes ≡ None
  pub fits : length bytes ≤ most_bytes

-- whether it is
abbrev pub accepts : Query → Side → SidePlan → ℕ → List ℕ → Bool
accepts plan side asked page bytes = is_none (refusal_in plan side asked page bytes) && nat_le (length bytes) most_bytes

-- the rows of an input, and those of them that pass its filter
abbrev pub rows_read : SidePlan → List ℕ → List (List Value)
rows_read asked bytes = (rows_of asked.columns bytes).rows

abbrev pub passing_in : SidePlan → List ℕ → List (List Value)
passing_in asked bytes = filter (passes asked.preds) (rows_read asked bytes)

-- the same of the left input
abbrev pub refusal_of : Query → ℕ → List ℕ → Option QueryErr
refusal_of plan page bytes = refusal_in plan Left plan.left page bytes

abbrev pub IsRefusal : Query → ℕ → List ℕ → QueryErr → Type 0
IsRefusal plan page bytes why = IsRefusalIn plan Left plan.left page bytes why

abbrev pub IsAccepted : Query → ℕ → List ℕ → Type 0
IsAccepted plan page bytes = IsAcceptedIn plan Left plan.left page bytes

abbrev pub left_rows : Query → List ℕ → List (List Value)
left_rows plan bytes = rows_read plan.left bytes

abbrev pub passing : Query → List ℕ → List (List Value)
passing plan bytes = passing_in plan.left bytes
