-- How the queries of a plan end: the status of each ending, and what the report says of it.
use Rattle.std.specs.Prelude.{ℕ, Bool, true, false, List, [], map, slice_index_or, ⊤}
use Rattle.reservation_tree.specs.declared.errors.PoolErr.{PoolErr}
use Rattle.reservation_tree.specs.declared.errors.PoolErr.TheVariants as pool
use Rattle.row_codec.specs.declared.values.Column.{Column}
use Rattle.query_plan.specs.declared.plan.Query.{Query}
use Rattle.query_plan.specs.declared.plan.Side.{Side}
use Rattle.query_plan.specs.declared.plan.Side.TheVariants.{Left, Right}
use Rattle.query_plan.specs.Rules.{columns_of_side}
use Rattle.query_plan.specs.declared.outcome.QueryErr.{QueryErr}
use Rattle.query_plan.specs.declared.outcome.QueryErr.TheVariants as query
use Rattle.run_report.specs.declared.cause.Cause.{Cause}
use Rattle.run_report.specs.declared.cause.Cause.TheVariants as cause
use Rattle.run_report.specs.declared.outcome.Outcome.{Outcome}
use Rattle.run_report.specs.declared.outcome.Outcome.TheVariants as outcome
use Rattle.spill_top.specs.declared.ending.Ending.{Ending}
use Rattle.spill_top.specs.declared.ending.Ending.TheVariants.{Lines, Reservation, Stopped}

abbrev pub is_answer : Ending → Bool
is_answer (Lines lines) = true
is_answer (Reservation root wanted room) = false
is_answer (Stopped why) = false

-- the status of what a store answered
abbrev pub status_of_pool : PoolErr → ℕ
status_of_pool (pool.ScratchFull need free) = 7
status_of_pool pool.NamesSpent = 7
status_of_pool (pool.WriteFault entry) = 8
status_of_pool (pool.ReadFault entry) = 8
status_of_pool _ = 10

abbrev pub status_of_error : QueryErr → ℕ
status_of_error (query.SourceFault side) = 3
status_of_error (query.BadHeader side) = 4
status_of_error (query.BadCsv side number) = 4
status_of_error (query.BadField side number column) = 4
status_of_error (query.TooLarge side) = 4
status_of_error (query.RowTooLong side number weight) = 5
status_of_error query.SinkFault = 9
status_of_error (query.Pool why) = status_of_pool why

abbrev pub status_of : Ending → ℕ
status_of (Lines lines) = 0
status_of (Reservation root wanted room) = 6
status_of (Stopped why) = status_of_error why

-- the columns of an input, and the name of one of them
abbrev pub columns_on : Query → Side → List Column
columns_on plan Left = plan.left.columns
columns_on plan Right = columns_of_side plan.right

abbrev pub column_name : Query → Side → ℕ → List ℕ
column_name plan side place = slice_index_or (map (λ c. c.name) (columns_on plan side)) place []

-- the cause that is printed
abbrev pub cause_of_pool : PoolErr → Cause
cause_of_pool (pool.ScratchFull need free) = cause.Scratch need free
cause_of_pool pool.NamesSpent = cause.Names
cause_of_pool (pool.WriteFault entry) = cause.Write entry
cause_of_pool (pool.ReadFault entry) = cause.Read entry
cause_of_pool _ = cause.Memory

abbrev pub cause_of : Query → QueryErr → Cause
cause_of plan (query.SourceFault side) = cause.Input side
cause_of plan (query.BadHeader side) = cause.Header side
cause_of plan (query.BadCsv side number) = cause.Csv side number
cause_of plan (query.BadField side number column) = cause.Field side number (column_name plan side column)
cause_of plan (query.TooLarge side) = cause.Large side
cause_of plan (query.RowTooLong side number weight) = cause.Row side number weight
cause_of plan query.SinkFault = cause.Output
cause_of plan (query.Pool why) = cause_of_pool why

abbrev pub outcome_of : Query → Ending → Outcome
outcome_of plan (Lines lines) = outcome.Lines lines
outcome_of plan (Reservation root wanted room) = outcome.Refused 6 (cause.Reservation root wanted room)
outcome_of plan (Stopped why) = outcome.Refused (status_of_error why) (cause_of plan why)

-- no field is at fault, whose column would be named
abbrev pub HasPlainCause : QueryErr → Type 0
HasPlainCause (query.BadField side number column) = ⊥
HasPlainCause _ = ⊤
