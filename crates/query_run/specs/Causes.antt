-- What the refusal of an input is to a query.
use Rattle.std.specs.Prelude.{◌≡◌, List, slice_get, Option, Some, None, ⊤}
use Rattle.row_codec.specs.declared.values.Kind.{Kind}
use Rattle.row_codec.specs.declared.values.Kind.TheVariants.{Int}
use Rattle.csv_edge.specs.declared.refusal.InputErr.{InputErr}
use Rattle.csv_edge.specs.declared.refusal.InputErr.TheVariants as input
use Rattle.reservation_tree.specs.declared.errors.PoolErr.{PoolErr}
use Rattle.reservation_tree.specs.declared.errors.PoolErr.TheVariants.{Memory}
use Rattle.query_plan.specs.declared.plan.Side.{Side}
use Rattle.query_plan.specs.declared.outcome.QueryErr.{QueryErr}
use Rattle.query_plan.specs.declared.outcome.QueryErr.TheVariants as query

abbrev pub cause_of_input : Side → InputErr → QueryErr
cause_of_input side input.Fault = query.SourceFault side
cause_of_input side input.Header = query.BadHeader side
cause_of_input side (input.Csv number) = query.BadCsv side number
cause_of_input side (input.Field number column) = query.BadField side number column
cause_of_input side input.TooLarge = query.TooLarge side
cause_of_input side input.Memory = query.Pool Memory

-- what the bytes of an input are refused for
abbrev pub IsOfBytes : QueryErr → Type 0
IsOfBytes (query.SourceFault side) = ⊥
IsOfBytes (query.BadHeader side) = ⊤
IsOfBytes (query.BadCsv side number) = ⊤
IsOfBytes (query.BadField side number column) = ⊤
IsOfBytes (query.TooLarge side) = ⊤
IsOfBytes (query.RowTooLong side number bytes) = ⊤
IsOfBytes query.SinkFault = ⊥
IsOfBytes (query.Pool e) = ⊥

-- the column whose field spells no value is one of ints
abbrev pub NamesInt : List Kind → QueryErr → Type 0
NamesInt kinds (query.BadField side number column) = slice_get kinds column ≡ Some Int
NamesInt kinds _ = ⊤

-- the source had a fault
abbrev pub IsSourceFault : QueryErr → Type 0
IsSourceFault why = (side : Side) × (why ≡ query.SourceFault side)

-- the input that a cause speaks of, if it speaks of one
abbrev pub side_of : QueryErr → Option Side
side_of (query.SourceFault side) = Some side
side_of (query.BadHeader side) = Some side
side_of (query.BadCsv side number) = Some side
side_of (query.BadField side number column) = Some side
side_of (query.TooLarge side) = Some side
side_of (query.RowTooLong side number bytes) = Some side
side_of query.SinkFault = None
side_of (query.Pool e) = None

-- where it is an answer of a store, this holds of that answer
abbrev pub OfPool : (PoolErr → Type 0) → QueryErr → Type 0
OfPool P (query.Pool e) = P e
OfPool P _ = ⊤
