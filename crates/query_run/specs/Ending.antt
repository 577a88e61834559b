-- How the lines of an answer end.
use Rattle.std.specs.Prelude.{◌≡◌, Option, Some, None, Result, Ok, Err, ⊤}
use Rattle.reservation_tree.specs.declared.errors.PoolErr.TheVariants.{Memory}
use Rattle.store_api.specs.declared.op_err.OpErr.{OpErr}
use Rattle.store_api.specs.declared.op_err.OpErr.TheVariants as op
use Rattle.query_plan.specs.declared.outcome.QueryErr.{QueryErr}
use Rattle.query_plan.specs.declared.outcome.QueryErr.TheVariants as query

-- what an error of a grouping is to its query
abbrev pub cause_of_op : OpErr → QueryErr
cause_of_op (op.Pool e) = query.Pool e
cause_of_op op.Sink = query.SinkFault

-- the lines weren't stopped, and neither was the grouping that handed them on
abbrev pub WentThrough : {T : Type 0} → Option QueryErr → Result T OpErr → Type 0
WentThrough None (Ok x) = ⊤
WentThrough None (Err why) = ⊥
WentThrough (Some why) handed = ⊥

-- this stopped the lines, or else the grouping
abbrev pub IsEndedBy : {T : Type 0} → Option QueryErr → Result T OpErr → QueryErr → Type 0
IsEndedBy None (Ok x) e = ⊥
IsEndedBy None (Err why) e = e ≡ cause_of_op why
IsEndedBy (Some why) handed e = e ≡ why

-- why rows that were handed on went to no grouping
abbrev pub cause_of_handed : {T : Type 0} → Result T OpErr → QueryErr
cause_of_handed (Ok x) = query.Pool Memory
cause_of_handed (Err why) = cause_of_op why
