use Rattle.std.proofs.Common.{◌≡◌, ◌≢◌, Some, None, refl, rules}
use Rattle.toml.specs.View.{table_view}
use Rattle.query_plan.specs.declared.error.PlanErr.TheVariants.{Memory}
use Rattle.query_plan.specs.Faults.{table_fault}
use Rattle.query_plan.specs.Keys.{queries_row, top_rows, trace_rows}
use Rattle.query_plan.proofs.InParts.{told_behind, told_here}
use Rattle.query_plan.proofs.reading.read_top.Goals as goal

pub returns-in_err-block_len-clause-tells : goal.returns-in_err-block_len-clause-tells
returns-in_err-block_len-clause-tells c =
    let first : c.in_err-block_len.field-0.0 ≢ Memory → table_fault top_rows c.args.section.now.path.now (table_view c.args.section.now.table.now) ≡ Some c.in_err-block_len.field-0.0 =
    λ other. rw (c.in_ok-known_keys.ensures.clears, c.in_err-block_len.ensures.tells other) refl in
    search rules

pub returns-in_err-blocks-clause-tells : goal.returns-in_err-blocks-clause-tells
returns-in_err-blocks-clause-tells c =
    let first : c.in_err-blocks.field-0.0 ≢ Memory → table_fault top_rows c.args.section.now.path.now (table_view c.args.section.now.table.now) ≡ Some c.in_err-blocks.field-0.0 =
    λ other. rw (c.in_ok-known_keys.ensures.clears, c.in_ok-block_len.ensures.clears, c.in_ok-block_len.ensures.made, c.in_err-blocks.ensures.tells other) refl in
    search rules

pub returns-in_err-writers-clause-tells : goal.returns-in_err-writers-clause-tells
returns-in_err-writers-clause-tells c =
    let first : c.in_err-writers.field-0.0 ≢ Memory → table_fault top_rows c.args.section.now.path.now (table_view c.args.section.now.table.now) ≡ Some c.in_err-writers.field-0.0 =
    λ other. rw (c.in_ok-known_keys.ensures.clears, c.in_ok-block_len.ensures.clears, c.in_ok-block_len.ensures.made, c.in_ok-blocks.ensures.clears, c.in_err-writers.ensures.tells other) refl in
    search rules

pub returns-in_err-trace-clause-tells : goal.returns-in_err-trace-clause-tells
returns-in_err-trace-clause-tells c =
    let first : c.in_err-trace.field-0.0 ≢ Memory → table_fault top_rows c.args.section.now.path.now (table_view c.args.section.now.table.now) ≡ Some c.in_err-trace.field-0.0 =
    λ other. rw (c.in_ok-known_keys.ensures.clears, c.in_ok-block_len.ensures.clears, c.in_ok-block_len.ensures.made, c.in_ok-blocks.ensures.clears, c.in_ok-writers.ensures.clears)
    (told_here trace_rows queries_row c.args.section.now.path.now (table_view c.args.section.now.table.now) _ (c.in_err-trace.ensures.tells other)) in
    search rules

pub returns-in_err-queries-clause-tells : goal.returns-in_err-queries-clause-tells
returns-in_err-queries-clause-tells c =
    let first : c.in_err-queries.field-0.0 ≢ Memory → table_fault top_rows c.args.section.now.path.now (table_view c.args.section.now.table.now) ≡ Some c.in_err-queries.field-0.0 =
    λ other. rw (c.in_ok-known_keys.ensures.clears, c.in_ok-block_len.ensures.clears, c.in_ok-block_len.ensures.made, c.in_ok-blocks.ensures.clears, c.in_ok-writers.ensures.clears)
    (told_behind trace_rows queries_row c.args.section.now.path.now (table_view c.args.section.now.table.now) _ c.in_ok-trace.ensures.clears (rw (c.in_err-queries.ensures.tells other) refl)) in
    search rules

pub returns-clause-clears : goal.returns-clause-clears
returns-clause-clears c =
    rw (c.in_ok-known_keys.ensures.clears, c.in_ok-block_len.ensures.clears, c.in_ok-block_len.ensures.made, c.in_ok-blocks.ensures.clears, c.in_ok-writers.ensures.clears)
    (told_behind trace_rows queries_row c.args.section.now.path.now (table_view c.args.section.now.table.now) None c.in_ok-trace.ensures.clears (rw c.in_ok-queries.ensures.clears refl))
