use Rattle.std.proofs.Common.{◌≡◌, ◌≢◌, Some, refl, rules}
use Rattle.toml.specs.View.{table_view}
use Rattle.query_plan.specs.declared.error.PlanErr.TheVariants.{Memory}
use Rattle.query_plan.specs.Faults.{rows_fault}
use Rattle.query_plan.specs.Keys.{trace_rows}
use Rattle.query_plan.proofs.reading.read_trace.Goals as goal

pub returns-in_err-entries-clause-tells : goal.returns-in_err-entries-clause-tells
returns-in_err-entries-clause-tells c =
    let first : c.in_err-entries.field-0.0 ≢ Memory → rows_fault trace_rows c.args.section.now.path.now (table_view c.args.section.now.table.now) ≡ Some c.in_err-entries.field-0.0 =
    λ other. rw (c.in_ok-output.ensures.clears, rw c.has-recorded.ensures at c.in_err-entries.ensures.tells other) refl in
    search rules

pub returns-clause-clears : goal.returns-clause-clears
returns-clause-clears c =
    let entries_clear = rw c.has-recorded.ensures at c.in_ok-entries.ensures.clears in
    rw (c.in_ok-output.ensures.clears, entries_clear) refl
