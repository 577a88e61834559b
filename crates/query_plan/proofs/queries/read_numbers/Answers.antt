use Rattle.std.proofs.Common.{◌≡◌, ◌≢◌, Some, refl, rules}
use Rattle.toml.specs.View.{table_view}
use Rattle.query_plan.specs.declared.error.PlanErr.TheVariants.{Memory}
use Rattle.query_plan.specs.Faults.{rows_fault}
use Rattle.query_plan.specs.Keys.{number_rows}
use Rattle.query_plan.proofs.queries.read_numbers.Goals as goal

pub returns-in_err-page_blocks-clause-tells : goal.returns-in_err-page_blocks-clause-tells
returns-in_err-page_blocks-clause-tells c =
    let first : c.in_err-page_blocks.field-0.0 ≢ Memory → rows_fault number_rows c.args.section.now.path.now (table_view c.args.section.now.table.now) ≡ Some c.in_err-page_blocks.field-0.0 =
    λ other. rw (c.in_err-page_blocks.ensures.tells other) refl in
    search rules

pub returns-in_err-limit-clause-tells : goal.returns-in_err-limit-clause-tells
returns-in_err-limit-clause-tells c =
    let first : c.in_err-limit.field-0.0 ≢ Memory → rows_fault number_rows c.args.section.now.path.now (table_view c.args.section.now.table.now) ≡ Some c.in_err-limit.field-0.0 =
    λ other. rw (c.in_ok-page_blocks.ensures.clears, c.in_err-limit.ensures.tells other) refl in
    search rules

pub returns-in_err-quota-clause-tells : goal.returns-in_err-quota-clause-tells
returns-in_err-quota-clause-tells c =
    let first : c.in_err-quota.field-0.0 ≢ Memory → rows_fault number_rows c.args.section.now.path.now (table_view c.args.section.now.table.now) ≡ Some c.in_err-quota.field-0.0 =
    λ other. rw (c.in_ok-page_blocks.ensures.clears, c.in_ok-limit.ensures.clears, c.in_err-quota.ensures.tells other) refl in
    search rules

pub returns-clause-clears : goal.returns-clause-clears
returns-clause-clears c = rw (c.in_ok-page_blocks.ensures.clears, c.in_ok-limit.ensures.clears, c.in_ok-quota.ensures.clears) refl
