use Rattle.toml.specs.View.{table_view}
use Rattle.query_plan.proofs.KeptRules.{plan_keeps}
use Rattle.query_plan.proofs.reading.read_plan.Goals as goal

pub returns-clause-rules : goal.returns-clause-rules
returns-clause-rules c =
    let fit = rw c.as_slice-3.ensures.value at c.in_ok-fitting_quotas.ensures.clears in
    plan_keeps c.args.slots (table_view c.in_ok-table.table) c.in_ok-plan.plan c.in_ok-plan.ensures.made c.in_ok-plan.ensures.clears fit
