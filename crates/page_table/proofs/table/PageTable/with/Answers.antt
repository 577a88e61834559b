use Rattle.std.proofs.Common.{arith}
use Rattle.page_table.proofs.Steps.{opens}
use Rattle.page_table.proofs.table.PageTable.with.Goals as goal

pub invariant_of-result : goal.invariant_of-result
invariant_of-result g c = (opens c.in_ok-rows.rows c.args.first_name c.args.pages c.in_ok-rows.ensures.empty (omega (arith, c.capacity.ensures.value, c.if-capacity-pages.false))).sound

pub returns : goal.returns
returns g c = (opens c.in_ok-rows.rows c.args.first_name c.args.pages c.in_ok-rows.ensures.empty (omega (arith, c.capacity.ensures.value, c.if-capacity-pages.false))).pages
