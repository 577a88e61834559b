use Rattle.std.proofs.Common.{◌≡◌, ◌∙◌, ◌++◌, Some, sym, rules}
use Rattle.query_run.specs.Plans.{kinds_of_columns}
use Rattle.query_run.proofs.Names.{joined_kinds}
use Rattle.query_run.proofs.grouped.row_kinds.Goals as goal

pub returns : goal.returns
returns c =
    let planned : c.args.plan.now.right ≡ Some c.in-Some.asked = search rules in
    let both : c.push_kinds.new.kinds.items ≡ kinds_of_columns c.args.plan.now.left.columns ++ kinds_of_columns c.in-Some.asked.columns = search rules in
    both ∙ sym (joined_kinds c.args.plan.now c.in-Some.asked planned)
