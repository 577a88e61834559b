use Rattle.std.proofs.Common.{◌≡◌, ◌++◌, ◌∙◌, codes, map, take, ap, rules}
use Rattle.std.proofs.lemmas.List.{take_all}
use Rattle.query_plan.specs.Columns.{behind}
use Rattle.query_run.proofs.Names.{joined_names, name_of}
use Rattle.query_run.proofs.header.joined_header.Goals as goal

pub returns : goal.returns
returns c =
    let columns : c.deref-column-items.result.now ≡ behind (codes "left.") c.args.plan.now.left.columns ++ behind (codes "right.") c.args.asked.now.columns = search rules in
    let all : take c.loop-column.column-index c.deref-column-items.result.now ≡ c.deref-column-items.result.now = take_all c.loop-column.column-index c.deref-column-items.result.now c.loop-column-test.false in
    c.loop-column.invariant ∙ ap (map name_of) (all ∙ columns) ∙ joined_names c.args.plan.now c.args.asked.now c.requires.right c.requires.groups
