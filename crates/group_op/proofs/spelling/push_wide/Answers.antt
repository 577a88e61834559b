use Rattle.std.proofs.Common.{◌++◌, ◌∙◌, ap, rules, SFits}
use Rattle.std.specs.Int.{w128}
use Rattle.std.proofs.lemmas.Int.{to_z-of_z}
use Rattle.group_op.proofs.spelling.push_wide.Goals as goal

pub returns-clause-items : goal.returns-clause-items
returns-clause-items c =
    let fits : SFits w128 c.args.number = search rules in
    c.in_ok-extend_from_slice.ensures.items ∙ ap (λ bytes. c.args.out.now.items ++ bytes) (simp to_z-of_z at c.spelled.ensures)
