use Rattle.std.proofs.Common.{◌++◌, ◌∙◌, ap, rules, SFits}
use Rattle.std.specs.Int.{w128}
use Rattle.std.proofs.lemmas.Int.{to_z-of_z}
use Rattle.row_codec.proofs.spelling.push_field.Goals as goal

pub returns-in-Wide-clause-items : goal.returns-in-Wide-clause-items
returns-in-Wide-clause-items c =
    let fits : SFits w128 c.in-Wide.number = search rules in
    rw c.in-Wide.is (c.push-in-Wide.ensures.items ∙ ap (λ bytes. c.args.out.now.items ++ bytes) (simp to_z-of_z at c.to_be_bytes-in-Wide.ensures))
