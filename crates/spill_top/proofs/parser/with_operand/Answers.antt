use Rattle.std.proofs.Common.{◌≡◌, ◌∙◌, false, refl, rules}
use Rattle.std.proofs.lemmas.Result.{IfOk-weaker}
use Rattle.spill_top.proofs.parser.with_operand.Goals as goal

pub returns-clause-globals : goal.returns-clause-globals
returns-clause-globals c =
    let arg_local : c.action-arg.result.global ≡ false = search rules in
    IfOk-weaker c.arg.result _ _ (λ more h local. h.globals ∙ rw (local, arg_local) refl) c.arg.ensures
