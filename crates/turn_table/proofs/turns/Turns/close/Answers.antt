use Rattle.std.proofs.Common.{◌≡◌, Some, IsSome, refl, ap, sym, subst, ◌∙◌}
use mathlib.Core.Option.{some-injective}
use Rattle.turn_table.specs.Knowledge.{GrewBeside}
use Rattle.turn_table.proofs.Calls.{closes}
use Rattle.turn_table.proofs.turns.Turns.close.Goals as goal

pub given-requires : goal.given-requires
given-requires g c =
    let knows = ap (λ s. s.knows) c.seat.view_is in
    let end = closes g.V.Logged.stands g.V.Logged.needs _ _ _ _ (ap (λ v. v.role) knows ∙ c.requires.alone) (ap (λ v. v.stage) knows ∙ c.requires.idle) c.close_with-closed.ensures.values.2 in
    subst IsSome (some-injective _ _ (sym end.2 ∙ c.take-value.ensures.value)) refl

pub returns : goal.returns
returns g c =
    let knows = ap (λ s. s.knows) c.seat.view_is in
    let end = closes g.V.Logged.stands g.V.Logged.needs _ _ _ _ (ap (λ v. v.role) knows ∙ c.requires.alone) (ap (λ v. v.stage) knows ∙ c.requires.idle) c.close_with-closed.ensures.values.2 in
    let both : Some end.0 ≡ Some c.given.result = some-injective _ _ (sym end.2 ∙ c.take-value.ensures.value) ∙ c.given.ensures in
    let value : end.0 ≡ c.given.result = cc in
    (end.1, subst (λ v. GrewBeside g.V.Logged.needs v.rights v.seen end.1) knows end.3, subst (λ x. g.V.Logged.stands x end.1) value end.4)
