use Rattle.std.proofs.Common.{◌≡◌, List, [], ◌∷◌, ◌++◌, Option, Some, ap, sym, subst, ◌∙◌}
use Rattle.atomic_table.specs.Table.{opening}
use Rattle.turn_table.specs.Rule.{Turning}
use Rattle.turn_table.specs.Steps.{opened}
use Rattle.turn_table.proofs.Calls.{opens}
use Rattle.turn_table.proofs.turns.Turns.with.Goals as goal

pub new-requires : goal.new-requires
new-requires g c =
    let items : c.push.new.self.items ≡ Some c.args.value ∷ [] = c.in_default.ensures.items ∙ ap (λ l. l ++ Some c.args.value ∷ []) c.new-slots.ensures.items in
    subst (λ (l : List (Option g.row.V.Denot)). Turning g.V.Logged.stands g.V.Logged.needs (opening (0 ∷ 0 ∷ []) l (opened g.V.Logged.rights))) (sym items)
    (opens _ _ _ _ c.requires.stands c.requires.rights)
