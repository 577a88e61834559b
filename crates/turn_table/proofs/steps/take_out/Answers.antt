use Rattle.std.proofs.Common.{Some, ap, sym, ◌∙◌, ◌∷◌}
use Rattle.atomic_table.specs.Table.{rest}
use Rattle.turn_table.proofs.steps.take_out.Goals as goal

pub exchange-requires : goal.exchange-requires
exchange-requires g c =
    let held = c.requires.held in
    (c.requires.table.0, (Some held.0, held.1 ∙ sym (ap (λ l. (0, Some held.0) ∷ rest l) held.1)))
