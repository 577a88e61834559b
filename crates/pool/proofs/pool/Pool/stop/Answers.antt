use Rattle.std.proofs.Common.{◌≡◌, refl, sym, ap, ◌∙◌, subst}
use Rattle.turn_table.specs.Face.{Spot}
use Rattle.pool.specs.declared.item.Item.{Item}
use Rattle.pool.specs.Writers.{Stops}
use Rattle.pool.proofs.Lent.{stop_pass, stops}
use Rattle.pool.proofs.pool.Pool.stop.Goals as goal

pub leave_stopped-requires-clause-named : goal.leave_stopped-requires-clause-named
leave_stopped-requires-clause-named g c = refl

pub invariant_of-pass : goal.invariant_of-pass
invariant_of-pass g c = stop_pass c.pass.invariant c.enter-shared.ensures.kept.1 c.enter-shared.ensures.seen c.leave_stopped.new.seat c.leave_stopped.ensures.grown

pub returns : goal.returns
returns g c =
    let table : c.leave_stopped.new.seat.table ≡ c.pass.inside.seat.table = c.leave_stopped.ensures.table ∙ c.self.view_is ∙ sym c.requires.table ∙ ap (λ (p : Spot Item). p.table) (sym c.pass.view_is) in
    subst (λ (p : Spot Item). Stops p c.leave_stopped.new.seat) c.pass.view_is
    (stops c.pass.invariant c.enter-shared.ensures.kept.1 c.enter-shared.ensures.seen c.leave_stopped.new.seat c.leave_stopped.ensures.grown table)
