use Rattle.std.proofs.Common.{◌≡◌, sym, ap, ◌∙◌, subst}
use Rattle.turn_table.specs.Face.{Spot}
use Rattle.pool.specs.declared.item.Item.{Item}
use Rattle.pool.specs.Writers.{Lends}
use Rattle.pool.proofs.Lent.{lends, lent_pass}
use Rattle.pool.proofs.pool.Pool.writer_seat.Goals as goal

pub invariant_of-pass : goal.invariant_of-pass
invariant_of-pass g c = lent_pass c.pass.invariant c.args.who c.requires.who c.split-seat.new.seat c.split-seat.ensures.parted

pub returns : goal.returns
returns g c =
    let home : c.self.inside.turns ≡ c.pass.inside.seat.table = c.self.view_is ∙ sym c.requires.table ∙ ap (λ (p : Spot Item). p.table) (sym c.pass.view_is) in
    subst (λ (p : Spot Item). Lends c.args.who p c.split-seat.new.seat (record { number = c.args.who; spot = c.split-seat.result })) c.pass.view_is
    (lends c.pass.invariant c.args.who c.requires.who c.split-seat.new.seat c.split-seat.ensures.parted c.split-seat.result c.split-seat.ensures.newcomer (c.split-seat.ensures.table.0 ∙ home) (c.split-seat.ensures.table.1 ∙ home))
