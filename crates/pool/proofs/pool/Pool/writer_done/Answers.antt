use Rattle.std.proofs.Common.{◌≡◌, ◌<◌, sym, ap, ◌∙◌, subst}
use Rattle.turn_table.specs.Face.{Spot}
use Rattle.pool.specs.declared.item.Item.{Item}
use Rattle.pool.specs.Passing.{writers_out}
use Rattle.pool.specs.Sitting.{Sitting}
use Rattle.pool.specs.Writers.{TakesBack}
use Rattle.pool.proofs.Lent.{back_pass, takes_back}
use Rattle.pool.proofs.pool.Pool.writer_done.Goals as goal

pub invariant_of-pass : goal.invariant_of-pass
invariant_of-pass g c =
    let w : Sitting = record { number = c.seat.inside.number; spot = c.place.inside.seat } in
    back_pass c.pass.invariant w c.join.new.seat c.join.ensures.joined c.join.ensures.seen (subst (λ (p : Spot Item). 0 < writers_out p) (sym c.pass.view_is) c.requires.some)

pub returns : goal.returns
returns g c =
    let w : Sitting = record { number = c.seat.inside.number; spot = c.place.inside.seat } in
    let was : w ≡ c.args.seat = ap (λ (s : Spot Item). record { number = c.seat.inside.number; spot = s }) c.place.view_is ∙ c.seat.view_is in
    let table : c.join.new.seat.table ≡ c.pass.inside.seat.table = c.join.ensures.table ∙ c.self.view_is ∙ sym c.requires.table.0 ∙ ap (λ (p : Spot Item). p.table) (sym c.pass.view_is) in
    subst (λ (p : Spot Item). TakesBack c.args.seat p c.join.new.seat) c.pass.view_is
    (subst (λ (s : Sitting). TakesBack s c.pass.inside.seat c.join.new.seat) was
    (takes_back c.pass.invariant w c.join.new.seat c.join.ensures.joined c.join.ensures.seen (subst (λ (p : Spot Item). 0 < writers_out p) (sym c.pass.view_is) c.requires.some) table c.join.ensures.other))
