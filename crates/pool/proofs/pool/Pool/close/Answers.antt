use Rattle.std.proofs.Common.{◌≡◌, sym, subst}
use Rattle.turn_table.specs.Face.{Spot}
use Rattle.pool.specs.declared.item.Item.{Item}
use Rattle.pool.specs.Opening.{ClosesWith}
use Rattle.pool.specs.Seats.{live_in}
use Rattle.pool.proofs.AtClose.{none_left, closed_with}
use Rattle.pool.proofs.pool.Pool.close.Goals as goal

pub close-requires-2 : goal.close-requires-2
close-requires-2 g c = record {
  ended = none_left g.D.Slot g.T.Opened.opening g.T.Opened.outset.told g.T.Opened.first c.pass.inside.seat c.close.ensures.0 (record { trail = c.close.result.trail; counts = c.close.result.counts }) c.close.result.state c.close.ensures.1 c.close.ensures.2.0
      c.pass.invariant.opens (subst (λ (p : Spot Item). live_in p.knows.seen ≡ 0) (sym c.pass.view_is) c.requires.none);
}

pub returns : goal.returns
returns g c =
    subst (λ (p : Spot Item). ClosesWith g.D.Slot g.T.Opened.opening g.T.Opened.outset.told g.T.Opened.first p c.close-2.result.items) c.pass.view_is
    (closed_with g.D.Slot g.T.Opened.opening g.T.Opened.outset.told g.T.Opened.first c.pass.inside.seat c.close.ensures.0 (record { trail = c.close.result.trail; counts = c.close.result.counts }) c.close.result.state c.close.ensures.1 c.close.ensures.2.0
    c.pass.invariant.opens (subst (λ (p : Spot Item). live_in p.knows.seen ≡ 0) (sym c.pass.view_is) c.requires.none)
    c.close-2.result.items c.close-2.ensures.slots)
