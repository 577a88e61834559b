use Rattle.std.proofs.Common.{◌≡◌, ◌∙◌, sym, subst}
use Rattle.turn_table.specs.Face.{Spot}
use Rattle.pool.specs.declared.item.Item.{Item}
use Rattle.pool.specs.Opening.{ClosesTraced, HasNumbers}
use Rattle.pool.specs.Seats.{live_in}
use Rattle.pool.proofs.AtClose.{none_left, closed_traced}
use Rattle.pool.proofs.pool.Pool.close_traced.Goals as goal

pub close-requires : goal.close-requires
close-requires g c = record {
  ended = none_left g.D.Slot g.T.Opened.opening g.T.Opened.outset.told g.T.Opened.first c.pass.inside.seat c.close-state.ensures.0 (record { trail = c.close-state.result.trail; counts = c.close-state.result.counts }) c.close-state.result.state c.close-state.ensures.1 c.close-state.ensures.2.0
      c.pass.invariant.opens (subst (λ (p : Spot Item). live_in p.knows.seen ≡ 0) (sym c.pass.view_is) c.requires.none);
}

pub returns : goal.returns
returns g c =
    let numbers : HasNumbers g.T.Opened.opening c.into_trace-trace.result = record {
      blocks = c.into_trace-trace.ensures.opening.0 ∙ c.self.invariant.2;
      block_len = c.into_trace-trace.ensures.opening.1 ∙ c.self.invariant.1;
      first_name = c.into_trace-trace.ensures.opening.2 ∙ c.self.invariant.3;
    } in
    subst (λ (p : Spot Item). ClosesTraced g.D.Slot g.T.Opened.opening g.T.Opened.outset.told g.T.Opened.first p c.close.result.items c.into_trace-trace.result) c.pass.view_is
    (closed_traced g.D.Slot g.T.Opened.opening g.T.Opened.outset.told g.T.Opened.first c.pass.inside.seat c.close-state.ensures.0 (record { trail = c.close-state.result.trail; counts = c.close-state.result.counts }) c.close-state.result.state c.close-state.ensures.1 c.close-state.ensures.2.0
    c.pass.invariant.opens (subst (λ (p : Spot Item). live_in p.knows.seen ≡ 0) (sym c.pass.view_is) c.requires.none)
    c.close.result.items c.close.ensures.slots c.into_trace-trace.result numbers c.into_trace-trace.ensures.kept c.law_traces.ensures.legal c.law_traces.ensures.fronts)
