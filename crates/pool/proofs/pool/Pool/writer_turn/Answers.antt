use Rattle.std.proofs.Common.{◌≡◌, sym, ap, ◌∙◌, subst}
use Rattle.pool.specs.Items.{is_stopped}
use Rattle.pool.specs.Sitting.{Sitting}
use Rattle.pool.specs.Writers.{TakesTurn}
use Rattle.pool.proofs.WriterTurns.{gives_found, takes_turn}
use Rattle.pool.proofs.pool.Pool.writer_turn.Goals as goal

pub give_hand-requires-clause-gives : goal.give_hand-requires-clause-gives
give_hand-requires-clause-gives g c =
    let was : Sitting = record { number = c.seat.inside.number; spot = c.seat.inside.place } in
    gives_found g.D.Slot g.T.Opened.opening g.T.Opened.outset.told g.T.Opened.first was c.take_hand-hand.new.place c.take_hand-hand.result c.seat.invariant c.take_hand-hand.ensures.takes
    (is_stopped c.take_hand-hand.new.place.knows.seen) c.find-turn.new.hand c.find-turn.result c.find-turn.ensures

pub returns : goal.returns
returns g c =
    let was : Sitting = record { number = c.seat.inside.number; spot = c.seat.inside.place } in
    let table : c.give_hand.new.place.table ≡ was.spot.table = c.give_hand.ensures.table ∙ c.self.view_is ∙ sym c.requires.table ∙ ap (λ (s : Sitting). s.spot.table) (sym c.seat.view_is) in
    subst (λ (s : Sitting). TakesTurn g.D.Slot g.T.Opened.opening g.T.Opened.outset.told g.T.Opened.first s (record { number = c.seat.inside.number; spot = c.give_hand.new.place }) c.find-turn.result) c.seat.view_is
    (takes_turn g.D.Slot g.T.Opened.opening g.T.Opened.outset.told g.T.Opened.first was c.take_hand-hand.new.place c.take_hand-hand.result c.seat.invariant c.take_hand-hand.ensures.takes
    c.find-turn.new.hand c.give_hand.new.place c.give_hand.ensures.grown table c.find-turn.result c.find-turn.ensures)
