use Rattle.std.proofs.Common.{◌≡◌, sym, ap, ◌∙◌, subst}
use Rattle.session_calls.specs.Flying.{IsBack}
use Rattle.pool.specs.Items.{sight_in}
use Rattle.pool.specs.Sitting.{Sitting}
use Rattle.pool.specs.Writers.{BringsBack}
use Rattle.pool.proofs.WriterTurns.{brings_back, gives_returned, still_back}
use Rattle.pool.proofs.pool.Pool.writer_back.Goals as goal

pub take_page-wrote-requires-clause-back : goal.take_page-wrote-requires-clause-back
take_page-wrote-requires-clause-back g c =
    let was : Sitting = record { number = c.seat.inside.number; spot = c.seat.inside.place } in
    still_back g.D.Slot g.T.Opened.opening g.T.Opened.outset.told g.T.Opened.first was c.take_hand-hand.new.place c.take_hand-hand.result c.seat.invariant c.take_hand-hand.ensures.takes c.args.job
    (subst (λ (s : Sitting). IsBack g.D.Slot g.T.Opened.opening g.T.Opened.outset.told s.number (sight_in g.T.Opened.first s.spot.knows.seen) c.args.job) (sym c.seat.view_is) c.requires.back)

pub give_hand-requires-clause-gives : goal.give_hand-requires-clause-gives
give_hand-requires-clause-gives g c =
    let was : Sitting = record { number = c.seat.inside.number; spot = c.seat.inside.place } in
    gives_returned g.D.Slot g.T.Opened.opening g.T.Opened.outset.told g.T.Opened.first was c.take_hand-hand.new.place c.take_hand-hand.result c.seat.invariant c.take_hand-hand.ensures.takes
    c.args.job c.take_page-wrote.new.self c.take_page-wrote.ensures.returns

pub returns-clause-brings : goal.returns-clause-brings
returns-clause-brings g c =
    let was : Sitting = record { number = c.seat.inside.number; spot = c.seat.inside.place } in
    let table : c.give_hand.new.place.table ≡ was.spot.table = c.give_hand.ensures.table ∙ c.self.view_is ∙ sym c.requires.table ∙ ap (λ (s : Sitting). s.spot.table) (sym c.seat.view_is) in
    subst (λ (s : Sitting). BringsBack g.D.Slot g.T.Opened.opening g.T.Opened.outset.told g.T.Opened.first c.args.job s (record { number = c.seat.inside.number; spot = c.give_hand.new.place })) c.seat.view_is
    (brings_back g.D.Slot g.T.Opened.opening g.T.Opened.outset.told g.T.Opened.first was c.take_hand-hand.new.place c.take_hand-hand.result c.seat.invariant c.take_hand-hand.ensures.takes
    c.args.job c.take_page-wrote.new.self c.take_page-wrote.ensures.returns c.give_hand.new.place c.give_hand.ensures.grown table)
