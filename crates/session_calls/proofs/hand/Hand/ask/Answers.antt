use Rattle.std.proofs.Common.{[], ◌∷◌, is_some, refl, ap}
use Rattle.pool_model.specs.declared.event.Event.TheVariants.{Ask}
use Rattle.session_calls.specs.declared.hand.Hand.{Hand}
use Rattle.session_calls.specs.Acting.{Goes, held_by}
use Rattle.session_calls.proofs.Knowing.{knows}
use Rattle.session_calls.proofs.Steps.{one_ready, one_acts}
use Rattle.session_calls.proofs.hand.Hand.ask.Goals as goal

pub ask-requires : goal.ask-requires
ask-requires g c = record { live = ap is_some (knows g.D.Slot g.O.Opened.opening g.O.Opened.outset c.args.self.now c.requires.ready).lives }

pub returns-clause-acts : goal.returns-clause-acts
returns-clause-acts g c =
    let new : Hand g.row.D.Denot = record { state = c.ask.new.self; trail = c.enter.new.trail; counts = c.args.self.now.counts; session = c.args.self.now.session; gone = c.args.self.now.gone } in
    let went : Goes g.D.Slot (Ask ∷ []) c.args.self.now new = record { trail = c.enter.ensures; session = refl; counts = refl; enters = c.ask.ensures.enters } in
    one_acts g.D.Slot g.O.Opened.opening g.O.Opened.outset c.args.self.now new c.requires.ready Ask went refl refl

pub returns-clause-ready : goal.returns-clause-ready
returns-clause-ready g c =
    let new : Hand g.row.D.Denot = record { state = c.ask.new.self; trail = c.enter.new.trail; counts = c.args.self.now.counts; session = c.args.self.now.session; gone = c.args.self.now.gone } in
    let went : Goes g.D.Slot (Ask ∷ []) c.args.self.now new = record { trail = c.enter.ensures; session = refl; counts = refl; enters = c.ask.ensures.enters } in
    one_ready g.D.Slot g.O.Opened.opening g.O.Opened.outset c.args.self.now new c.requires.ready Ask went refl refl (held_by g.O.Opened.opening g.O.Opened.outset c.args.self.now) refl c.requires.ready.rests.live c.requires.ready.rests.few
