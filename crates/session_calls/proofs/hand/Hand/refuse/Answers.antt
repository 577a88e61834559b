use Rattle.std.proofs.Common.{refl}
use Rattle.session_calls.specs.declared.hand.Hand.{Hand}
use Rattle.session_calls.proofs.Asked.{acts_refused, ready_refused}
use Rattle.session_calls.proofs.hand.Hand.refuse.Goals as goal

pub refuse-requires : goal.refuse-requires
refuse-requires g c = record { may = record { opening = g.O.Opened.opening; history = c.args.self.now.trail; stands = c.requires.ready.whole.stands; may = c.requires.may } }

pub returns-clause-acts : goal.returns-clause-acts
returns-clause-acts g c =
    let new : Hand g.row.D.Denot = record { state = c.refuse.new.self; trail = c.enter.new.trail; counts = c.args.self.now.counts; session = c.args.self.now.session; gone = c.args.self.now.gone } in
    acts_refused g.D.Slot g.O.Opened.opening g.O.Opened.outset c.args.self.now new c.requires.ready c.args.call.now c.args.entry c.requires.may c.refuse.ensures.enters c.enter.ensures refl refl

pub returns-clause-ready : goal.returns-clause-ready
returns-clause-ready g c =
    let new : Hand g.row.D.Denot = record { state = c.refuse.new.self; trail = c.enter.new.trail; counts = c.args.self.now.counts; session = c.args.self.now.session; gone = c.args.self.now.gone } in
    ready_refused g.D.Slot g.O.Opened.opening g.O.Opened.outset c.args.self.now new c.requires.ready c.args.call.now c.args.entry c.requires.may c.refuse.ensures.enters c.enter.ensures refl refl
