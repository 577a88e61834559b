use Rattle.std.proofs.Common.{refl}
use Rattle.session_calls.proofs.Loans.{loan_there}
use Rattle.session_calls.specs.declared.hand.Hand.{Hand}
use Rattle.session_calls.proofs.Knowing.{knows}
use Rattle.session_calls.proofs.Left.{freed}
use Rattle.session_calls.proofs.hand.Hand.free.Goals as goal

pub free-requires : goal.free-requires
free-requires g c = record { loan = loan_there (knows g.D.Slot g.O.Opened.opening g.O.Opened.outset c.args.self.now c.requires.ready) c.args.loan c.requires.loan }

pub returns-clause-acts : goal.returns-clause-acts
returns-clause-acts g c =
    let new : Hand g.row.D.Denot = record { state = c.free.new.self; trail = c.enter.new.trail; counts = c.args.self.now.counts; session = c.args.self.now.session; gone = c.args.self.now.gone } in
    (freed g.D.Slot g.O.Opened.opening g.O.Opened.outset c.args.self.now new c.requires.ready c.args.loan c.number-buffer.result c.requires.loan c.number-buffer.ensures c.enter.ensures refl refl c.free.ensures.enters).1

pub returns-clause-ready : goal.returns-clause-ready
returns-clause-ready g c =
    let new : Hand g.row.D.Denot = record { state = c.free.new.self; trail = c.enter.new.trail; counts = c.args.self.now.counts; session = c.args.self.now.session; gone = c.args.self.now.gone } in
    (freed g.D.Slot g.O.Opened.opening g.O.Opened.outset c.args.self.now new c.requires.ready c.args.loan c.number-buffer.result c.requires.loan c.number-buffer.ensures c.enter.ensures refl refl c.free.ensures.enters).0
