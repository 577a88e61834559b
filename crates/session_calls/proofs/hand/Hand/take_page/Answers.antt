use Rattle.std.proofs.Common.{refl}
use Rattle.session_calls.specs.declared.hand.Hand.{Hand}
use Rattle.session_calls.proofs.Written.{returns}
use Rattle.session_calls.proofs.hand.Hand.take_page.Goals as goal

pub returns-clause-returns : goal.returns-clause-returns
returns-clause-returns g c =
    let new : Hand g.row.D.Denot = record { state = c.finish_write.new.self; trail = c.enter_end.new.trail; counts = c.args.self.now.counts; session = c.args.self.now.session; gone = c.args.self.now.gone } in
    returns g.D.Slot g.O.Opened.opening g.O.Opened.outset.told c.args.self.now new c.requires.whole c.args.job c.requires.back c.finish_write.ensures.enters c.enter_end.ensures refl refl
