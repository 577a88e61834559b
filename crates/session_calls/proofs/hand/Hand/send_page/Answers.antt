use Rattle.std.proofs.Common.{refl}
use Rattle.session_calls.specs.declared.hand.Hand.{Hand}
use Rattle.session_calls.proofs.Sent.{sends}
use Rattle.session_calls.proofs.hand.Hand.send_page.Goals as goal

pub returns-clause-sends : goal.returns-clause-sends
returns-clause-sends g c =
    let went : Hand g.row.D.Denot = record { state = c.start_write.new.self; trail = c.enter_started.new.trail; counts = c.count_write.new.counts; session = c.args.self.now.session; gone = c.args.self.now.gone } in
    sends g.D.Slot g.O.Opened.opening g.O.Opened.outset.told c.args.self.now went c.requires.whole c.in_ok-job.job.client c.in_ok-job.job c.in_ok-job.ensures.started
    c.in_ok-job.ensures.enters c.enter_started.ensures c.count_write.ensures refl
