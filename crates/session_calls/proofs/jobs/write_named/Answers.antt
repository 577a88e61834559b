use Rattle.std.proofs.Common.{refl}
use Rattle.session_calls.specs.declared.hand.Hand.{Hand}
use Rattle.session_calls.specs.Flying.{HasRun}
use Rattle.session_calls.proofs.Written.{may_end, wrote, may_give_written}
use Rattle.session_calls.proofs.jobs.write_named.Goals as goal

pub finish_write-requires : goal.finish_write-requires
finish_write-requires g c = record {
  job =
      may_end g.D.Slot g.O.Opened.opening g.O.Opened.outset.told c.args.hand c.take-hand.result c.requires.may.whole (g.A.Access.seen c.give.new.place) (g.A.Access.seen c.take-hand.new.place) c.give.ensures.seen c.take-hand.ensures.taken
      c.args.job c.requires.can c.run.new.self c.run.ensures.rest c.run.ensures.len;
}

pub returns-clause-may : goal.returns-clause-may
returns-clause-may g c =
    let ran : HasRun g.D.Slot c.args.job c.run.new.self = record { rest = c.run.ensures.rest; len = c.run.ensures.len; held = c.run.ensures.held; tells = c.run.ensures.tells; stores = c.run.ensures.stores; strayed = c.run.ensures.strayed; faults = c.run.ensures.faults; never_falls = c.run.ensures.never_falls; failed = c.run.ensures.failed } in
    let new : Hand g.row.D.Denot = record { state = c.finish_write.new.self; trail = c.enter_write.new.trail; counts = c.take-hand.result.counts; session = c.take-hand.result.session; gone = c.take-hand.result.gone } in
    may_give_written g.D.Slot g.O.Opened.opening g.O.Opened.outset.told c.args.hand c.take-hand.result c.requires.may.whole (g.A.Access.seen c.give.new.place) (g.A.Access.seen c.take-hand.new.place) c.give.ensures.seen c.take-hand.ensures.taken
    c.args.job c.requires.can c.run.new.self ran new g.B.Before.sum c.requires.before c.finish_write.ensures.enters c.enter_write.ensures refl refl

pub returns-clause-wrote : goal.returns-clause-wrote
returns-clause-wrote g c =
    let ran : HasRun g.D.Slot c.args.job c.run.new.self = record { rest = c.run.ensures.rest; len = c.run.ensures.len; held = c.run.ensures.held; tells = c.run.ensures.tells; stores = c.run.ensures.stores; strayed = c.run.ensures.strayed; faults = c.run.ensures.faults; never_falls = c.run.ensures.never_falls; failed = c.run.ensures.failed } in
    let new : Hand g.row.D.Denot = record { state = c.finish_write.new.self; trail = c.enter_write.new.trail; counts = c.take-hand.result.counts; session = c.take-hand.result.session; gone = c.take-hand.result.gone } in
    wrote g.D.Slot g.O.Opened.opening g.O.Opened.outset.told c.args.hand c.take-hand.result c.requires.may.whole (g.A.Access.seen c.give.new.place) (g.A.Access.seen c.take-hand.new.place) c.give.ensures.seen c.take-hand.ensures.taken
    c.args.job c.requires.can c.run.new.self ran new g.B.Before.sum c.requires.before c.finish_write.ensures.enters c.enter_write.ensures refl refl
