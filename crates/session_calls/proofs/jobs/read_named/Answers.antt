use Rattle.std.proofs.Common.{refl, ap}
use Rattle.pin_core.specs.declared.parts.Parts.{Parts}
use Rattle.session_calls.specs.declared.hand.Hand.{Hand}
use Rattle.session_calls.proofs.Loaded.{still_reads, still_found, may_give_loaded, is_read, is_unread}
use Rattle.session_calls.proofs.jobs.read_named.Goals as goal

pub finish_read-requires : goal.finish_read-requires
finish_read-requires g c = record {
  job =
      still_reads g.D.Slot g.O.Opened.opening g.O.Opened.outset.told c.args.hand c.take-hand.result c.requires.may.whole (g.A.Access.seen c.give.new.place) (g.A.Access.seen c.take-hand.new.place) c.give.ensures.seen c.take-hand.ensures.taken
      c.args.job c.run.new.self c.requires.can c.run.ensures.rest c.run.ensures.bytes c.run.ensures.len;
  found = still_found c.args.job c.run.new.self c.run.ensures.rest c.run.ensures.len c.run.ensures.found;
}

pub returns-in-Ok-clause-may : goal.returns-in-Ok-clause-may
returns-in-Ok-clause-may g c =
    let new : Hand g.row.D.Denot = record { state = c.finish_read.new.self; trail = c.enter_load.new.trail; counts = c.take-hand.result.counts; session = c.take-hand.result.session; gone = c.take-hand.result.gone } in
    may_give_loaded g.D.Slot g.O.Opened.opening g.O.Opened.outset.told c.args.hand c.take-hand.result c.requires.may.whole (g.A.Access.seen c.give.new.place) (g.A.Access.seen c.take-hand.new.place) c.give.ensures.seen c.take-hand.ensures.taken
    c.args.job c.run.new.self c.requires.can c.run.ensures.rest c.run.ensures.bytes c.run.ensures.len new g.B.Before.sum c.requires.before c.run.ensures.held c.run.ensures.failed c.finish_read.ensures.enters c.enter_load.ensures refl refl
    c.run.ensures.tells c.run.ensures.never_falls c.run.ensures.faults c.run.ensures.stores c.run.ensures.strayed

pub returns-in-Err-clause-may : goal.returns-in-Err-clause-may
returns-in-Err-clause-may g c =
    let new : Hand g.row.D.Denot = record { state = c.finish_read.new.self; trail = c.enter_load.new.trail; counts = c.take-hand.result.counts; session = c.take-hand.result.session; gone = c.take-hand.result.gone } in
    may_give_loaded g.D.Slot g.O.Opened.opening g.O.Opened.outset.told c.args.hand c.take-hand.result c.requires.may.whole (g.A.Access.seen c.give.new.place) (g.A.Access.seen c.take-hand.new.place) c.give.ensures.seen c.take-hand.ensures.taken
    c.args.job c.run.new.self c.requires.can c.run.ensures.rest c.run.ensures.bytes c.run.ensures.len new g.B.Before.sum c.requires.before c.run.ensures.held c.run.ensures.failed c.finish_read.ensures.enters c.enter_load.ensures refl refl
    c.run.ensures.tells c.run.ensures.never_falls c.run.ensures.faults c.run.ensures.stores c.run.ensures.strayed

pub returns-in-Ok-clause-ok : goal.returns-in-Ok-clause-ok
returns-in-Ok-clause-ok g c =
    let new : Hand g.row.D.Denot = record { state = c.finish_read.new.self; trail = c.enter_load.new.trail; counts = c.take-hand.result.counts; session = c.take-hand.result.session; gone = c.take-hand.result.gone } in
    is_read g.D.Slot g.O.Opened.opening g.O.Opened.outset.told c.args.hand c.take-hand.result c.requires.may.whole (g.A.Access.seen c.give.new.place) (g.A.Access.seen c.take-hand.new.place) c.give.ensures.seen c.take-hand.ensures.taken
    c.args.job c.run.new.self c.requires.can c.run.ensures.rest c.run.ensures.bytes c.run.ensures.len new g.B.Before.sum c.requires.before c.run.ensures.held c.run.ensures.failed c.finish_read.ensures.enters c.enter_load.ensures refl refl
    c.run.ensures.strays c.run.ensures.shows c.finish_read.result c.in-Ok.buf c.in-Ok.is c.finish_read.ensures.ok c.finish_read.ensures.refused c.finish_read.ensures.content

pub returns-in-Err-clause-err : goal.returns-in-Err-clause-err
returns-in-Err-clause-err g c =
    let new : Hand g.row.D.Denot = record { state = c.finish_read.new.self; trail = c.enter_load.new.trail; counts = c.take-hand.result.counts; session = c.take-hand.result.session; gone = c.take-hand.result.gone } in
    is_unread g.D.Slot g.O.Opened.opening g.O.Opened.outset.told c.args.hand c.take-hand.result c.requires.may.whole (g.A.Access.seen c.give.new.place) (g.A.Access.seen c.take-hand.new.place) c.give.ensures.seen c.take-hand.ensures.taken
    c.args.job c.run.new.self c.requires.can c.run.ensures.rest c.run.ensures.bytes c.run.ensures.len new g.B.Before.sum c.requires.before c.run.ensures.held c.run.ensures.failed c.finish_read.ensures.enters c.enter_load.ensures refl refl
    c.run.ensures.found c.finish_read.result c.in-Err.err c.in-Err.is c.finish_read.ensures.refused c.finish_read.ensures.cause c.parts.result.now.entries (ap (λ (v : Parts g.row.D.Denot). v.entries) c.parts.ensures.parts)
