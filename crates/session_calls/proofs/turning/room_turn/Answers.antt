use Rattle.std.proofs.Common.{◌≤◌, refl, sym, ap, subst}
use Rattle.pin_core.specs.calls.Turns.{amount_of}
use Rattle.pin_core.specs.declared.parts.Parts.{Parts}
use Rattle.session_calls.specs.declared.hand.Hand.{Hand}
use Rattle.session_calls.specs.Having.{IsAtWork}
use Rattle.session_calls.proofs.Alone.{all_worked, none_written}
use Rattle.session_calls.proofs.Knowing.{knows}
use Rattle.session_calls.proofs.Needed.{needs_none}
use Rattle.session_calls.proofs.Needs.{needs_waited}
use Rattle.session_calls.proofs.Turned.{can_write, may_write, wrote_one, works_on, needed_out, left_turn}
use Rattle.session_calls.proofs.turning.room_turn.Goals as goal

pub room_turn-requires-clause-client : goal.room_turn-requires-clause-client
room_turn-requires-clause-client g c = (knows g.D.Slot g.O.Opened.opening g.O.Opened.outset c.args.hand c.requires.at_work.ready).client c.args.c.now.tracker c.requires.client

pub room_turn-requires-clause-unused : goal.room_turn-requires-clause-unused
room_turn-requires-clause-unused g c =
    subst (λ n. amount_of c.args.want ≤ n) (sym ((knows g.D.Slot g.O.Opened.opening g.O.Opened.outset c.args.hand c.requires.at_work.ready).unused_is c.args.c.now.tracker c.requires.client)) c.requires.unused

pub write_out-requires-clause-may : goal.write_out-requires-clause-may
write_out-requires-clause-may g c =
    let went : Hand g.row.D.Denot = record { state = c.room_turn.new.self; trail = c.enter_started.new.trail; counts = c.count_write.new.counts; session = c.args.hand.session; gone = c.args.hand.gone } in
    may_write g.D.Slot g.O.Opened.opening g.O.Opened.outset (g.A.Access.seen c.args.place.now) c.args.hand c.requires.at_work c.args.c.now.tracker c.requires.client c.in-Write.job went c.in-Write.ensures.turn.1 c.in-Write.ensures.enters c.enter_started.ensures c.count_write.ensures refl

pub write_out-requires-clause-can : goal.write_out-requires-clause-can
write_out-requires-clause-can g c =
    let went : Hand g.row.D.Denot = record { state = c.room_turn.new.self; trail = c.enter_started.new.trail; counts = c.count_write.new.counts; session = c.args.hand.session; gone = c.args.hand.gone } in
    can_write g.D.Slot g.O.Opened.opening g.O.Opened.outset (g.A.Access.seen c.args.place.now) c.args.hand c.requires.at_work c.args.c.now.tracker c.requires.client c.in-Write.job went c.in-Write.ensures.turn.1 c.in-Write.ensures.enters c.enter_started.ensures c.count_write.ensures refl

pub wait-requires-clause-at_work : goal.wait-requires-clause-at_work
wait-requires-clause-at_work g c =
    subst (λ (v : Parts g.row.D.Denot). IsAtWork g.D.Slot g.O.Opened.opening g.O.Opened.outset (g.A.Access.seen c.args.place.now) (record c.args.hand { state = v })) (sym c.in-Wait.ensures.turn.2) c.requires.at_work

pub returns-in-Ready-clause-at_work : goal.returns-in-Ready-clause-at_work
returns-in-Ready-clause-at_work g c =
    subst (λ (v : Parts g.row.D.Denot). IsAtWork g.D.Slot g.O.Opened.opening g.O.Opened.outset (g.A.Access.seen c.args.place.now) (record c.args.hand { state = v })) (sym c.in-Ready.ensures.turn.1) c.requires.at_work

pub returns-in-Refused-clause-at_work : goal.returns-in-Refused-clause-at_work
returns-in-Refused-clause-at_work g c =
    subst (λ (v : Parts g.row.D.Denot). IsAtWork g.D.Slot g.O.Opened.opening g.O.Opened.outset (g.A.Access.seen c.args.place.now) (record c.args.hand { state = v })) (sym c.in-Refused.ensures.turn.1) c.requires.at_work

pub returns-in-Write-clause-at_work : goal.returns-in-Write-clause-at_work
returns-in-Write-clause-at_work g c =
    let went : Hand g.row.D.Denot = record { state = c.room_turn.new.self; trail = c.enter_started.new.trail; counts = c.count_write.new.counts; session = c.args.hand.session; gone = c.args.hand.gone } in
    works_on g.D.Slot g.O.Opened.opening g.O.Opened.outset (g.A.Access.seen c.args.place.now) c.args.hand c.requires.at_work c.args.c.now.tracker c.requires.client c.in-Write.job went c.in-Write.ensures.turn.1 c.in-Write.ensures.enters c.enter_started.ensures c.count_write.ensures refl
    (g.A.Access.seen c.write_out.new.place) c.write_out.result c.write_out.ensures.may c.write_out.ensures.wrote

pub returns-in-Write-clause-turn : goal.returns-in-Write-clause-turn
returns-in-Write-clause-turn g c =
    let went : Hand g.row.D.Denot = record { state = c.room_turn.new.self; trail = c.enter_started.new.trail; counts = c.count_write.new.counts; session = c.args.hand.session; gone = c.args.hand.gone } in (
      c.in-Write.ensures.turn.0,
      wrote_one g.D.Slot g.O.Opened.opening g.O.Opened.outset (g.A.Access.seen c.args.place.now) c.args.hand c.requires.at_work c.args.c.now.tracker c.requires.client c.in-Write.job went c.in-Write.ensures.turn.1 c.in-Write.ensures.enters c.enter_started.ensures c.count_write.ensures refl
          (g.A.Access.seen c.write_out.new.place) c.write_out.result c.write_out.ensures.may c.write_out.ensures.wrote,
    )

pub returns-in-Ready-clause-needed : goal.returns-in-Ready-clause-needed
returns-in-Ready-clause-needed g c =
    needs_none c.args.c.now.tracker (amount_of c.args.want) c.args.hand (record c.args.hand { state = c.room_turn.new.self })
    (ap (λ (v : Parts g.row.D.Denot). record c.args.hand { state = v }) c.in-Ready.ensures.turn.1)

pub returns-in-Ready-clause-further : goal.returns-in-Ready-clause-further
returns-in-Ready-clause-further g c = λ alone. tt

pub returns-in-Refused-clause-needed : goal.returns-in-Refused-clause-needed
returns-in-Refused-clause-needed g c =
    needs_none c.args.c.now.tracker (amount_of c.args.want) c.args.hand (record c.args.hand { state = c.room_turn.new.self })
    (ap (λ (v : Parts g.row.D.Denot). record c.args.hand { state = v }) c.in-Refused.ensures.turn.1)

pub returns-in-Refused-clause-further : goal.returns-in-Refused-clause-further
returns-in-Refused-clause-further g c = λ alone. tt

pub returns-in-Write-clause-needed : goal.returns-in-Write-clause-needed
returns-in-Write-clause-needed g c =
    let went : Hand g.row.D.Denot = record { state = c.room_turn.new.self; trail = c.enter_started.new.trail; counts = c.count_write.new.counts; session = c.args.hand.session; gone = c.args.hand.gone } in
    needed_out g.D.Slot g.O.Opened.opening g.O.Opened.outset (g.A.Access.seen c.args.place.now) c.args.hand c.requires.at_work c.args.c.now.tracker c.requires.client c.in-Write.job went c.in-Write.ensures.turn.1 c.in-Write.ensures.enters c.enter_started.ensures c.count_write.ensures refl
    (g.A.Access.seen c.write_out.new.place) c.write_out.result c.write_out.ensures.may c.write_out.ensures.wrote (amount_of c.args.want) c.in-Write.ensures.turn.0.full

pub returns-in-Write-clause-further : goal.returns-in-Write-clause-further
returns-in-Write-clause-further g c = λ alone.
    let went : Hand g.row.D.Denot = record { state = c.room_turn.new.self; trail = c.enter_started.new.trail; counts = c.count_write.new.counts; session = c.args.hand.session; gone = c.args.hand.gone } in
    left_turn g.D.Slot g.O.Opened.opening g.O.Opened.outset (g.A.Access.seen c.args.place.now) c.args.hand c.requires.at_work c.args.c.now.tracker c.requires.client c.in-Write.job went c.in-Write.ensures.turn.1 c.in-Write.ensures.enters c.enter_started.ensures c.count_write.ensures refl
    (g.A.Access.seen c.write_out.new.place) c.write_out.result c.write_out.ensures.may c.write_out.ensures.wrote
    (all_worked g.O.Opened.opening (g.A.Access.seen c.write_out.new.place) c.write_out.result c.write_out.ensures.may.worked
    (g.met.A.Access.sole g.O.Opened.opening g.O.Opened.outset c.args.access.now c.write_out.new.place c.write_out.result.session c.write_out.ensures.turns alone))
    c.in-Write.ensures.turn.0.failed

pub returns-in-Wait-clause-needed : goal.returns-in-Wait-clause-needed
returns-in-Wait-clause-needed g c =
    needs_waited c.args.c.now.tracker (amount_of c.args.want) g.D.Slot g.O.Opened.opening c.args.hand (record c.args.hand { state = c.room_turn.new.self }) c.wait.result
    (ap (λ (v : Parts g.row.D.Denot). record c.args.hand { state = v }) c.in-Wait.ensures.turn.2) c.requires.at_work.ready.whole.stands c.wait.ensures.at_work.ready.whole.stands c.wait.ensures.waited

pub returns-in-Wait-clause-further : goal.returns-in-Wait-clause-further
returns-in-Wait-clause-further g c = λ alone.
    absurd (none_written g.D.Slot g.O.Opened.opening g.O.Opened.outset c.args.hand c.requires.at_work.ready
    (all_worked g.O.Opened.opening (g.A.Access.seen c.args.place.now) c.args.hand c.requires.at_work.worked
    (g.met.A.Access.sole g.O.Opened.opening g.O.Opened.outset c.args.access.now c.args.place.now c.args.hand.session c.requires.turns alone))
    c.args.c.now.tracker c.in-Wait.ensures.turn.1)
