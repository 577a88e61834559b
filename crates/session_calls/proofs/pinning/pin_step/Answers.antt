use Rattle.std.proofs.Common.{◌≡◌, ℕ, [], ◌∷◌, ◌++◌, None, refl, subst, inr}
use Rattle.pool_model.specs.declared.event.Event.TheVariants.{PinHere}
use Rattle.store_api.specs.Holdings.{page_len}
use Rattle.store_api.specs.Entries.{by}
use Rattle.session_calls.specs.declared.hand.Hand.{Hand}
use Rattle.session_calls.specs.Acting.{held_by}
use Rattle.session_calls.proofs.Alone.{all_worked}
use Rattle.session_calls.proofs.Did.{did_so}
use Rattle.session_calls.proofs.Ending.{same_hand, same_works}
use Rattle.session_calls.proofs.Pinned.{can_pin, client_lives, shows_here, stored_here, works_here, did_here, needed_here, lacks_here, starts_here, waited_here, waits_never}
use Rattle.session_calls.proofs.Needed.{needs_none}
use Rattle.session_calls.proofs.Needs.{needs_waited}
use Rattle.session_calls.proofs.Fetched.{can_read, load_entered, may_load_it, did_read, needed_read, works_read, shows_read, stored_read, did_unread, needed_unread, works_unread, bad_pin}
use Rattle.session_calls.proofs.Turned.{can_write, may_write, wrote_one, works_on, needed_out, left_turn}
use Rattle.session_calls.proofs.pinning.pin_step.Goals as goal

pub pin_turn-requires : goal.pin_turn-requires
pin_turn-requires g c = record { can = can_pin g.D.Slot g.O.Opened.opening g.O.Opened.outset (g.A.Access.seen c.args.place.now) c.args.hand c.requires.at_work c.args.p.now c.requires.can }

pub returns-in-Here-clause-at_work : goal.returns-in-Here-clause-at_work
returns-in-Here-clause-at_work g c =
    let hand : Hand g.row.D.Denot = c.args.hand in
    let new : Hand g.row.D.Denot = record { state = c.pin_turn.new.self; trail = c.enter.new.trail; counts = hand.counts; session = hand.session; gone = c.pin_turn.new.gone } in
    let entered : new.trail ≡ hand.trail ++ by hand.session (PinHere c.args.p.now.name ∷ []) = subst (λ (p : ℕ). new.trail ≡ hand.trail ++ by hand.session (PinHere p ∷ [])) c.name-page.ensures c.enter.ensures in
    works_here g.D.Slot g.O.Opened.opening g.O.Opened.outset (g.A.Access.seen c.args.place.now) hand c.requires.at_work c.args.p.now c.requires.can new entered refl refl c.in-Here.ensures.enters

pub returns-in-Here-clause-step : goal.returns-in-Here-clause-step
returns-in-Here-clause-step g c =
    let hand : Hand g.row.D.Denot = c.args.hand in
    let new : Hand g.row.D.Denot = record { state = c.pin_turn.new.self; trail = c.enter.new.trail; counts = hand.counts; session = hand.session; gone = c.pin_turn.new.gone } in
    let entered : new.trail ≡ hand.trail ++ by hand.session (PinHere c.args.p.now.name ∷ []) = subst (λ (p : ℕ). new.trail ≡ hand.trail ++ by hand.session (PinHere p ∷ [])) c.name-page.ensures c.enter.ensures in (
      did_here g.D.Slot g.O.Opened.opening g.O.Opened.outset (g.A.Access.seen c.args.place.now) hand c.requires.at_work c.args.p.now c.requires.can new entered refl refl c.in-Here.ensures.enters,
      shows_here g.D.Slot g.O.Opened.opening g.O.Opened.outset (g.A.Access.seen c.args.place.now) hand c.requires.at_work c.args.p.now c.requires.can c.in-Here.buf c.in-Here.ensures.turn.1,
      stored_here g.D.Slot g.O.Opened.opening g.O.Opened.outset (g.A.Access.seen c.args.place.now) hand c.requires.at_work c.args.p.now c.requires.can c.in-Here.buf c.in-Here.ensures.turn.1 new.trail,
    )

pub read_back-hand-requires-clause-may : goal.read_back-hand-requires-clause-may
read_back-hand-requires-clause-may g c =
    let went : Hand g.row.D.Denot = record { state = c.pin_turn.new.self; trail = c.enter_begun.new.trail; counts = c.count_read.new.counts; session = c.args.hand.session; gone = c.pin_turn.new.gone } in
    may_load_it g.D.Slot g.O.Opened.opening g.O.Opened.outset (g.A.Access.seen c.args.place.now) c.args.hand c.requires.at_work c.args.p.now c.requires.can c.in-Load.job went c.in-Load.ensures.turn.2 c.in-Load.ensures.enters (load_entered c.args.hand c.args.p.now.name c.name.result c.pin_turn.new.gone c.enter_begun.new.trail c.name.ensures c.in-Load.ensures.gone c.enter_begun.ensures) c.count_read.ensures refl

pub read_back-hand-requires-clause-can : goal.read_back-hand-requires-clause-can
read_back-hand-requires-clause-can g c =
    let went : Hand g.row.D.Denot = record { state = c.pin_turn.new.self; trail = c.enter_begun.new.trail; counts = c.count_read.new.counts; session = c.args.hand.session; gone = c.pin_turn.new.gone } in
    can_read g.D.Slot g.O.Opened.opening g.O.Opened.outset (g.A.Access.seen c.args.place.now) c.args.hand c.requires.at_work c.args.p.now c.requires.can c.in-Load.job went c.in-Load.ensures.turn.2 c.in-Load.ensures.enters (load_entered c.args.hand c.args.p.now.name c.name.result c.pin_turn.new.gone c.enter_begun.new.trail c.name.ensures c.in-Load.ensures.gone c.enter_begun.ensures) c.count_read.ensures refl

pub returns-in-Ok-clause-at_work : goal.returns-in-Ok-clause-at_work
returns-in-Ok-clause-at_work g c =
    let went : Hand g.row.D.Denot = record { state = c.pin_turn.new.self; trail = c.enter_begun.new.trail; counts = c.count_read.new.counts; session = c.args.hand.session; gone = c.pin_turn.new.gone } in
    works_read g.D.Slot g.O.Opened.opening g.O.Opened.outset (g.A.Access.seen c.args.place.now) c.args.hand c.requires.at_work c.args.p.now c.requires.can c.in-Load.job went c.in-Load.ensures.turn.2 c.in-Load.ensures.enters (load_entered c.args.hand c.args.p.now.name c.name.result c.pin_turn.new.gone c.enter_begun.new.trail c.name.ensures c.in-Load.ensures.gone c.enter_begun.ensures) c.count_read.ensures refl (g.A.Access.seen c.read_back-hand.new.place) c.read_back-hand.result.0 c.read_back-hand.ensures.may c.read_back-hand.result.1 c.read_back-hand.ensures.ok c.in-Ok.buf c.in-Ok.is

pub returns-in-Ok-clause-step : goal.returns-in-Ok-clause-step
returns-in-Ok-clause-step g c =
    let went : Hand g.row.D.Denot = record { state = c.pin_turn.new.self; trail = c.enter_begun.new.trail; counts = c.count_read.new.counts; session = c.args.hand.session; gone = c.pin_turn.new.gone } in (
      did_read g.D.Slot g.O.Opened.opening g.O.Opened.outset (g.A.Access.seen c.args.place.now) c.args.hand c.requires.at_work c.args.p.now c.requires.can c.in-Load.job went c.in-Load.ensures.turn.2 c.in-Load.ensures.enters (load_entered c.args.hand c.args.p.now.name c.name.result c.pin_turn.new.gone c.enter_begun.new.trail c.name.ensures c.in-Load.ensures.gone c.enter_begun.ensures) c.count_read.ensures refl (g.A.Access.seen c.read_back-hand.new.place) c.read_back-hand.result.0 c.read_back-hand.ensures.may c.read_back-hand.result.1 c.read_back-hand.ensures.ok c.in-Ok.buf c.in-Ok.is,
      shows_read g.D.Slot g.O.Opened.opening g.O.Opened.outset (g.A.Access.seen c.args.place.now) c.args.hand c.requires.at_work c.args.p.now c.requires.can c.in-Load.job went c.in-Load.ensures.turn.2 c.in-Load.ensures.enters (load_entered c.args.hand c.args.p.now.name c.name.result c.pin_turn.new.gone c.enter_begun.new.trail c.name.ensures c.in-Load.ensures.gone c.enter_begun.ensures) c.count_read.ensures refl (g.A.Access.seen c.read_back-hand.new.place) c.read_back-hand.result.0 c.read_back-hand.ensures.may c.read_back-hand.result.1 c.read_back-hand.ensures.ok c.in-Ok.buf c.in-Ok.is,
      stored_read g.D.Slot g.O.Opened.opening g.O.Opened.outset (g.A.Access.seen c.args.place.now) c.args.hand c.requires.at_work c.args.p.now c.requires.can c.in-Load.job went c.in-Load.ensures.turn.2 c.in-Load.ensures.enters (load_entered c.args.hand c.args.p.now.name c.name.result c.pin_turn.new.gone c.enter_begun.new.trail c.name.ensures c.in-Load.ensures.gone c.enter_begun.ensures) c.count_read.ensures refl (g.A.Access.seen c.read_back-hand.new.place) c.read_back-hand.result.0 c.read_back-hand.ensures.may c.read_back-hand.result.1 c.read_back-hand.ensures.ok c.in-Ok.buf c.in-Ok.is,
    )

pub returns-in-Err-clause-at_work : goal.returns-in-Err-clause-at_work
returns-in-Err-clause-at_work g c =
    let went : Hand g.row.D.Denot = record { state = c.pin_turn.new.self; trail = c.enter_begun.new.trail; counts = c.count_read.new.counts; session = c.args.hand.session; gone = c.pin_turn.new.gone } in
    works_unread g.D.Slot g.O.Opened.opening g.O.Opened.outset (g.A.Access.seen c.args.place.now) c.args.hand c.requires.at_work c.args.p.now c.requires.can c.in-Load.job went c.in-Load.ensures.turn.2 c.in-Load.ensures.enters (load_entered c.args.hand c.args.p.now.name c.name.result c.pin_turn.new.gone c.enter_begun.new.trail c.name.ensures c.in-Load.ensures.gone c.enter_begun.ensures) c.count_read.ensures refl (g.A.Access.seen c.read_back-hand.new.place) c.read_back-hand.result.0 c.read_back-hand.ensures.may c.read_back-hand.result.1 c.read_back-hand.ensures.err c.in-Err.unread c.in-Err.is

pub returns-in-Err-clause-step : goal.returns-in-Err-clause-step
returns-in-Err-clause-step g c =
    let went : Hand g.row.D.Denot = record { state = c.pin_turn.new.self; trail = c.enter_begun.new.trail; counts = c.count_read.new.counts; session = c.args.hand.session; gone = c.pin_turn.new.gone } in (
      bad_pin g.D.Slot g.O.Opened.opening g.O.Opened.outset (g.A.Access.seen c.args.place.now) c.args.hand c.requires.at_work c.args.p.now c.requires.can c.in-Load.job went c.in-Load.ensures.turn.2 c.in-Load.ensures.enters (load_entered c.args.hand c.args.p.now.name c.name.result c.pin_turn.new.gone c.enter_begun.new.trail c.name.ensures c.in-Load.ensures.gone c.enter_begun.ensures) c.count_read.ensures refl (g.A.Access.seen c.read_back-hand.new.place) c.read_back-hand.result.0 c.read_back-hand.ensures.may c.read_back-hand.result.1 c.read_back-hand.ensures.err c.in-Err.unread c.in-Err.is c.requires.asked,
      did_unread g.D.Slot g.O.Opened.opening g.O.Opened.outset (g.A.Access.seen c.args.place.now) c.args.hand c.requires.at_work c.args.p.now c.requires.can c.in-Load.job went c.in-Load.ensures.turn.2 c.in-Load.ensures.enters (load_entered c.args.hand c.args.p.now.name c.name.result c.pin_turn.new.gone c.enter_begun.new.trail c.name.ensures c.in-Load.ensures.gone c.enter_begun.ensures) c.count_read.ensures refl (g.A.Access.seen c.read_back-hand.new.place) c.read_back-hand.result.0 c.read_back-hand.ensures.may c.read_back-hand.result.1 c.read_back-hand.ensures.err c.in-Err.unread c.in-Err.is,
    )

pub returns-in-Refused-clause-at_work : goal.returns-in-Refused-clause-at_work
returns-in-Refused-clause-at_work g c = same_works g.D.Slot g.O.Opened.opening g.O.Opened.outset (g.A.Access.seen c.args.place.now) c.args.hand c.pin_turn.new.self c.pin_turn.new.gone c.requires.at_work c.in-Refused.ensures.turn.1 c.in-Refused.ensures.gone

pub returns-in-Refused-clause-step : goal.returns-in-Refused-clause-step
returns-in-Refused-clause-step g c = (c.in-Refused.ensures.turn.0, same_hand c.args.hand c.pin_turn.new.self c.pin_turn.new.gone c.in-Refused.ensures.turn.1 c.in-Refused.ensures.gone)

pub write_out-requires-clause-may : goal.write_out-requires-clause-may
write_out-requires-clause-may g c =
    let went : Hand g.row.D.Denot = record { state = c.pin_turn.new.self; trail = c.enter_started.new.trail; counts = c.count_write.new.counts; session = c.args.hand.session; gone = c.pin_turn.new.gone } in
    may_write g.D.Slot g.O.Opened.opening g.O.Opened.outset (g.A.Access.seen c.args.place.now) c.args.hand c.requires.at_work c.args.p.now.client
    (client_lives g.D.Slot g.O.Opened.opening g.O.Opened.outset (g.A.Access.seen c.args.place.now) c.args.hand c.requires.at_work c.args.p.now c.requires.can) c.in-Write.job went
    (starts_here g.D.Slot g.O.Opened.opening g.O.Opened.outset (g.A.Access.seen c.args.place.now) c.args.hand c.requires.at_work c.args.p.now c.requires.can c.in-Write.job c.pin_turn.new.self c.in-Write.ensures.turn.1)
    c.in-Write.ensures.enters c.enter_started.ensures c.count_write.ensures refl

pub write_out-requires-clause-can : goal.write_out-requires-clause-can
write_out-requires-clause-can g c =
    let went : Hand g.row.D.Denot = record { state = c.pin_turn.new.self; trail = c.enter_started.new.trail; counts = c.count_write.new.counts; session = c.args.hand.session; gone = c.pin_turn.new.gone } in
    can_write g.D.Slot g.O.Opened.opening g.O.Opened.outset (g.A.Access.seen c.args.place.now) c.args.hand c.requires.at_work c.args.p.now.client
    (client_lives g.D.Slot g.O.Opened.opening g.O.Opened.outset (g.A.Access.seen c.args.place.now) c.args.hand c.requires.at_work c.args.p.now c.requires.can) c.in-Write.job went
    (starts_here g.D.Slot g.O.Opened.opening g.O.Opened.outset (g.A.Access.seen c.args.place.now) c.args.hand c.requires.at_work c.args.p.now c.requires.can c.in-Write.job c.pin_turn.new.self c.in-Write.ensures.turn.1)
    c.in-Write.ensures.enters c.enter_started.ensures c.count_write.ensures refl

pub returns-in-Write-clause-at_work : goal.returns-in-Write-clause-at_work
returns-in-Write-clause-at_work g c =
    let went : Hand g.row.D.Denot = record { state = c.pin_turn.new.self; trail = c.enter_started.new.trail; counts = c.count_write.new.counts; session = c.args.hand.session; gone = c.pin_turn.new.gone } in
    works_on g.D.Slot g.O.Opened.opening g.O.Opened.outset (g.A.Access.seen c.args.place.now) c.args.hand c.requires.at_work c.args.p.now.client
    (client_lives g.D.Slot g.O.Opened.opening g.O.Opened.outset (g.A.Access.seen c.args.place.now) c.args.hand c.requires.at_work c.args.p.now c.requires.can) c.in-Write.job went
    (starts_here g.D.Slot g.O.Opened.opening g.O.Opened.outset (g.A.Access.seen c.args.place.now) c.args.hand c.requires.at_work c.args.p.now c.requires.can c.in-Write.job c.pin_turn.new.self c.in-Write.ensures.turn.1)
    c.in-Write.ensures.enters c.enter_started.ensures c.count_write.ensures refl (g.A.Access.seen c.write_out.new.place) c.write_out.result c.write_out.ensures.may c.write_out.ensures.wrote

pub returns-in-Write-clause-step : goal.returns-in-Write-clause-step
returns-in-Write-clause-step g c =
    let went : Hand g.row.D.Denot = record { state = c.pin_turn.new.self; trail = c.enter_started.new.trail; counts = c.count_write.new.counts; session = c.args.hand.session; gone = c.pin_turn.new.gone } in
    let wrote = wrote_one g.D.Slot g.O.Opened.opening g.O.Opened.outset (g.A.Access.seen c.args.place.now) c.args.hand c.requires.at_work c.args.p.now.client
    (client_lives g.D.Slot g.O.Opened.opening g.O.Opened.outset (g.A.Access.seen c.args.place.now) c.args.hand c.requires.at_work c.args.p.now c.requires.can) c.in-Write.job went
    (starts_here g.D.Slot g.O.Opened.opening g.O.Opened.outset (g.A.Access.seen c.args.place.now) c.args.hand c.requires.at_work c.args.p.now c.requires.can c.in-Write.job c.pin_turn.new.self c.in-Write.ensures.turn.1)
    c.in-Write.ensures.enters c.enter_started.ensures c.count_write.ensures refl (g.A.Access.seen c.write_out.new.place) c.write_out.result c.write_out.ensures.may c.write_out.ensures.wrote in
    did_so c.args.hand c.write_out.result wrote (inr wrote.does.is)

pub wait-requires-clause-at_work : goal.wait-requires-clause-at_work
wait-requires-clause-at_work g c = same_works g.D.Slot g.O.Opened.opening g.O.Opened.outset (g.A.Access.seen c.args.place.now) c.args.hand c.pin_turn.new.self c.pin_turn.new.gone c.requires.at_work c.in-Wait.ensures.turn.1 c.in-Wait.ensures.gone

pub returns-in-Wait-clause-step : goal.returns-in-Wait-clause-step
returns-in-Wait-clause-step g c = waited_here c.args.hand c.wait.result c.pin_turn.new.self c.pin_turn.new.gone c.wait.ensures.waited

pub returns-in-Here-clause-needed : goal.returns-in-Here-clause-needed
returns-in-Here-clause-needed g c =
    let hand : Hand g.row.D.Denot = c.args.hand in
    let new : Hand g.row.D.Denot = record { state = c.pin_turn.new.self; trail = c.enter.new.trail; counts = hand.counts; session = hand.session; gone = c.pin_turn.new.gone } in
    let entered : new.trail ≡ hand.trail ++ by hand.session (PinHere c.args.p.now.name ∷ []) = subst (λ (p : ℕ). new.trail ≡ hand.trail ++ by hand.session (PinHere p ∷ [])) c.name-page.ensures c.enter.ensures in
    needed_here g.D.Slot g.O.Opened.opening g.O.Opened.outset (g.A.Access.seen c.args.place.now) hand c.requires.at_work c.args.p.now c.requires.can new entered refl refl c.in-Here.ensures.enters

pub returns-in-Here-clause-further : goal.returns-in-Here-clause-further
returns-in-Here-clause-further g c = λ alone. tt

pub returns-in-Ok-clause-needed : goal.returns-in-Ok-clause-needed
returns-in-Ok-clause-needed g c =
    let went : Hand g.row.D.Denot = record { state = c.pin_turn.new.self; trail = c.enter_begun.new.trail; counts = c.count_read.new.counts; session = c.args.hand.session; gone = c.pin_turn.new.gone } in
    needed_read g.D.Slot g.O.Opened.opening g.O.Opened.outset (g.A.Access.seen c.args.place.now) c.args.hand c.requires.at_work c.args.p.now c.requires.can c.in-Load.job went c.in-Load.ensures.turn.2 c.in-Load.ensures.enters (load_entered c.args.hand c.args.p.now.name c.name.result c.pin_turn.new.gone c.enter_begun.new.trail c.name.ensures c.in-Load.ensures.gone c.enter_begun.ensures) c.count_read.ensures refl (g.A.Access.seen c.read_back-hand.new.place) c.read_back-hand.result.0 c.read_back-hand.ensures.may c.read_back-hand.result.1 c.read_back-hand.ensures.ok c.in-Ok.buf c.in-Ok.is

pub returns-in-Ok-clause-further : goal.returns-in-Ok-clause-further
returns-in-Ok-clause-further g c = λ alone. tt

pub returns-in-Err-clause-needed : goal.returns-in-Err-clause-needed
returns-in-Err-clause-needed g c =
    let went : Hand g.row.D.Denot = record { state = c.pin_turn.new.self; trail = c.enter_begun.new.trail; counts = c.count_read.new.counts; session = c.args.hand.session; gone = c.pin_turn.new.gone } in
    needed_unread g.D.Slot g.O.Opened.opening g.O.Opened.outset (g.A.Access.seen c.args.place.now) c.args.hand c.requires.at_work c.args.p.now c.requires.can c.in-Load.job went c.in-Load.ensures.turn.2 c.in-Load.ensures.enters (load_entered c.args.hand c.args.p.now.name c.name.result c.pin_turn.new.gone c.enter_begun.new.trail c.name.ensures c.in-Load.ensures.gone c.enter_begun.ensures) c.count_read.ensures refl (g.A.Access.seen c.read_back-hand.new.place) c.read_back-hand.result.0 c.read_back-hand.ensures.may c.read_back-hand.result.1 c.read_back-hand.ensures.err c.in-Err.unread c.in-Err.is

pub returns-in-Err-clause-further : goal.returns-in-Err-clause-further
returns-in-Err-clause-further g c = λ alone. tt

pub returns-in-Refused-clause-needed : goal.returns-in-Refused-clause-needed
returns-in-Refused-clause-needed g c =
    needs_none c.args.p.now.client (page_len c.args.p.now.name (held_by g.O.Opened.opening g.O.Opened.outset c.args.hand)) c.args.hand (record c.args.hand { state = c.pin_turn.new.self; gone = c.pin_turn.new.gone })
    (same_hand c.args.hand c.pin_turn.new.self c.pin_turn.new.gone c.in-Refused.ensures.turn.1 c.in-Refused.ensures.gone)

pub returns-in-Refused-clause-further : goal.returns-in-Refused-clause-further
returns-in-Refused-clause-further g c = λ alone. tt

pub returns-in-Write-clause-needed : goal.returns-in-Write-clause-needed
returns-in-Write-clause-needed g c =
    let went : Hand g.row.D.Denot = record { state = c.pin_turn.new.self; trail = c.enter_started.new.trail; counts = c.count_write.new.counts; session = c.args.hand.session; gone = c.pin_turn.new.gone } in
    needed_out g.D.Slot g.O.Opened.opening g.O.Opened.outset (g.A.Access.seen c.args.place.now) c.args.hand c.requires.at_work c.args.p.now.client
    (client_lives g.D.Slot g.O.Opened.opening g.O.Opened.outset (g.A.Access.seen c.args.place.now) c.args.hand c.requires.at_work c.args.p.now c.requires.can) c.in-Write.job went
    (starts_here g.D.Slot g.O.Opened.opening g.O.Opened.outset (g.A.Access.seen c.args.place.now) c.args.hand c.requires.at_work c.args.p.now c.requires.can c.in-Write.job c.pin_turn.new.self c.in-Write.ensures.turn.1)
    c.in-Write.ensures.enters c.enter_started.ensures c.count_write.ensures refl (g.A.Access.seen c.write_out.new.place) c.write_out.result c.write_out.ensures.may c.write_out.ensures.wrote
    (page_len c.args.p.now.name (held_by g.O.Opened.opening g.O.Opened.outset c.args.hand)) (lacks_here g.D.Slot g.O.Opened.opening g.O.Opened.outset (g.A.Access.seen c.args.place.now) c.args.hand c.requires.at_work c.args.p.now c.requires.can None c.in-Write.ensures.turn.0).full

pub returns-in-Write-clause-further : goal.returns-in-Write-clause-further
returns-in-Write-clause-further g c = λ alone.
    let went : Hand g.row.D.Denot = record { state = c.pin_turn.new.self; trail = c.enter_started.new.trail; counts = c.count_write.new.counts; session = c.args.hand.session; gone = c.pin_turn.new.gone } in
    left_turn g.D.Slot g.O.Opened.opening g.O.Opened.outset (g.A.Access.seen c.args.place.now) c.args.hand c.requires.at_work c.args.p.now.client
    (client_lives g.D.Slot g.O.Opened.opening g.O.Opened.outset (g.A.Access.seen c.args.place.now) c.args.hand c.requires.at_work c.args.p.now c.requires.can) c.in-Write.job went
    (starts_here g.D.Slot g.O.Opened.opening g.O.Opened.outset (g.A.Access.seen c.args.place.now) c.args.hand c.requires.at_work c.args.p.now c.requires.can c.in-Write.job c.pin_turn.new.self c.in-Write.ensures.turn.1)
    c.in-Write.ensures.enters c.enter_started.ensures c.count_write.ensures refl (g.A.Access.seen c.write_out.new.place) c.write_out.result c.write_out.ensures.may c.write_out.ensures.wrote
    (all_worked g.O.Opened.opening (g.A.Access.seen c.write_out.new.place) c.write_out.result c.write_out.ensures.may.worked
    (g.met.A.Access.sole g.O.Opened.opening g.O.Opened.outset c.args.access.now c.write_out.new.place c.write_out.result.session c.write_out.ensures.turns alone))
    (lacks_here g.D.Slot g.O.Opened.opening g.O.Opened.outset (g.A.Access.seen c.args.place.now) c.args.hand c.requires.at_work c.args.p.now c.requires.can None c.in-Write.ensures.turn.0).failed

pub returns-in-Wait-clause-needed : goal.returns-in-Wait-clause-needed
returns-in-Wait-clause-needed g c =
    needs_waited c.args.p.now.client (page_len c.args.p.now.name (held_by g.O.Opened.opening g.O.Opened.outset c.args.hand)) g.D.Slot g.O.Opened.opening c.args.hand (record c.args.hand { state = c.pin_turn.new.self; gone = c.pin_turn.new.gone }) c.wait.result
    (same_hand c.args.hand c.pin_turn.new.self c.pin_turn.new.gone c.in-Wait.ensures.turn.1 c.in-Wait.ensures.gone) c.requires.at_work.ready.whole.stands c.wait.ensures.at_work.ready.whole.stands c.wait.ensures.waited

pub returns-in-Wait-clause-further : goal.returns-in-Wait-clause-further
returns-in-Wait-clause-further g c = λ alone.
    absurd (waits_never g.D.Slot g.O.Opened.opening g.O.Opened.outset (g.A.Access.seen c.args.place.now) c.args.hand c.requires.at_work c.args.p.now c.requires.can
    (all_worked g.O.Opened.opening (g.A.Access.seen c.args.place.now) c.args.hand c.requires.at_work.worked
    (g.met.A.Access.sole g.O.Opened.opening g.O.Opened.outset c.args.access.now c.args.place.now c.args.hand.session c.requires.turns alone))
    c.in-Wait.ensures.turn.0)
