use Rattle.std.proofs.Common.{sym, subst}
use Rattle.pool_model.specs.declared.call.Call.TheVariants.{Pin}
use Rattle.pool_model.specs.declared.event.Event.TheVariants.{Ask}
use Rattle.store_api.specs.Holdings.{page_len}
use Rattle.pin_core.specs.StateOf.{state_of}
use Rattle.session_calls.specs.Writing.{writes_left}
use Rattle.session_calls.specs.Acting.{held_by}
use Rattle.session_calls.proofs.Asked.{works_with, asked_first}
use Rattle.session_calls.proofs.Needs.{needs_step}
use Rattle.session_calls.proofs.PinMade.{needs_turn, needs_refused, further_wrote, stays, can_now, asked_now, asks_more, asked_pin, shows_pin, stored_pin, may_refuse_lacking, was_lacking, was_unread}
use Rattle.session_calls.proofs.Rounds.{goes_down}
use Rattle.session_calls.proofs.pinning.pin.Goals as goal

pub loop-buf-init : goal.loop-buf-init
loop-buf-init g c = (
  subst (g.A.Access.turns g.O.Opened.opening g.O.Opened.outset c.args.access.now c.args.place.now) (sym c.ask.ensures.acts.session) c.requires.turns,
  works_with g.D.Slot g.O.Opened.opening g.O.Opened.outset (g.A.Access.seen c.args.place.now) c.args.hand c.ask.new.self c.requires.at_work c.ask.ensures.acts c.ask.ensures.ready,
  asked_first g.O.Opened.opening g.O.Opened.outset c.args.p.now.client c.args.hand c.ask.new.self c.ask.ensures.acts,
  needs_step c.args.p.now.client (page_len c.args.p.now.name (held_by g.O.Opened.opening g.O.Opened.outset c.args.hand)) g.D.Slot g.O.Opened.opening c.args.hand c.ask.new.self c.requires.at_work.ready.whole.stands c.ask.ensures.ready.whole.stands Ask (λ s. tt) c.ask.ensures.acts,
)

pub pin_step-now-requires-clause-can : goal.pin_step-now-requires-clause-can
pin_step-now-requires-clause-can g c = can_now g.D.Slot g.O.Opened.opening g.O.Opened.outset c.args.p.now c.args.hand c.loop-buf.hand c.loop-buf.invariant.2 c.loop-buf.invariant.1.ready c.requires.can

pub pin_step-now-requires-clause-asked : goal.pin_step-now-requires-clause-asked
pin_step-now-requires-clause-asked g c = asked_now g.D.Slot g.O.Opened.opening g.O.Opened.outset c.args.p.now c.args.hand c.loop-buf.hand c.loop-buf.invariant.2 c.loop-buf.invariant.1.ready c.requires.can

pub returns-in-Pinned-clause-pins : goal.returns-in-Pinned-clause-pins
returns-in-Pinned-clause-pins g c = record {
  ok = asked_pin g.D.Slot g.O.Opened.opening g.O.Opened.outset c.args.p.now c.args.hand c.loop-buf.hand c.loop-buf.invariant.2 c.loop-buf.invariant.1.ready c.requires.can c.pin_step-now.result.0 c.pin_step-now.result.1 c.pin_step-now.ensures.step c.in-Pinned.buf c.in-Pinned.is;
  bytes = shows_pin g.D.Slot g.O.Opened.opening g.O.Opened.outset c.args.p.now c.args.hand c.loop-buf.hand c.loop-buf.invariant.2 c.loop-buf.invariant.1.ready c.requires.can c.pin_step-now.result.0 c.pin_step-now.result.1 c.pin_step-now.ensures.step c.in-Pinned.buf c.in-Pinned.is;
  stored = stored_pin g.D.Slot g.O.Opened.opening g.O.Opened.outset c.args.p.now c.args.hand c.loop-buf.hand c.loop-buf.invariant.2 c.loop-buf.invariant.1.ready c.requires.can c.pin_step-now.result.0 c.pin_step-now.result.1 c.pin_step-now.ensures.step c.in-Pinned.buf c.in-Pinned.is;
  err = tt;
}

pub refuse-requires-clause-may : goal.refuse-requires-clause-may
refuse-requires-clause-may g c = may_refuse_lacking g.D.Slot g.O.Opened.opening g.O.Opened.outset c.args.p.now c.args.hand c.loop-buf.hand c.loop-buf.invariant.2 c.loop-buf.invariant.1.ready c.requires.can c.pin_step-now.result.0 c.pin_step-now.result.1 c.pin_step-now.ensures.step c.in-Refused.entry c.in-Refused.is c.name.result c.name.ensures

pub returns-in-Refused-clause-at_work : goal.returns-in-Refused-clause-at_work
returns-in-Refused-clause-at_work g c =
    works_with g.D.Slot g.O.Opened.opening g.O.Opened.outset (g.A.Access.seen c.pin_step-now.new.place) c.pin_step-now.result.0 c.refuse.new.self c.pin_step-now.ensures.at_work c.refuse.ensures.acts c.refuse.ensures.ready

pub returns-in-Refused-clause-pins : goal.returns-in-Refused-clause-pins
returns-in-Refused-clause-pins g c = record {
  ok = tt;
  bytes = tt;
  stored = tt;
  err =
      was_lacking g.D.Slot g.O.Opened.opening g.O.Opened.outset c.args.p.now c.args.hand c.loop-buf.hand c.loop-buf.invariant.2 c.loop-buf.invariant.1.ready c.requires.can c.pin_step-now.result.0 c.pin_step-now.result.1 c.pin_step-now.ensures.step c.in-Refused.entry c.in-Refused.is c.name.result c.name.ensures c.refuse.new.self c.refuse.ensures.acts;
}

pub returns-in-Unread-clause-at_work : goal.returns-in-Unread-clause-at_work
returns-in-Unread-clause-at_work g c =
    works_with g.D.Slot g.O.Opened.opening g.O.Opened.outset (g.A.Access.seen c.pin_step-now.new.place) c.pin_step-now.result.0 c.refuse-in-Unread.new.self c.pin_step-now.ensures.at_work c.refuse-in-Unread.ensures.acts c.refuse-in-Unread.ensures.ready

pub returns-in-Unread-clause-pins : goal.returns-in-Unread-clause-pins
returns-in-Unread-clause-pins g c = record {
  ok = tt;
  bytes = tt;
  stored = tt;
  err =
      was_unread g.D.Slot g.O.Opened.opening g.O.Opened.outset c.args.p.now c.args.hand c.loop-buf.hand c.loop-buf.invariant.2 c.loop-buf.invariant.1.ready c.requires.can c.pin_step-now.result.0 c.pin_step-now.result.1 c.pin_step-now.ensures.step c.in-Unread.unread c.in-Unread.is c.name.result c.name.ensures c.refuse-in-Unread.new.self c.refuse-in-Unread.ensures.acts;
}

pub loop-buf-preserved : goal.loop-buf-preserved
loop-buf-preserved g c = (
  c.pin_step-now.ensures.turns,
  c.pin_step-now.ensures.at_work,
  asks_more g.D.Slot g.O.Opened.opening g.O.Opened.outset c.args.p.now c.args.hand c.loop-buf.hand c.loop-buf.invariant.2 c.loop-buf.invariant.1.ready c.requires.can c.pin_step-now.result.0 c.pin_step-now.result.1 c.pin_step-now.ensures.step c.in-Wrote.is,
  needs_turn g.D.Slot g.O.Opened.opening g.O.Opened.outset c.args.p.now c.args.hand c.loop-buf.hand c.loop-buf.invariant.2 c.loop-buf.invariant.1.ready c.requires.can c.pin_step-now.result.0 c.loop-buf.invariant.3 c.pin_step-now.ensures.needed,
)

pub loop-buf-smaller : goal.loop-buf-smaller
loop-buf-smaller g c =
    goes_down g.A.Access.alone (writes_left c.pin_step-now.result.0.session c.args.p.now.client (state_of c.pin_step-now.result.0.state)) (writes_left c.loop-buf.hand.session c.args.p.now.client (state_of c.loop-buf.hand.state)) c.again-left.result c.loop-buf.left
    (λ alone. further_wrote c.args.p.now.client c.loop-buf.hand c.pin_step-now.result.0 c.pin_step-now.result.1 c.in-Wrote.is (c.pin_step-now.ensures.further alone))
    c.again-left.ensures

pub returns-in-Pinned-clause-needed : goal.returns-in-Pinned-clause-needed
returns-in-Pinned-clause-needed g c = needs_turn g.D.Slot g.O.Opened.opening g.O.Opened.outset c.args.p.now c.args.hand c.loop-buf.hand c.loop-buf.invariant.2 c.loop-buf.invariant.1.ready c.requires.can c.pin_step-now.result.0 c.loop-buf.invariant.3 c.pin_step-now.ensures.needed

pub returns-in-Refused-clause-needed : goal.returns-in-Refused-clause-needed
returns-in-Refused-clause-needed g c =
    needs_refused g.D.Slot g.O.Opened.opening g.O.Opened.outset c.args.p.now c.args.hand c.loop-buf.hand c.loop-buf.invariant.2 c.loop-buf.invariant.1.ready c.requires.can c.pin_step-now.result.0 c.loop-buf.invariant.3 c.pin_step-now.ensures.needed
    c.pin_step-now.ensures.at_work.ready (stays g.D.Slot g.O.Opened.opening g.O.Opened.outset c.args.p.now c.args.hand c.loop-buf.hand c.loop-buf.invariant.2 c.loop-buf.invariant.1.ready c.requires.can c.pin_step-now.result.0 c.pin_step-now.result.1 c.pin_step-now.ensures.step)
    (Pin c.name.result) c.in-Refused.entry c.refuse.new.self c.refuse.ensures.acts c.refuse.ensures.ready

pub returns-in-Unread-clause-needed : goal.returns-in-Unread-clause-needed
returns-in-Unread-clause-needed g c =
    needs_refused g.D.Slot g.O.Opened.opening g.O.Opened.outset c.args.p.now c.args.hand c.loop-buf.hand c.loop-buf.invariant.2 c.loop-buf.invariant.1.ready c.requires.can c.pin_step-now.result.0 c.loop-buf.invariant.3 c.pin_step-now.ensures.needed
    c.pin_step-now.ensures.at_work.ready (stays g.D.Slot g.O.Opened.opening g.O.Opened.outset c.args.p.now c.args.hand c.loop-buf.hand c.loop-buf.invariant.2 c.loop-buf.invariant.1.ready c.requires.can c.pin_step-now.result.0 c.pin_step-now.result.1 c.pin_step-now.ensures.step)
    (Pin c.name.result) c.in-Unread.unread.entry c.refuse-in-Unread.new.self c.refuse-in-Unread.ensures.acts c.refuse-in-Unread.ensures.ready
