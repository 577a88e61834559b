use Rattle.std.proofs.Common.{ℕ, ◌≤◌, [], IsSome, sym, subst}
use Rattle.pin_core.specs.StateOf.{state_of}
use Rattle.pin_core.specs.calls.Turns.{amount_of}
use Rattle.pool_model.specs.declared.event.Event.TheVariants.{Ask, Refused}
use Rattle.store_api.specs.Holdings.{Holdings, unused_of}
use Rattle.store_api.specs.Entries.{IsAsked}
use Rattle.pool_model.specs.State.{Opening}
use Rattle.own_entries.specs.OwnHoldings.{Outset}
use Rattle.session_calls.specs.declared.hand.Hand.{Hand}
use Rattle.session_calls.specs.declared.turning.Turn.{Turn}
use Rattle.session_calls.specs.declared.turning.Turn.TheVariants as answer
use Rattle.session_calls.specs.Writing.{writes_left}
use Rattle.session_calls.specs.Acting.{held_by}
use Rattle.session_calls.specs.Jobs.{DoesIn}
use Rattle.session_calls.specs.Turning.{TurnIs}
use Rattle.session_calls.proofs.Asked.{works_with, asked_held, asked_first, lacks_then, may_be_refused, was_refused, turned_on}
use Rattle.session_calls.proofs.Needed.{needs_more}
use Rattle.session_calls.proofs.Needs.{needs_step, needs_then}
use Rattle.session_calls.proofs.Rounds.{goes_down, goes_further}
use Rattle.session_calls.proofs.asking.make_room.Goals as goal

pub loop-hand-init : goal.loop-hand-init
loop-hand-init g c = (
  subst (λ (m : ℕ). g.A.Access.turns g.O.Opened.opening g.O.Opened.outset c.args.access.now c.args.place.now m) (sym c.ask.ensures.acts.session) c.requires.turns,
  works_with g.D.Slot g.O.Opened.opening g.O.Opened.outset (g.A.Access.seen c.args.place.now) c.args.hand c.ask.new.self c.requires.at_work c.ask.ensures.acts c.ask.ensures.ready,
  asked_first g.O.Opened.opening g.O.Opened.outset c.args.c.now.tracker c.args.hand c.ask.new.self c.ask.ensures.acts,
  needs_step c.args.c.now.tracker (amount_of c.args.want) g.D.Slot g.O.Opened.opening c.args.hand c.ask.new.self c.requires.at_work.ready.whole.stands c.ask.ensures.ready.whole.stands Ask (λ s. tt) c.ask.ensures.acts,
)

pub room_turn-now-requires-clause-client : goal.room_turn-now-requires-clause-client
room_turn-now-requires-clause-client g c =
    subst (λ (h : Holdings). IsSome (h.clients c.args.c.now.tracker)) (sym (asked_held g.O.Opened.opening g.O.Opened.outset c.args.c.now.tracker c.args.hand c.loop-hand.hand c.loop-hand.invariant.2)) c.requires.client

pub room_turn-now-requires-clause-unused : goal.room_turn-now-requires-clause-unused
room_turn-now-requires-clause-unused g c =
    subst (λ (h : Holdings). amount_of c.args.want ≤ unused_of c.args.c.now.tracker h) (sym (asked_held g.O.Opened.opening g.O.Opened.outset c.args.c.now.tracker c.args.hand c.loop-hand.hand c.loop-hand.invariant.2)) c.requires.unused

pub refuse-requires-clause-may : goal.refuse-requires-clause-may
refuse-requires-clause-may g c =
    let t : ℕ = c.args.c.now.tracker in
    let o : Opening = g.O.Opened.opening in
    let u : Outset = g.O.Opened.outset in
    let now : Hand g.row.D.Denot = c.room_turn-now.result.0 in
    let turn : TurnIs o u t (amount_of c.args.want) (answer.Refused c.in-Refused.entry) c.loop-hand.hand now = subst (λ (r : Turn). TurnIs o u t (amount_of c.args.want) r c.loop-hand.hand now) c.in-Refused.is c.room_turn-now.ensures.turn in
    may_be_refused o u t c.args.hand now (subst (DoesIn (IsAsked t (held_by o u c.args.hand) []) c.args.hand) (sym turn.1) c.loop-hand.invariant.2) g.D.Slot c.room_turn-now.ensures.at_work.ready
    (amount_of c.args.want) c.in-Refused.entry c.args.call.now c.requires.client (lacks_then o u t (amount_of c.args.want) c.in-Refused.entry c.loop-hand.hand now turn) c.requires.wants.0 c.requires.wants.1

pub returns-in-Refused-clause-at_work : goal.returns-in-Refused-clause-at_work
returns-in-Refused-clause-at_work g c =
    works_with g.D.Slot g.O.Opened.opening g.O.Opened.outset (g.A.Access.seen c.room_turn-now.new.place) c.room_turn-now.result.0 c.refuse.new.self c.room_turn-now.ensures.at_work c.refuse.ensures.acts c.refuse.ensures.ready

pub returns-in-Refused-clause-needed : goal.returns-in-Refused-clause-needed
returns-in-Refused-clause-needed g c =
    let t : ℕ = c.args.c.now.tracker in
    let amount : ℕ = amount_of c.args.want in
    let now : Hand g.row.D.Denot = c.room_turn-now.result.0 in
    needs_then t amount g.D.Slot g.O.Opened.opening c.args.hand now c.refuse.new.self (turned_on g.O.Opened.opening g.O.Opened.outset t c.args.hand c.loop-hand.hand c.loop-hand.invariant.2 amount now c.room_turn-now.result.1 c.room_turn-now.ensures.turn)
    (needs_more t amount c.args.hand c.loop-hand.hand now c.loop-hand.invariant.2.session c.loop-hand.invariant.3 c.room_turn-now.ensures.needed)
    c.room_turn-now.ensures.at_work.ready.whole.stands c.refuse.ensures.ready.whole.stands (Refused c.args.call.now c.in-Refused.entry) (λ s. tt) c.refuse.ensures.acts

pub returns-in-Refused-clause-err : goal.returns-in-Refused-clause-err
returns-in-Refused-clause-err g c =
    let t : ℕ = c.args.c.now.tracker in
    let o : Opening = g.O.Opened.opening in
    let u : Outset = g.O.Opened.outset in
    let now : Hand g.row.D.Denot = c.room_turn-now.result.0 in
    let turn : TurnIs o u t (amount_of c.args.want) (answer.Refused c.in-Refused.entry) c.loop-hand.hand now = subst (λ (r : Turn). TurnIs o u t (amount_of c.args.want) r c.loop-hand.hand now) c.in-Refused.is c.room_turn-now.ensures.turn in
    was_refused o u t c.args.hand now (subst (DoesIn (IsAsked t (held_by o u c.args.hand) []) c.args.hand) (sym turn.1) c.loop-hand.invariant.2) g.D.Slot c.room_turn-now.ensures.at_work.ready
    (amount_of c.args.want) c.in-Refused.entry c.args.call.now c.requires.client (lacks_then o u t (amount_of c.args.want) c.in-Refused.entry c.loop-hand.hand now turn) c.refuse.new.self c.refuse.ensures.acts

pub loop-hand-preserved : goal.loop-hand-preserved
loop-hand-preserved g c = (
  c.room_turn-now.ensures.turns,
  c.room_turn-now.ensures.at_work,
  turned_on g.O.Opened.opening g.O.Opened.outset c.args.c.now.tracker c.args.hand c.loop-hand.hand c.loop-hand.invariant.2 (amount_of c.args.want) c.room_turn-now.result.0 c.room_turn-now.result.1 c.room_turn-now.ensures.turn,
  needs_more c.args.c.now.tracker (amount_of c.args.want) c.args.hand c.loop-hand.hand c.room_turn-now.result.0 c.loop-hand.invariant.2.session c.loop-hand.invariant.3 c.room_turn-now.ensures.needed,
)

pub loop-hand-smaller : goal.loop-hand-smaller
loop-hand-smaller g c =
    let t : ℕ = c.args.c.now.tracker in
    let old : Hand g.row.D.Denot = c.loop-hand.hand in
    let now : Hand g.row.D.Denot = c.room_turn-now.result.0 in
    goes_down g.A.Access.alone (writes_left now.session t (state_of now.state)) (writes_left old.session t (state_of old.state)) c.again-left.result c.loop-hand.left
    (λ is. goes_further t old now c.room_turn-now.result.1 c.in-Wrote.is (c.room_turn-now.ensures.further is)) c.again-left.ensures
