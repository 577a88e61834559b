use Rattle.std.proofs.Common.{rules, ◌≡◌, ◌≤◌, [], ◌∷◌, None, IsSome, IfSome, Ok, Err, refl, sym, subst}
use Rattle.pool_model.specs.declared.event.Event.TheVariants.{MoveReservation}
use Rattle.store_api.specs.Holdings.{Holdings, unused_of}
use Rattle.store_api.specs.Refusals.{move_refusal}
use Rattle.session_calls.proofs.Refusals.{no_error_told}
use Rattle.session_calls.specs.Acting.{held_by}
use Rattle.session_calls.proofs.Asked.{works_with, asked_then}
use Rattle.session_calls.proofs.Called.{granted, granted_held}
use Rattle.session_calls.proofs.Needs.{needs_then}
use Rattle.session_calls.proofs.calls.move_reservation.Goals as goal

pub pass_on-requires-clause-from : goal.pass_on-requires-clause-from
pass_on-requires-clause-from g c =
    subst (λ (h : Holdings). IsSome (h.clients c.args.from.now.tracker)) (sym (granted_held g.O.Opened.opening g.O.Opened.outset c.args.from.now.tracker c.args.hand c.make_room-hand.result.0 c.make_room-hand.result.1 _ c.in_default-result.is c.make_room-hand.ensures.ok)) c.requires.clients.0

pub pass_on-requires-clause-to : goal.pass_on-requires-clause-to
pass_on-requires-clause-to g c =
    subst (λ (h : Holdings). IsSome (h.clients c.args.to.now.tracker)) (sym (granted_held g.O.Opened.opening g.O.Opened.outset c.args.from.now.tracker c.args.hand c.make_room-hand.result.0 c.make_room-hand.result.1 _ c.in_default-result.is c.make_room-hand.ensures.ok)) c.requires.clients.1

pub pass_on-requires-clause-unused : goal.pass_on-requires-clause-unused
pass_on-requires-clause-unused g c =
    subst (λ (h : Holdings). c.args.bytes ≤ unused_of c.args.from.now.tracker h) (sym (granted_held g.O.Opened.opening g.O.Opened.outset c.args.from.now.tracker c.args.hand c.make_room-hand.result.0 c.make_room-hand.result.1 _ c.in_default-result.is c.make_room-hand.ensures.ok)) c.requires.unused

pub pass_on-requires-clause-granted : goal.pass_on-requires-clause-granted
pass_on-requires-clause-granted g c =
    subst (λ (h : Holdings). move_refusal c.args.from.now.tracker c.args.to.now.tracker c.args.bytes h ≡ None) (sym (granted_held g.O.Opened.opening g.O.Opened.outset c.args.from.now.tracker c.args.hand c.make_room-hand.result.0 c.make_room-hand.result.1 _ c.in_default-result.is c.make_room-hand.ensures.ok))
    (no_error_told (move_refusal c.args.from.now.tracker c.args.to.now.tracker c.args.bytes (held_by g.O.Opened.opening g.O.Opened.outset c.args.hand)) (Ok c.in_default.field-0) refl
    (subst (λ r. IfSome (move_refusal c.args.from.now.tracker c.args.to.now.tracker c.args.bytes (held_by g.O.Opened.opening g.O.Opened.outset c.args.hand)) (λ e. r ≡ Err e)) c.in_default.is c.may_move.ensures.refused))

pub returns-clause-at_work : goal.returns-clause-at_work
returns-clause-at_work g c =
    works_with g.D.Slot g.O.Opened.opening g.O.Opened.outset (g.A.Access.seen c.make_room-hand.new.place) c.make_room-hand.result.0 c.pass_on.new.self c.make_room-hand.ensures.at_work c.pass_on.ensures.acts c.pass_on.ensures.ready

pub returns-clause-moves : goal.returns-clause-moves
returns-clause-moves g c = record {
  ok =
      asked_then g.O.Opened.opening g.O.Opened.outset c.args.from.now.tracker c.args.hand c.make_room-hand.result.0 (granted g.O.Opened.opening g.O.Opened.outset c.args.from.now.tracker c.args.hand c.make_room-hand.result.0 c.make_room-hand.result.1 _ c.in_default-result.is c.make_room-hand.ensures.ok) (MoveReservation c.args.from.now.tracker c.args.to.now.tracker c.args.bytes ∷ []) c.pass_on.new.self c.pass_on.ensures.acts (refl, tt);
  refused = search rules;
  err = search rules;
}

pub returns-clause-needed : goal.returns-clause-needed
returns-clause-needed g c =
    needs_then c.args.from.now.tracker c.args.bytes g.D.Slot g.O.Opened.opening c.args.hand c.make_room-hand.result.0 c.pass_on.new.self (granted g.O.Opened.opening g.O.Opened.outset c.args.from.now.tracker c.args.hand c.make_room-hand.result.0 c.make_room-hand.result.1 _ c.in_default-result.is c.make_room-hand.ensures.ok)
    c.make_room-hand.ensures.needed c.make_room-hand.ensures.at_work.ready.whole.stands c.pass_on.ensures.ready.whole.stands (MoveReservation c.args.from.now.tracker c.args.to.now.tracker c.args.bytes) (λ s. tt) c.pass_on.ensures.acts
