use Rattle.std.proofs.Common.{rules, ℕ, [], ◌∷◌, IsSome, refl, sym, ap, ◌∙◌, subst}
use Rattle.pool_model.specs.declared.event.Event.TheVariants.{MoveBuffer}
use Rattle.pool_model.specs.Sums.{HasRoom}
use Rattle.store_api.specs.Holdings.{Holdings, loan_len}
use Rattle.store_api.specs.Conditions.{IsLoan}
use Rattle.pin_core.specs.StateOf.{state_of}
use Rattle.session_calls.specs.Acting.{held_by}
use Rattle.session_calls.proofs.Asked.{works_with, asked_then}
use Rattle.session_calls.proofs.Called.{in_ok, granted, granted_held, loan_bytes}
use Rattle.session_calls.proofs.Needed.{needs_as}
use Rattle.session_calls.proofs.Needs.{needs_then}
use Rattle.session_calls.proofs.calls.move_buffer.Goals as goal

pub move_buffer-moved-requires-clause-loan : goal.move_buffer-moved-requires-clause-loan
move_buffer-moved-requires-clause-loan g c =
    subst (IsLoan c.args.loan) (sym (granted_held g.O.Opened.opening g.O.Opened.outset c.args.to.now.tracker c.args.hand c.make_room-hand.result.0 c.make_room-hand.result.1 _ c.in_default.is c.make_room-hand.ensures.ok)) c.requires.loan.0

pub move_buffer-moved-requires-clause-to : goal.move_buffer-moved-requires-clause-to
move_buffer-moved-requires-clause-to g c =
    subst (λ (h : Holdings). IsSome (h.clients c.args.to.now.tracker)) (sym (granted_held g.O.Opened.opening g.O.Opened.outset c.args.to.now.tracker c.args.hand c.make_room-hand.result.0 c.make_room-hand.result.1 _ c.in_default.is c.make_room-hand.ensures.ok)) c.requires.loan.1

pub move_buffer-moved-requires-clause-room : goal.move_buffer-moved-requires-clause-room
move_buffer-moved-requires-clause-room g c =
    subst (HasRoom (state_of c.make_room-hand.result.0.state) c.args.to.now.tracker)
    (loan_bytes c.args.loan (held_by g.O.Opened.opening g.O.Opened.outset c.args.hand) _ _ c.requires.loan.0 c.len.ensures.whole c.buf.ensures ∙ ap (loan_len c.args.loan.number) (sym (granted_held g.O.Opened.opening g.O.Opened.outset c.args.to.now.tracker c.args.hand c.make_room-hand.result.0 c.make_room-hand.result.1 _ c.in_default.is c.make_room-hand.ensures.ok)))
    (in_ok (HasRoom (state_of c.make_room-hand.result.0.state) c.args.to.now.tracker c.len.result) c.make_room-hand.result.1 _ c.in_default.is c.make_room-hand.ensures.room)

pub returns-clause-at_work : goal.returns-clause-at_work
returns-clause-at_work g c =
    works_with g.D.Slot g.O.Opened.opening g.O.Opened.outset (g.A.Access.seen c.make_room-hand.new.place) c.make_room-hand.result.0 c.move_buffer-moved.new.self c.make_room-hand.ensures.at_work c.move_buffer-moved.ensures.acts c.move_buffer-moved.ensures.ready

pub returns-clause-moves : goal.returns-clause-moves
returns-clause-moves g c = record {
  ok =
      asked_then g.O.Opened.opening g.O.Opened.outset c.args.to.now.tracker c.args.hand c.make_room-hand.result.0 (granted g.O.Opened.opening g.O.Opened.outset c.args.to.now.tracker c.args.hand c.make_room-hand.result.0 c.make_room-hand.result.1 _ c.in_default.is c.make_room-hand.ensures.ok) (MoveBuffer c.args.loan.number c.args.to.now.tracker ∷ []) c.move_buffer-moved.new.self c.move_buffer-moved.ensures.acts (refl, tt);
  moved = search rules;
  back = tt;
  err = tt;
}

pub returns-clause-needed : goal.returns-clause-needed
returns-clause-needed g c =
    let t : ℕ = c.args.to.now.tracker in
    let held : Holdings = held_by g.O.Opened.opening g.O.Opened.outset c.args.hand in
    let bytes : ℕ = loan_len c.args.loan.number held in
    needs_then t bytes g.D.Slot g.O.Opened.opening c.args.hand c.make_room-hand.result.0 c.move_buffer-moved.new.self (granted g.O.Opened.opening g.O.Opened.outset t c.args.hand c.make_room-hand.result.0 c.make_room-hand.result.1 _ c.in_default.is c.make_room-hand.ensures.ok)
    (needs_as t c.len.result t bytes c.args.hand c.make_room-hand.result.0 refl (loan_bytes c.args.loan held c.len.result _ c.requires.loan.0 c.len.ensures.whole c.buf.ensures) c.make_room-hand.ensures.needed)
    c.make_room-hand.ensures.at_work.ready.whole.stands c.move_buffer-moved.ensures.ready.whole.stands (MoveBuffer c.args.loan.number t) (λ s. tt) c.move_buffer-moved.ensures.acts
