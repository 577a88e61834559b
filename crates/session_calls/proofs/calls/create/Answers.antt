use Rattle.std.proofs.Common.{ℕ, [], ◌∷◌, IsSome, IfOk, refl, sym, subst}
use Rattle.reservation_tree.specs.declared.errors.PoolErr.TheVariants.{NamesSpent}
use Rattle.pool_model.specs.declared.event.Event.TheVariants.{Create}
use Rattle.pool_model.specs.Sums.{HasRoom}
use Rattle.store_api.specs.Holdings.{Holdings}
use Rattle.pin_core.specs.StateOf.{state_of}
use Rattle.session_calls.specs.declared.hand.Hand.{Hand}
use Rattle.session_calls.specs.Coming.{Evicts}
use Rattle.session_calls.specs.Acting.{Acts, held_by, signs_by}
use Rattle.session_calls.specs.Coming.{IsFreshPage}
use Rattle.session_calls.proofs.Called.{in_err_same, in_ok, granted, granted_held, length_now, taken_created, works_created, refused_created, fresh_taken}
use Rattle.session_calls.proofs.Needed.{needs_as, needs_more}
use Rattle.session_calls.proofs.calls.create.Goals as goal

pub create-made-requires-clause-client : goal.create-made-requires-clause-client
create-made-requires-clause-client g c =
    subst (λ (h : Holdings). IsSome (h.clients c.args.c.now.tracker)) (sym (granted_held g.O.Opened.opening g.O.Opened.outset c.args.c.now.tracker c.args.hand c.make_room-hand.result.0 c.make_room-hand.result.1 _ c.in_default-result.is c.make_room-hand.ensures.ok)) c.requires.client

pub create-made-requires-clause-room : goal.create-made-requires-clause-room
create-made-requires-clause-room g c =
    subst (HasRoom (state_of c.make_room-hand.result.0.state) c.args.c.now.tracker) (length_now g.O.Opened.opening g.O.Opened.outset c.args.c.now.tracker c.args.hand c.make_room-hand.result.0 c.make_room-hand.result.1 _ c.in_default-result.is c.make_room-hand.ensures.ok c.args.bytes c.args.blocks c.in-Ok.shell c.requires.bytes.0 c.in-Ok.ensures)
    (in_ok (HasRoom (state_of c.make_room-hand.result.0.state) c.args.c.now.tracker c.args.bytes) c.make_room-hand.result.1 _ c.in_default-result.is c.make_room-hand.ensures.room)

pub returns-clause-at_work : goal.returns-clause-at_work
returns-clause-at_work g c =
    works_created g.O.Opened.opening g.O.Opened.outset c.args.c.now.tracker c.in-Ok.shell c.args.hand c.make_room-hand.result.0 (granted g.O.Opened.opening g.O.Opened.outset c.args.c.now.tracker c.args.hand c.make_room-hand.result.0 c.make_room-hand.result.1 _ c.in_default-result.is c.make_room-hand.ensures.ok) c.create-made.new.self g.D.Slot (g.A.Access.seen c.make_room-hand.new.place) c.create-made.result
    c.make_room-hand.ensures.at_work c.create-made.ensures.ok c.create-made.ensures.err c.create-made.ensures.ready

pub returns-clause-creates : goal.returns-clause-creates
returns-clause-creates g c = record {
  ok =
      taken_created g.O.Opened.opening g.O.Opened.outset c.args.c.now.tracker c.args.blocks c.args.hand c.make_room-hand.result.0 (granted g.O.Opened.opening g.O.Opened.outset c.args.c.now.tracker c.args.hand c.make_room-hand.result.0 c.make_room-hand.result.1 _ c.in_default-result.is c.make_room-hand.ensures.ok) c.create-made.new.self c.create-made.result
      (subst (λ (n : ℕ). IfOk c.create-made.result (λ made. Acts (Evicts (Create made.0.name c.args.c.now.tracker n made.0.key ∷ [])) c.make_room-hand.result.0 c.create-made.new.self)) c.in-Ok.ensures c.create-made.ensures.ok);
  page =
      fresh_taken g.O.Opened.opening g.O.Opened.outset c.args.c.now.tracker c.args.blocks c.args.hand c.make_room-hand.result.0 (granted g.O.Opened.opening g.O.Opened.outset c.args.c.now.tracker c.args.hand c.make_room-hand.result.0 c.make_room-hand.result.1 _ c.in_default-result.is c.make_room-hand.ensures.ok) c.create-made.result
      (subst (λ (n : ℕ). IfOk c.create-made.result (λ made. IsFreshPage c.args.c.now.tracker n made (held_by g.O.Opened.opening g.O.Opened.outset c.make_room-hand.result.0) (signs_by g.O.Opened.opening c.make_room-hand.result.0))) c.in-Ok.ensures c.create-made.ensures.page);
  err =
      refused_created g.O.Opened.opening g.O.Opened.outset c.args.c.now.tracker c.args.blocks c.args.hand c.make_room-hand.result.0 (granted g.O.Opened.opening g.O.Opened.outset c.args.c.now.tracker c.args.hand c.make_room-hand.result.0 c.make_room-hand.result.1 _ c.in_default-result.is c.make_room-hand.ensures.ok) c.create-made.new.self c.create-made.result c.create-made.ensures.cause c.create-made.ensures.err;
  spent = λ is.
      in_err_same _ (λ (hand : Hand g.row.D.Denot). HasRoom (state_of hand.state) c.args.c.now.tracker c.args.bytes) c.make_room-hand.result.0 c.create-made.new.self c.create-made.result NamesSpent is c.create-made.ensures.err
      (in_ok (HasRoom (state_of c.make_room-hand.result.0.state) c.args.c.now.tracker c.args.bytes) c.make_room-hand.result.1 _ c.in_default-result.is c.make_room-hand.ensures.room);
}

pub returns-clause-needed : goal.returns-clause-needed
returns-clause-needed g c =
    needs_more c.args.c.now.tracker c.args.bytes c.args.hand c.make_room-hand.result.0 c.create-made.new.self (granted g.O.Opened.opening g.O.Opened.outset c.args.c.now.tracker c.args.hand c.make_room-hand.result.0 c.make_room-hand.result.1 _ c.in_default-result.is c.make_room-hand.ensures.ok).session
    c.make_room-hand.ensures.needed
    (needs_as c.args.c.now.tracker _ c.args.c.now.tracker c.args.bytes c.make_room-hand.result.0 c.create-made.new.self refl
    (sym (length_now g.O.Opened.opening g.O.Opened.outset c.args.c.now.tracker c.args.hand c.make_room-hand.result.0 c.make_room-hand.result.1 _ c.in_default-result.is c.make_room-hand.ensures.ok c.args.bytes c.args.blocks c.in-Ok.shell c.requires.bytes.0 c.in-Ok.ensures)) c.create-made.ensures.needed)
