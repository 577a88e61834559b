use Rattle.std.proofs.Common.{◌≤◌, [], ◌∷◌, IsSome, refl, sym, subst}
use Rattle.pool_model.specs.declared.event.Event.TheVariants.{Decrease}
use Rattle.store_api.specs.Holdings.{Holdings, unused_of}
use Rattle.session_calls.proofs.Asked.{works_with, asked_then}
use Rattle.session_calls.proofs.Called.{granted, granted_held}
use Rattle.session_calls.proofs.Needs.{needs_then}
use Rattle.session_calls.proofs.calls.give_back.Goals as goal

pub give_up-requires-clause-client : goal.give_up-requires-clause-client
give_up-requires-clause-client g c =
    subst (λ (h : Holdings). IsSome (h.clients c.args.c.now.tracker)) (sym (granted_held g.O.Opened.opening g.O.Opened.outset c.args.c.now.tracker c.args.hand c.make_room-hand.result.0 c.make_room-hand.result.1 _ c.in_default.is c.make_room-hand.ensures.ok)) c.requires.client

pub give_up-requires-clause-unused : goal.give_up-requires-clause-unused
give_up-requires-clause-unused g c =
    subst (λ (h : Holdings). c.args.bytes ≤ unused_of c.args.c.now.tracker h) (sym (granted_held g.O.Opened.opening g.O.Opened.outset c.args.c.now.tracker c.args.hand c.make_room-hand.result.0 c.make_room-hand.result.1 _ c.in_default.is c.make_room-hand.ensures.ok)) c.requires.unused

pub returns-clause-at_work : goal.returns-clause-at_work
returns-clause-at_work g c =
    works_with g.D.Slot g.O.Opened.opening g.O.Opened.outset (g.A.Access.seen c.make_room-hand.new.place) c.make_room-hand.result.0 c.give_up.new.self c.make_room-hand.ensures.at_work c.give_up.ensures.acts c.give_up.ensures.ready

pub returns-clause-gives_back : goal.returns-clause-gives_back
returns-clause-gives_back g c = record {
  ok =
      asked_then g.O.Opened.opening g.O.Opened.outset c.args.c.now.tracker c.args.hand c.make_room-hand.result.0 (granted g.O.Opened.opening g.O.Opened.outset c.args.c.now.tracker c.args.hand c.make_room-hand.result.0 c.make_room-hand.result.1 _ c.in_default.is c.make_room-hand.ensures.ok) (Decrease c.args.c.now.tracker c.args.bytes ∷ []) c.give_up.new.self c.give_up.ensures.acts (refl, tt);
  err = tt;
}

pub returns-clause-needed : goal.returns-clause-needed
returns-clause-needed g c =
    needs_then c.args.c.now.tracker c.args.bytes g.D.Slot g.O.Opened.opening c.args.hand c.make_room-hand.result.0 c.give_up.new.self (granted g.O.Opened.opening g.O.Opened.outset c.args.c.now.tracker c.args.hand c.make_room-hand.result.0 c.make_room-hand.result.1 _ c.in_default.is c.make_room-hand.ensures.ok)
    c.make_room-hand.ensures.needed c.make_room-hand.ensures.at_work.ready.whole.stands c.give_up.ensures.ready.whole.stands (Decrease c.args.c.now.tracker c.args.bytes) (λ s. tt) c.give_up.ensures.acts
