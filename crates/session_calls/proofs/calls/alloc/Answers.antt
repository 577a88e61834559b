use Rattle.std.proofs.Common.{ℕ, [], ◌∷◌, IsSome, refl, sym, subst}
use Rattle.pool_model.specs.declared.event.Event.TheVariants.{Alloc}
use Rattle.pool_model.specs.Sums.{HasRoom}
use Rattle.store_api.specs.Holdings.{Holdings}
use Rattle.pin_core.specs.StateOf.{state_of}
use Rattle.session_calls.specs.Coming.{Evicts, IsFreshLoan}
use Rattle.session_calls.specs.Acting.{Acts, held_by}
use Rattle.session_calls.proofs.Asked.{works_with, taken_then}
use Rattle.session_calls.proofs.Called.{in_ok, granted, granted_held, length_now}
use Rattle.session_calls.proofs.Needed.{needs_as, needs_more}
use Rattle.session_calls.proofs.calls.alloc.Goals as goal

pub alloc-loan-requires-clause-client : goal.alloc-loan-requires-clause-client
alloc-loan-requires-clause-client g c =
    subst (λ (h : Holdings). IsSome (h.clients c.args.c.now.tracker)) (sym (granted_held g.O.Opened.opening g.O.Opened.outset c.args.c.now.tracker c.args.hand c.make_room-hand.result.0 c.make_room-hand.result.1 _ c.in_default-result.is c.make_room-hand.ensures.ok)) c.requires.client

pub alloc-loan-requires-clause-room : goal.alloc-loan-requires-clause-room
alloc-loan-requires-clause-room g c =
    subst (HasRoom (state_of c.make_room-hand.result.0.state) c.args.c.now.tracker) (length_now g.O.Opened.opening g.O.Opened.outset c.args.c.now.tracker c.args.hand c.make_room-hand.result.0 c.make_room-hand.result.1 _ c.in_default-result.is c.make_room-hand.ensures.ok c.args.bytes c.args.blocks c.in-Ok.shell c.requires.bytes.0 c.in-Ok.ensures)
    (in_ok (HasRoom (state_of c.make_room-hand.result.0.state) c.args.c.now.tracker c.args.bytes) c.make_room-hand.result.1 _ c.in_default-result.is c.make_room-hand.ensures.room)

pub returns-clause-at_work : goal.returns-clause-at_work
returns-clause-at_work g c =
    works_with g.D.Slot g.O.Opened.opening g.O.Opened.outset (g.A.Access.seen c.make_room-hand.new.place) c.make_room-hand.result.0 c.alloc-loan.new.self c.make_room-hand.ensures.at_work c.alloc-loan.ensures.acts c.alloc-loan.ensures.ready

pub returns-clause-allocs : goal.returns-clause-allocs
returns-clause-allocs g c = record {
  ok =
      taken_then g.O.Opened.opening g.O.Opened.outset c.args.c.now.tracker c.args.hand c.make_room-hand.result.0 (granted g.O.Opened.opening g.O.Opened.outset c.args.c.now.tracker c.args.hand c.make_room-hand.result.0 c.make_room-hand.result.1 _ c.in_default-result.is c.make_room-hand.ensures.ok) (Alloc c.alloc-loan.result.number c.args.c.now.tracker c.args.blocks ∷ []) c.alloc-loan.new.self
      (subst (λ (n : ℕ). Acts (Evicts (Alloc c.alloc-loan.result.number c.args.c.now.tracker n ∷ [])) c.make_room-hand.result.0 c.alloc-loan.new.self) c.in-Ok.ensures c.alloc-loan.ensures.acts) (refl, tt);
  loan =
      subst (λ (n : ℕ). IsFreshLoan c.args.c.now.tracker n c.alloc-loan.result (held_by g.O.Opened.opening g.O.Opened.outset c.args.hand)) c.in-Ok.ensures
      (subst (IsFreshLoan c.args.c.now.tracker c.in-Ok.shell c.alloc-loan.result) (granted_held g.O.Opened.opening g.O.Opened.outset c.args.c.now.tracker c.args.hand c.make_room-hand.result.0 c.make_room-hand.result.1 _ c.in_default-result.is c.make_room-hand.ensures.ok) c.alloc-loan.ensures.loan);
  err = tt;
}

pub returns-clause-needed : goal.returns-clause-needed
returns-clause-needed g c =
    needs_more c.args.c.now.tracker c.args.bytes c.args.hand c.make_room-hand.result.0 c.alloc-loan.new.self (granted g.O.Opened.opening g.O.Opened.outset c.args.c.now.tracker c.args.hand c.make_room-hand.result.0 c.make_room-hand.result.1 _ c.in_default-result.is c.make_room-hand.ensures.ok).session
    c.make_room-hand.ensures.needed
    (needs_as c.args.c.now.tracker _ c.args.c.now.tracker c.args.bytes c.make_room-hand.result.0 c.alloc-loan.new.self refl (sym (length_now g.O.Opened.opening g.O.Opened.outset c.args.c.now.tracker c.args.hand c.make_room-hand.result.0 c.make_room-hand.result.1 _ c.in_default-result.is c.make_room-hand.ensures.ok c.args.bytes c.args.blocks c.in-Ok.shell c.requires.bytes.0 c.in-Ok.ensures)) c.alloc-loan.ensures.needed)
