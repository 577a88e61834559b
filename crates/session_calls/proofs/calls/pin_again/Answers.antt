use Rattle.std.proofs.Common.{ℕ, ◌≤◌, [], ◌∷◌, refl, sym, ap, ◌∙◌, subst}
use Rattle.pool_model.specs.declared.event.Event.TheVariants.{PinAgain}
use Rattle.pool_model.specs.Sums.{HasRoom}
use Rattle.store_api.specs.Tokens.{ClientToken}
use Rattle.store_api.specs.Holdings.{Holdings, page_of, page_len}
use Rattle.store_api.specs.Conditions.{IsPage}
use Rattle.store_api.specs.Entries.{IsAsked}
use Rattle.pin_core.specs.StateOf.{state_of}
use Rattle.session_calls.specs.Acting.{held_by}
use Rattle.session_calls.specs.Jobs.{DoesIn}
use Rattle.session_calls.proofs.Asked.{works_with, asked_then}
use Rattle.session_calls.proofs.Called.{in_ok, granted, granted_held}
use Rattle.session_calls.proofs.Needed.{needs_as}
use Rattle.session_calls.proofs.Needs.{needs_then}
use Rattle.session_calls.proofs.calls.pin_again.Goals as goal

pub pin_again-requires-clause-page : goal.pin_again-requires-clause-page
pin_again-requires-clause-page g c =
    subst (IsPage c.args.p.now) (sym (granted_held g.O.Opened.opening g.O.Opened.outset c.of-c.result.tracker c.args.hand c.make_room-hand.result.0 c.make_room-hand.result.1 _ c.in_default.is c.make_room-hand.ensures.ok)) c.requires.page

pub pin_again-requires-clause-pinned : goal.pin_again-requires-clause-pinned
pin_again-requires-clause-pinned g c =
    subst (λ (h : Holdings). 1 ≤ (page_of c.args.p.now.name h).pins) (sym (granted_held g.O.Opened.opening g.O.Opened.outset c.of-c.result.tracker c.args.hand c.make_room-hand.result.0 c.make_room-hand.result.1 _ c.in_default.is c.make_room-hand.ensures.ok)) c.requires.pinned

pub pin_again-requires-clause-room : goal.pin_again-requires-clause-room
pin_again-requires-clause-room g c =
    subst (HasRoom (state_of c.make_room-hand.result.0.state) c.args.p.now.client) (c.page_len.ensures.len ∙ ap (page_len c.args.p.now.name) (sym (granted_held g.O.Opened.opening g.O.Opened.outset c.of-c.result.tracker c.args.hand c.make_room-hand.result.0 c.make_room-hand.result.1 _ c.in_default.is c.make_room-hand.ensures.ok)))
    (subst (λ (k : ℕ). HasRoom (state_of c.make_room-hand.result.0.state) k c.page_len.result) (ap (λ (k : ClientToken). k.tracker) c.of-c.ensures ∙ c.client.ensures)
    (in_ok (HasRoom (state_of c.make_room-hand.result.0.state) c.of-c.result.tracker c.page_len.result) c.make_room-hand.result.1 _ c.in_default.is c.make_room-hand.ensures.room))

pub returns-clause-at_work : goal.returns-clause-at_work
returns-clause-at_work g c =
    works_with g.D.Slot g.O.Opened.opening g.O.Opened.outset (g.A.Access.seen c.make_room-hand.new.place) c.make_room-hand.result.0 c.pin_again.new.self c.make_room-hand.ensures.at_work c.pin_again.ensures.acts c.pin_again.ensures.ready

pub returns-clause-pins_again : goal.returns-clause-pins_again
returns-clause-pins_again g c = record {
  ok =
      asked_then g.O.Opened.opening g.O.Opened.outset c.args.p.now.client c.args.hand c.make_room-hand.result.0
      (subst (λ (k : ℕ). DoesIn (IsAsked k (held_by g.O.Opened.opening g.O.Opened.outset c.args.hand) []) c.args.hand c.make_room-hand.result.0) (ap (λ (k : ClientToken). k.tracker) c.of-c.ensures ∙ c.client.ensures) (granted g.O.Opened.opening g.O.Opened.outset c.of-c.result.tracker c.args.hand c.make_room-hand.result.0 c.make_room-hand.result.1 _ c.in_default.is c.make_room-hand.ensures.ok))
      (PinAgain c.args.p.now.name ∷ []) c.pin_again.new.self c.pin_again.ensures.acts (refl, tt);
  err = tt;
}

pub returns-clause-needed : goal.returns-clause-needed
returns-clause-needed g c =
    let t : ℕ = c.args.p.now.client in
    let bytes : ℕ = page_len c.args.p.now.name (held_by g.O.Opened.opening g.O.Opened.outset c.args.hand) in
    needs_then t bytes g.D.Slot g.O.Opened.opening c.args.hand c.make_room-hand.result.0 c.pin_again.new.self (granted g.O.Opened.opening g.O.Opened.outset c.of-c.result.tracker c.args.hand c.make_room-hand.result.0 c.make_room-hand.result.1 _ c.in_default.is c.make_room-hand.ensures.ok)
    (needs_as c.of-c.result.tracker c.page_len.result t bytes c.args.hand c.make_room-hand.result.0 (ap (λ (k : ClientToken). k.tracker) c.of-c.ensures ∙ c.client.ensures) c.page_len.ensures.len c.make_room-hand.ensures.needed)
    c.make_room-hand.ensures.at_work.ready.whole.stands c.pin_again.ensures.ready.whole.stands (PinAgain c.args.p.now.name) (λ s. tt) c.pin_again.ensures.acts
