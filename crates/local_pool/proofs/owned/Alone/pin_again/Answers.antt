use Rattle.std.proofs.Common.{◌≤◌, [], ◌∷◌, sym, subst}
use Rattle.pool_model.specs.declared.call.Call.TheVariants as call
use Rattle.pool_model.specs.declared.event.Event.TheVariants as event
use Rattle.store_api.specs.Holdings.{Holdings, page_len, page_of, unused_of}
use Rattle.store_api.specs.Conditions.{IsPage}
use Rattle.store_api.specs.Entries.{IsAsked}
use Rattle.session_calls.specs.declared.hand.Hand.{Hand}
use Rattle.session_calls.specs.Needing.{EntersNeeded}
use Rattle.session_calls.specs.Acting.{held_by}
use Rattle.local_pool.specs.Told.{opening_of, outset_of, held_of}
use Rattle.local_pool.proofs.Stepping.{held_at}
use Rattle.session_calls.proofs.Carried.{pins_again_on}
use Rattle.local_pool.proofs.Calling.{call_viewed, ends_keeps}
use Rattle.local_pool.proofs.owned.Alone.pin_again.Goals as goal

pub pin_again-hand-requires-clause-page : goal.pin_again-hand-requires-clause-page
pin_again-hand-requires-clause-page g c = subst (IsPage c.args.p.now) (sym (held_at g.D.Slot c.self.inside.hand c.args.self c.self.view_is c.self.invariant.0)) c.requires.page

pub pin_again-hand-requires-clause-pinned : goal.pin_again-hand-requires-clause-pinned
pin_again-hand-requires-clause-pinned g c = subst (λ (h : Holdings). 1 ≤ (page_of c.args.p.now.name h).pins) (sym (held_at g.D.Slot c.self.inside.hand c.args.self c.self.view_is c.self.invariant.0)) c.requires.pinned

pub pin_again-hand-requires-clause-unused : goal.pin_again-hand-requires-clause-unused
pin_again-hand-requires-clause-unused g c = subst (λ (h : Holdings). page_len c.args.p.now.name h ≤ unused_of c.args.p.now.client h) (sym (held_at g.D.Slot c.self.inside.hand c.args.self c.self.view_is c.self.invariant.0)) c.requires.unused

pub invariant_of-result : goal.invariant_of-result
invariant_of-result g c =
    ends_keeps g.D.Slot c.self.inside.hand c.args.self c.self.view_is c.self.invariant.0 c.pin_again-hand.result.0 c.pin_again-hand.new.place c.pin_again-hand.ensures.turns c.pin_again-hand.ensures.at_work
    c.args.p.now.client (call.PinAgain c.args.p.now.name)
    (λ x. IsAsked c.args.p.now.client (held_by (opening_of g.D.Slot c.self.inside.hand) (outset_of g.D.Slot c.self.inside.hand.state) c.self.inside.hand) (event.PinAgain c.args.p.now.name ∷ [])) c.pin_again-hand.result.1 c.pin_again-hand.ensures.pins_again.ok c.pin_again-hand.ensures.pins_again.err

pub returns-clause-needed : goal.returns-clause-needed
returns-clause-needed g c =
    subst (λ (own : Hand g.row.D.Denot). EntersNeeded c.args.p.now.client (page_len c.args.p.now.name (held_of g.D.Slot c.args.self)) own c.pin_again-hand.result.0) c.self.view_is
    (subst (λ (h : Holdings). EntersNeeded c.args.p.now.client (page_len c.args.p.now.name h) c.self.inside.hand c.pin_again-hand.result.0) (held_at g.D.Slot c.self.inside.hand c.args.self c.self.view_is c.self.invariant.0) c.pin_again-hand.ensures.needed)

pub returns-clause-pins_again : goal.returns-clause-pins_again
returns-clause-pins_again g c = pins_again_on (call_viewed g.D.Slot c.self.inside.hand c.args.self c.self.view_is c.self.invariant.0 c.pin_again-hand.result.0 c.pin_again-hand.new.place c.pin_again-hand.ensures.turns c.pin_again-hand.ensures.at_work) c.args.p.now c.pin_again-hand.result.1 c.pin_again-hand.ensures.pins_again
