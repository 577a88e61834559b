use Rattle.std.proofs.Common.{sym, subst}
use Rattle.pool_model.specs.declared.call.Call.TheVariants as call
use Rattle.store_api.specs.Holdings.{Holdings, page_len}
use Rattle.store_api.specs.Entries.{IsPin}
use Rattle.session_calls.specs.declared.hand.Hand.{Hand}
use Rattle.session_calls.specs.Needing.{EntersNeeded}
use Rattle.session_calls.specs.Pinning.{CanBePinned}
use Rattle.session_calls.specs.Acting.{held_by}
use Rattle.local_pool.specs.Told.{opening_of, outset_of, held_of}
use Rattle.local_pool.proofs.Stepping.{held_at}
use Rattle.session_calls.proofs.Carried.{pins_on}
use Rattle.local_pool.proofs.Calling.{call_viewed, ends_keeps}
use Rattle.local_pool.proofs.owned.Alone.pin.Goals as goal

pub pin-hand-requires-clause-can : goal.pin-hand-requires-clause-can
pin-hand-requires-clause-can g c = subst (CanBePinned c.args.p.now) (sym (held_at g.D.Slot c.self.inside.hand c.args.self c.self.view_is c.self.invariant.0)) (record { page = c.requires.page; rests = c.requires.rests; unused = c.requires.unused })

pub invariant_of-result : goal.invariant_of-result
invariant_of-result g c =
    ends_keeps g.D.Slot c.self.inside.hand c.args.self c.self.view_is c.self.invariant.0 c.pin-hand.result.0 c.pin-hand.new.place c.pin-hand.ensures.turns c.pin-hand.ensures.at_work
    c.args.p.now.client (call.Pin c.args.p.now.name)
    (λ x. IsPin c.args.p.now.client (held_by (opening_of g.D.Slot c.self.inside.hand) (outset_of g.D.Slot c.self.inside.hand.state) c.self.inside.hand) c.args.p.now.name) c.pin-hand.result.1 c.pin-hand.ensures.pins.ok c.pin-hand.ensures.pins.err

pub returns-clause-needed : goal.returns-clause-needed
returns-clause-needed g c =
    subst (λ (own : Hand g.row.D.Denot). EntersNeeded c.args.p.now.client (page_len c.args.p.now.name (held_of g.D.Slot c.args.self)) own c.pin-hand.result.0) c.self.view_is
    (subst (λ (h : Holdings). EntersNeeded c.args.p.now.client (page_len c.args.p.now.name h) c.self.inside.hand c.pin-hand.result.0) (held_at g.D.Slot c.self.inside.hand c.args.self c.self.view_is c.self.invariant.0) c.pin-hand.ensures.needed)

pub returns-clause-pins : goal.returns-clause-pins
returns-clause-pins g c = pins_on (call_viewed g.D.Slot c.self.inside.hand c.args.self c.self.view_is c.self.invariant.0 c.pin-hand.result.0 c.pin-hand.new.place c.pin-hand.ensures.turns c.pin-hand.ensures.at_work) c.args.p.now c.pin-hand.result.1 c.pin-hand.ensures.pins
