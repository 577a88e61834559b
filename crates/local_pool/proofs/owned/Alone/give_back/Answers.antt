use Rattle.std.proofs.Common.{◌≤◌, [], ◌∷◌, sym, subst}
use Rattle.pool_model.specs.declared.call.Call.TheVariants as call
use Rattle.pool_model.specs.declared.event.Event.TheVariants as event
use Rattle.store_api.specs.Holdings.{Holdings, unused_of}
use Rattle.store_api.specs.Conditions.{IsLiveClient}
use Rattle.store_api.specs.Entries.{IsAsked}
use Rattle.session_calls.specs.Acting.{held_by}
use Rattle.local_pool.specs.Told.{opening_of, outset_of}
use Rattle.local_pool.proofs.Stepping.{held_at}
use Rattle.session_calls.proofs.Carried.{gives_back_on}
use Rattle.local_pool.proofs.Calling.{call_viewed, ends_keeps}
use Rattle.local_pool.proofs.owned.Alone.give_back.Goals as goal

pub give_back-hand-requires-clause-client : goal.give_back-hand-requires-clause-client
give_back-hand-requires-clause-client g c = subst (IsLiveClient c.args.what.client.now) (sym (held_at g.D.Slot c.self.inside.hand c.args.self c.self.view_is c.self.invariant.0)) c.requires.client

pub give_back-hand-requires-clause-unused : goal.give_back-hand-requires-clause-unused
give_back-hand-requires-clause-unused g c = subst (λ (h : Holdings). c.args.what.bytes ≤ unused_of c.args.what.client.now.tracker h) (sym (held_at g.D.Slot c.self.inside.hand c.args.self c.self.view_is c.self.invariant.0)) c.requires.unused

pub invariant_of-result : goal.invariant_of-result
invariant_of-result g c =
    ends_keeps g.D.Slot c.self.inside.hand c.args.self c.self.view_is c.self.invariant.0 c.give_back-hand.result.0 c.give_back-hand.new.place c.give_back-hand.ensures.turns c.give_back-hand.ensures.at_work
    c.args.what.client.now.tracker (call.GiveBack c.args.what.client.now.tracker c.args.what.bytes)
    (λ x. IsAsked c.args.what.client.now.tracker (held_by (opening_of g.D.Slot c.self.inside.hand) (outset_of g.D.Slot c.self.inside.hand.state) c.self.inside.hand) (event.Decrease c.args.what.client.now.tracker c.args.what.bytes ∷ [])) c.give_back-hand.result.1 c.give_back-hand.ensures.gives_back.ok c.give_back-hand.ensures.gives_back.err

pub returns-clause-gives_back : goal.returns-clause-gives_back
returns-clause-gives_back g c = gives_back_on (call_viewed g.D.Slot c.self.inside.hand c.args.self c.self.view_is c.self.invariant.0 c.give_back-hand.result.0 c.give_back-hand.new.place c.give_back-hand.ensures.turns c.give_back-hand.ensures.at_work) c.args.what.client.now.tracker c.args.what.bytes c.give_back-hand.result.1 c.give_back-hand.ensures.gives_back
