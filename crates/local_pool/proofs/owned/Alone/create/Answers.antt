use Rattle.std.proofs.Common.{◌≡◌, ◌≤◌, [], ◌∷◌, sym, subst}
use Rattle.pool_model.specs.declared.call.Call.TheVariants as call
use Rattle.pool_model.specs.declared.event.Event.TheVariants as event
use Rattle.store_api.specs.Holdings.{Holdings, length_of, unused_of}
use Rattle.store_api.specs.Conditions.{IsLiveClient}
use Rattle.store_api.specs.Entries.{IsTaken}
use Rattle.session_calls.specs.Acting.{held_by}
use Rattle.local_pool.specs.Told.{opening_of, outset_of}
use Rattle.local_pool.proofs.Stepping.{held_at}
use Rattle.session_calls.proofs.Carried.{creates_on}
use Rattle.local_pool.proofs.Calling.{call_viewed, ends_keeps}
use Rattle.local_pool.proofs.owned.Alone.create.Goals as goal

pub create-hand-requires-clause-client : goal.create-hand-requires-clause-client
create-hand-requires-clause-client g c = subst (IsLiveClient c.args.what.client.now) (sym (held_at g.D.Slot c.self.inside.hand c.args.self c.self.view_is c.self.invariant.0)) c.requires.client

pub create-hand-requires-clause-bytes : goal.create-hand-requires-clause-bytes
create-hand-requires-clause-bytes g c = subst (λ (h : Holdings). (c.args.what.bytes ≡ length_of c.args.what.blocks h) × (c.args.what.bytes ≤ unused_of c.args.what.client.now.tracker h)) (sym (held_at g.D.Slot c.self.inside.hand c.args.self c.self.view_is c.self.invariant.0)) (c.requires.bytes, c.requires.unused)

pub invariant_of-result : goal.invariant_of-result
invariant_of-result g c =
    ends_keeps g.D.Slot c.self.inside.hand c.args.self c.self.view_is c.self.invariant.0 c.create-hand.result.0 c.create-hand.new.place c.create-hand.ensures.turns c.create-hand.ensures.at_work
    c.args.what.client.now.tracker (call.Create c.args.what.client.now.tracker c.args.what.blocks)
    (λ x. IsTaken c.args.what.client.now.tracker (held_by (opening_of g.D.Slot c.self.inside.hand) (outset_of g.D.Slot c.self.inside.hand.state) c.self.inside.hand) (event.Create x.0.name c.args.what.client.now.tracker c.args.what.blocks x.0.key ∷ [])) c.create-hand.result.1 c.create-hand.ensures.creates.ok c.create-hand.ensures.creates.err

pub returns-clause-creates : goal.returns-clause-creates
returns-clause-creates g c = creates_on (call_viewed g.D.Slot c.self.inside.hand c.args.self c.self.view_is c.self.invariant.0 c.create-hand.result.0 c.create-hand.new.place c.create-hand.ensures.turns c.create-hand.ensures.at_work) c.args.what.client.now.tracker c.args.what.blocks c.args.what.bytes c.create-hand.result.1 c.create-hand.ensures.creates
