use Rattle.std.proofs.Common.{sym, subst}
use Rattle.store_api.specs.Conditions.{IsIdle, IsLiveClient}
use Rattle.session_calls.proofs.Carried.{ends_client_on}
use Rattle.local_pool.proofs.Stepping.{held_at, step_keeps, turn_viewed}
use Rattle.local_pool.proofs.owned.Alone.end_client.Goals as goal

pub end_client-requires-clause-client : goal.end_client-requires-clause-client
end_client-requires-clause-client g c = subst (IsLiveClient c.args.c) (sym (held_at g.D.Slot c.self.inside.hand c.args.self.now c.self.view_is c.self.invariant.0)) c.requires.client

pub end_client-requires-clause-idle : goal.end_client-requires-clause-idle
end_client-requires-clause-idle g c = subst (IsIdle c.args.c.tracker) (sym (held_at g.D.Slot c.self.inside.hand c.args.self.now c.self.view_is c.self.invariant.0)) c.requires.idle

pub invariant_of-self : goal.invariant_of-self
invariant_of-self g c = step_keeps g.D.Slot c.self.inside.shelf c.self.inside.hand c.args.self.now c.self.view_is c.self.invariant c.end_client.new.self c.end_client.ensures.ready c.end_client.ensures.ends.did

pub returns : goal.returns
returns g c = ends_client_on (turn_viewed g.D.Slot c.self.inside.shelf c.self.inside.hand c.args.self.now c.self.view_is c.self.invariant c.end_client.new.self c.end_client.ensures.ready) c.args.c.tracker c.end_client.ensures.ends
