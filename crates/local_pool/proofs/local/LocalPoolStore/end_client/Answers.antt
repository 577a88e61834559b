use Rattle.std.proofs.Common.{[], ◌∷◌, sym, ◌∙◌}
use Rattle.pool_model.specs.declared.event.Event.TheVariants.{CloseTracker, MoveReservation}
use Rattle.store_api.specs.Holdings.{account_of}
use Rattle.own_entries.proofs.Calls.{calls_tell}
use Rattle.local_pool.specs.Told.{held_of}
use Rattle.local_pool.proofs.Making.{makes_made}
use Rattle.local_pool.proofs.Lasting.{lasts_made, held_by}
use Rattle.local_pool.proofs.local.LocalPoolStore.end_client.Goals as goal

pub invariant_of-self-clause-len : goal.invariant_of-self-clause-len
invariant_of-self-clause-len g c = c.args.self.now.len ∙ sym (lasts_made g.D.Slot c.args.self.now.alone c.end_client.new.self c.end_client.ensures.did).len

pub returns-clause-value : goal.returns-clause-value
returns-clause-value g c = held_by g.D.Slot (MoveReservation c.args.c.tracker (held_of g.D.Slot c.args.self.now.alone).query (account_of c.args.c.tracker (held_of g.D.Slot c.args.self.now.alone)).reservation ∷ CloseTracker c.args.c.tracker ∷ []) c.args.self.now.alone c.end_client.new.self c.end_client.ensures.did ∙ (calls_tell 0 (held_of g.D.Slot c.args.self.now.alone)).end_client c.args.c.tracker c.requires.client c.end_client.ensures.apart

pub returns-clause-grows : goal.returns-clause-grows
returns-clause-grows g c = (lasts_made g.D.Slot c.args.self.now.alone c.end_client.new.self c.end_client.ensures.did).grows

pub returns-clause-entries : goal.returns-clause-entries
returns-clause-entries g c = makes_made g.D.Slot c.args.self.now.alone c.end_client.new.self c.end_client.ensures.did
