use Rattle.std.proofs.Common.{[], ◌∷◌, ◌∙◌}
use Rattle.pool_model.specs.declared.event.Event.TheVariants.{CloseTracker, MoveReservation}
use Rattle.store_api.specs.Holdings.{account_of}
use Rattle.own_entries.proofs.Calls.{calls_tell}
use Rattle.pool.specs.Sitting.{held_by}
use Rattle.pool.proofs.Storing.{did_grows, did_made, these_held}
use Rattle.pool.proofs.session.SessionStore.end_client.Goals as goal

pub returns-clause-value : goal.returns-clause-value
returns-clause-value g c = these_held g.T.Opened.opening g.T.Opened.outset.told c.args.self.now.seat c.end_client.new.self (MoveReservation c.args.c.tracker (held_by g.T.Opened.opening g.T.Opened.outset.told c.args.self.now.seat).query (account_of c.args.c.tracker (held_by g.T.Opened.opening g.T.Opened.outset.told c.args.self.now.seat)).reservation ∷ CloseTracker c.args.c.tracker ∷ []) c.end_client.ensures.ends.did ∙ (calls_tell 0 (held_by g.T.Opened.opening g.T.Opened.outset.told c.args.self.now.seat)).end_client c.args.c.tracker c.requires.client c.end_client.ensures.ends.apart

pub returns-clause-grows : goal.returns-clause-grows
returns-clause-grows g c = did_grows g.T.Opened.opening g.T.Opened.outset.told c.args.self.now.seat c.end_client.new.self c.end_client.ensures.ends.did

pub returns-clause-entries : goal.returns-clause-entries
returns-clause-entries g c = did_made g.T.Opened.opening g.T.Opened.outset.told c.args.self.now.seat c.end_client.new.self c.end_client.ensures.ends.did
