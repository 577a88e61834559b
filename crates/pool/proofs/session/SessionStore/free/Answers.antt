use Rattle.std.proofs.Common.{[], ◌∷◌, ◌∙◌}
use Rattle.pool_model.specs.declared.event.Event.TheVariants.{Free}
use Rattle.own_entries.proofs.Calls.{calls_tell}
use Rattle.pool.specs.Sitting.{held_by}
use Rattle.pool.proofs.Storing.{did_grows, did_made, these_held}
use Rattle.pool.proofs.session.SessionStore.free.Goals as goal

pub returns-clause-value : goal.returns-clause-value
returns-clause-value g c = these_held g.T.Opened.opening g.T.Opened.outset.told c.args.self.now.seat c.free.new.self (Free c.args.loan.number ∷ []) c.free.ensures.did ∙ (calls_tell 0 (held_by g.T.Opened.opening g.T.Opened.outset.told c.args.self.now.seat)).free c.args.loan.number

pub returns-clause-grows : goal.returns-clause-grows
returns-clause-grows g c = did_grows g.T.Opened.opening g.T.Opened.outset.told c.args.self.now.seat c.free.new.self c.free.ensures.did

pub returns-clause-entries : goal.returns-clause-entries
returns-clause-entries g c = did_made g.T.Opened.opening g.T.Opened.outset.told c.args.self.now.seat c.free.new.self c.free.ensures.did
