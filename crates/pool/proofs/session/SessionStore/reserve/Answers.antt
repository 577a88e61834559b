use Rattle.std.proofs.Common.{[], ◌∷◌, ◌∙◌}
use Rattle.pool_model.specs.declared.event.Event.TheVariants.{Increase}
use Rattle.own_entries.proofs.Calls.{calls_tell}
use Rattle.session_calls.proofs.Results.{on_ok_so, on_err_so}
use Rattle.pool.specs.Sitting.{held_by}
use Rattle.pool.proofs.Storing.{did_made, grows_else, these_held, untouched}
use Rattle.pool.proofs.session.SessionStore.reserve.Goals as goal

pub returns-clause-ok : goal.returns-clause-ok
returns-clause-ok g c = on_ok_so c.reserve-result.result c.reserve-result.ensures.reserves.ok (λ did. these_held g.T.Opened.opening g.T.Opened.outset.told c.args.self.now.seat c.reserve-result.new.self (Increase c.args.c.now.tracker c.args.bytes ∷ []) did ∙ (calls_tell 0 (held_by g.T.Opened.opening g.T.Opened.outset.told c.args.self.now.seat)).reserve c.args.c.now.tracker c.args.bytes c.requires)

pub returns-clause-err : goal.returns-clause-err
returns-clause-err g c = on_err_so c.reserve-result.result c.reserve-result.ensures.reserves.err (λ did. untouched g.T.Opened.opening g.T.Opened.outset.told c.args.self.now.seat c.reserve-result.new.self did)

pub returns-clause-grows : goal.returns-clause-grows
returns-clause-grows g c = grows_else g.T.Opened.opening g.T.Opened.outset.told c.args.self.now.seat c.reserve-result.new.self _ ([]) c.reserve-result.result c.reserve-result.ensures.reserves.ok c.reserve-result.ensures.reserves.err

pub returns-clause-entries : goal.returns-clause-entries
returns-clause-entries g c = on_ok_so c.reserve-result.result c.reserve-result.ensures.reserves.ok (λ did. did_made g.T.Opened.opening g.T.Opened.outset.told c.args.self.now.seat c.reserve-result.new.self did)
