use Rattle.std.proofs.Common.{[], ◌∷◌, ◌∙◌}
use Rattle.pool_model.specs.declared.event.Event.TheVariants.{IncreaseToFit}
use Rattle.own_entries.proofs.Calls.{calls_tell}
use Rattle.session_calls.proofs.Results.{on_ok_so, on_err_so}
use Rattle.pool.specs.Sitting.{held_by}
use Rattle.pool.proofs.Storing.{did_made, grows_else, these_held, untouched}
use Rattle.pool.proofs.session.SessionStore.reserve_to_fit.Goals as goal

pub returns-clause-ok : goal.returns-clause-ok
returns-clause-ok g c = on_ok_so c.reserve_to_fit-result.result c.reserve_to_fit-result.ensures.reserves.ok (λ did. these_held g.T.Opened.opening g.T.Opened.outset.told c.args.self.now.seat c.reserve_to_fit-result.new.self (IncreaseToFit c.args.c.now.tracker c.args.bytes ∷ []) did ∙ (calls_tell 0 (held_by g.T.Opened.opening g.T.Opened.outset.told c.args.self.now.seat)).reserve_to_fit c.args.c.now.tracker c.args.bytes c.requires)

pub returns-clause-err : goal.returns-clause-err
returns-clause-err g c = on_err_so c.reserve_to_fit-result.result c.reserve_to_fit-result.ensures.reserves.err (λ did. untouched g.T.Opened.opening g.T.Opened.outset.told c.args.self.now.seat c.reserve_to_fit-result.new.self did)

pub returns-clause-grows : goal.returns-clause-grows
returns-clause-grows g c = grows_else g.T.Opened.opening g.T.Opened.outset.told c.args.self.now.seat c.reserve_to_fit-result.new.self _ ([]) c.reserve_to_fit-result.result c.reserve_to_fit-result.ensures.reserves.ok c.reserve_to_fit-result.ensures.reserves.err

pub returns-clause-entries : goal.returns-clause-entries
returns-clause-entries g c = on_ok_so c.reserve_to_fit-result.result c.reserve_to_fit-result.ensures.reserves.ok (λ did. did_made g.T.Opened.opening g.T.Opened.outset.told c.args.self.now.seat c.reserve_to_fit-result.new.self did)
