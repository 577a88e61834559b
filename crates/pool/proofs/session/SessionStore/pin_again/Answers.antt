use Rattle.std.proofs.Common.{◌∙◌}
use Rattle.own_entries.proofs.Calls.{calls_tell}
use Rattle.session_calls.proofs.Results.{on_ok_so}
use Rattle.pool.specs.Sitting.{held_by}
use Rattle.pool.proofs.Storing.{did_held, did_made, grows_declined}
use Rattle.pool.proofs.session.SessionStore.pin_again.Goals as goal

pub returns-clause-ok : goal.returns-clause-ok
returns-clause-ok g c = on_ok_so c.pin_again-result.result c.pin_again-result.ensures.pins_again.ok (λ did. did_held g.T.Opened.opening g.T.Opened.outset.told c.args.self.now.seat c.pin_again-result.new.self did ∙ (calls_tell c.args.p.now.client (held_by g.T.Opened.opening g.T.Opened.outset.told c.args.self.now.seat)).pin_again c.args.p.now.name did.does.events did.does.is)

pub returns-clause-grows : goal.returns-clause-grows
returns-clause-grows g c = grows_declined g.T.Opened.opening g.T.Opened.outset.told c.args.self.now.seat c.pin_again-result.new.self _ c.args.p.now.client _ c.pin_again-result.result c.pin_again-result.ensures.pins_again.ok c.pin_again-result.ensures.pins_again.err

pub returns-clause-entries : goal.returns-clause-entries
returns-clause-entries g c = on_ok_so c.pin_again-result.result c.pin_again-result.ensures.pins_again.ok (λ did. did_made g.T.Opened.opening g.T.Opened.outset.told c.args.self.now.seat c.pin_again-result.new.self did)
