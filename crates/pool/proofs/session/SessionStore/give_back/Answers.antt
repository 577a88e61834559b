use Rattle.std.proofs.Common.{◌∙◌}
use Rattle.own_entries.proofs.Calls.{calls_tell}
use Rattle.session_calls.proofs.Results.{on_ok_so}
use Rattle.pool.specs.Sitting.{held_by}
use Rattle.pool.proofs.Storing.{did_held, did_made, grows_declined}
use Rattle.pool.proofs.session.SessionStore.give_back.Goals as goal

pub returns-clause-ok : goal.returns-clause-ok
returns-clause-ok g c = on_ok_so c.give_back-result.result c.give_back-result.ensures.gives_back.ok (λ did. did_held g.T.Opened.opening g.T.Opened.outset.told c.args.self.now.seat c.give_back-result.new.self did ∙ (calls_tell c.args.c.now.tracker (held_by g.T.Opened.opening g.T.Opened.outset.told c.args.self.now.seat)).give_back c.args.c.now.tracker c.args.bytes did.does.events c.requires.client did.does.is)

pub returns-clause-grows : goal.returns-clause-grows
returns-clause-grows g c = grows_declined g.T.Opened.opening g.T.Opened.outset.told c.args.self.now.seat c.give_back-result.new.self _ c.args.c.now.tracker _ c.give_back-result.result c.give_back-result.ensures.gives_back.ok c.give_back-result.ensures.gives_back.err

pub returns-clause-entries : goal.returns-clause-entries
returns-clause-entries g c = on_ok_so c.give_back-result.result c.give_back-result.ensures.gives_back.ok (λ did. did_made g.T.Opened.opening g.T.Opened.outset.told c.args.self.now.seat c.give_back-result.new.self did)
