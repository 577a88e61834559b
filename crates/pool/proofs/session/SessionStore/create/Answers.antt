use Rattle.session_calls.proofs.Results.{ok_so, ok_both}
use Rattle.pool.proofs.Storing.{did_made, grows_declined, new_page}
use Rattle.pool.proofs.session.SessionStore.create.Goals as goal

pub returns-clause-ok : goal.returns-clause-ok
returns-clause-ok g c = ok_both c.create-result.result c.create-result.ensures.creates.ok c.create-result.ensures.creates.page (λ it did fresh. new_page g.T.Opened.opening g.T.Opened.outset.told c.args.self.now.seat c.create-result.new.self c.args.c.now c.args.blocks it did fresh)

pub returns-clause-grows : goal.returns-clause-grows
returns-clause-grows g c = grows_declined g.T.Opened.opening g.T.Opened.outset.told c.args.self.now.seat c.create-result.new.self _ c.args.c.now.tracker _ c.create-result.result c.create-result.ensures.creates.ok c.create-result.ensures.creates.err

pub returns-clause-entries : goal.returns-clause-entries
returns-clause-entries g c = ok_so c.create-result.result c.create-result.ensures.creates.ok (λ it did. did_made g.T.Opened.opening g.T.Opened.outset.told c.args.self.now.seat c.create-result.new.self did)
