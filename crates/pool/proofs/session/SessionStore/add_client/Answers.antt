use Rattle.std.proofs.Common.{[]}
use Rattle.session_calls.proofs.Results.{ok_so, ok_both, on_err_so}
use Rattle.pool.proofs.Storing.{did_made, grows_else, new_client, untouched}
use Rattle.pool.proofs.session.SessionStore.add_client.Goals as goal

pub returns-clause-ok : goal.returns-clause-ok
returns-clause-ok g c = ok_both c.add_client-result.result c.add_client-result.ensures.adds.ok c.add_client-result.ensures.adds.fresh (λ k did fresh. new_client g.T.Opened.opening g.T.Opened.outset.told c.args.self.now.seat c.add_client-result.new.self k c.args.limit did fresh)

pub returns-clause-err : goal.returns-clause-err
returns-clause-err g c = on_err_so c.add_client-result.result c.add_client-result.ensures.adds.err (λ did. untouched g.T.Opened.opening g.T.Opened.outset.told c.args.self.now.seat c.add_client-result.new.self did)

pub returns-clause-grows : goal.returns-clause-grows
returns-clause-grows g c = grows_else g.T.Opened.opening g.T.Opened.outset.told c.args.self.now.seat c.add_client-result.new.self _ ([]) c.add_client-result.result c.add_client-result.ensures.adds.ok c.add_client-result.ensures.adds.err

pub returns-clause-entries : goal.returns-clause-entries
returns-clause-entries g c = ok_so c.add_client-result.result c.add_client-result.ensures.adds.ok (λ it did. did_made g.T.Opened.opening g.T.Opened.outset.told c.args.self.now.seat c.add_client-result.new.self did)
