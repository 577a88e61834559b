use Rattle.session_calls.proofs.Results.{ok_so, ok_both}
use Rattle.pool.proofs.Storing.{did_made, grows_declined, new_loan}
use Rattle.pool.proofs.session.SessionStore.alloc.Goals as goal

pub returns-clause-ok : goal.returns-clause-ok
returns-clause-ok g c = ok_both c.alloc-result.result c.alloc-result.ensures.allocs.ok c.alloc-result.ensures.allocs.loan (λ it did fresh. new_loan g.T.Opened.opening g.T.Opened.outset.told c.args.self.now.seat c.alloc-result.new.self c.args.c.now c.args.blocks it did fresh)

pub returns-clause-grows : goal.returns-clause-grows
returns-clause-grows g c = grows_declined g.T.Opened.opening g.T.Opened.outset.told c.args.self.now.seat c.alloc-result.new.self _ c.args.c.now.tracker _ c.alloc-result.result c.alloc-result.ensures.allocs.ok c.alloc-result.ensures.allocs.err

pub returns-clause-entries : goal.returns-clause-entries
returns-clause-entries g c = ok_so c.alloc-result.result c.alloc-result.ensures.allocs.ok (λ it did. did_made g.T.Opened.opening g.T.Opened.outset.told c.args.self.now.seat c.alloc-result.new.self did)
