use Rattle.std.proofs.Common.{sym, ◌∙◌}
use Rattle.local_pool.proofs.Making.{makes_made}
use Rattle.session_calls.proofs.Results.{ok_so, ok_both, on_err_so}
use Rattle.local_pool.proofs.Lasting.{lasts_or_same, untouched, new_client}
use Rattle.local_pool.proofs.local.LocalPoolStore.add_client.Goals as goal

pub invariant_of-self-clause-len : goal.invariant_of-self-clause-len
invariant_of-self-clause-len g c = c.args.self.now.len ∙ sym (lasts_or_same g.D.Slot c.args.self.now.alone c.add_client-result.new.self _ c.add_client-result.result c.add_client-result.ensures.ok c.add_client-result.ensures.err).len

pub returns-clause-ok : goal.returns-clause-ok
returns-clause-ok g c = ok_both c.add_client-result.result c.add_client-result.ensures.ok c.add_client-result.ensures.fresh (λ k made fresh. new_client g.D.Slot c.args.self.now.alone c.add_client-result.new.self k c.args.limit made fresh)

pub returns-clause-err : goal.returns-clause-err
returns-clause-err g c = on_err_so c.add_client-result.result c.add_client-result.ensures.err (λ same. untouched g.D.Slot c.args.self.now.alone c.add_client-result.new.self same)

pub returns-clause-grows : goal.returns-clause-grows
returns-clause-grows g c = (lasts_or_same g.D.Slot c.args.self.now.alone c.add_client-result.new.self _ c.add_client-result.result c.add_client-result.ensures.ok c.add_client-result.ensures.err).grows

pub returns-clause-entries : goal.returns-clause-entries
returns-clause-entries g c = ok_so c.add_client-result.result c.add_client-result.ensures.ok (λ k made. makes_made g.D.Slot c.args.self.now.alone c.add_client-result.new.self made)
