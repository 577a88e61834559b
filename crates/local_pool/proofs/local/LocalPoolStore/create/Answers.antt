use Rattle.std.proofs.Common.{sym, ◌∙◌}
use Rattle.local_pool.proofs.Making.{makes_made}
use Rattle.session_calls.proofs.Results.{ok_so, ok_both}
use Rattle.local_pool.proofs.Lasting.{lasts_or_refused, new_page}
use Rattle.local_pool.proofs.local.LocalPoolStore.create.Goals as goal

pub invariant_of-self-clause-len : goal.invariant_of-self-clause-len
invariant_of-self-clause-len g c = c.args.self.now.len ∙ sym (lasts_or_refused g.D.Slot c.args.self.now.alone c.replace_with-result.new.dest _ c.args.c.now.tracker _ c.replace_with-result.result c.replace_with-result.ensures.0.ok c.replace_with-result.ensures.0.err).len

pub returns-clause-ok : goal.returns-clause-ok
returns-clause-ok g c = ok_both c.replace_with-result.result c.replace_with-result.ensures.0.ok c.replace_with-result.ensures.0.page (λ it made fresh. new_page g.D.Slot c.args.self.now.alone c.replace_with-result.new.dest c.args.c.now c.args.blocks it made fresh)

pub returns-clause-grows : goal.returns-clause-grows
returns-clause-grows g c = (lasts_or_refused g.D.Slot c.args.self.now.alone c.replace_with-result.new.dest _ c.args.c.now.tracker _ c.replace_with-result.result c.replace_with-result.ensures.0.ok c.replace_with-result.ensures.0.err).grows

pub returns-clause-entries : goal.returns-clause-entries
returns-clause-entries g c = ok_so c.replace_with-result.result c.replace_with-result.ensures.0.ok (λ it made. makes_made g.D.Slot c.args.self.now.alone c.replace_with-result.new.dest made)
