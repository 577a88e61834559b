use Rattle.std.proofs.Common.{sym, ◌∙◌}
use Rattle.own_entries.proofs.Calls.{calls_tell}
use Rattle.local_pool.specs.Told.{held_of}
use Rattle.local_pool.proofs.Making.{makes_held, makes_made}
use Rattle.session_calls.proofs.Results.{on_ok_so}
use Rattle.local_pool.proofs.Lasting.{lasts_or_refused}
use Rattle.local_pool.proofs.local.LocalPoolStore.give_back.Goals as goal

pub invariant_of-self-clause-len : goal.invariant_of-self-clause-len
invariant_of-self-clause-len g c = c.args.self.now.len ∙ sym (lasts_or_refused g.D.Slot c.args.self.now.alone c.replace_with-result.new.dest _ c.args.c.now.tracker _ c.replace_with-result.result c.replace_with-result.ensures.0.ok c.replace_with-result.ensures.0.err).len

pub returns-clause-ok : goal.returns-clause-ok
returns-clause-ok g c = on_ok_so c.replace_with-result.result c.replace_with-result.ensures.0.ok (λ made. makes_held g.D.Slot c.args.self.now.alone c.replace_with-result.new.dest made ∙ (calls_tell c.args.c.now.tracker (held_of g.D.Slot c.args.self.now.alone)).give_back c.args.c.now.tracker c.args.bytes made.events c.requires.client made.is)

pub returns-clause-grows : goal.returns-clause-grows
returns-clause-grows g c = (lasts_or_refused g.D.Slot c.args.self.now.alone c.replace_with-result.new.dest _ c.args.c.now.tracker _ c.replace_with-result.result c.replace_with-result.ensures.0.ok c.replace_with-result.ensures.0.err).grows

pub returns-clause-entries : goal.returns-clause-entries
returns-clause-entries g c = on_ok_so c.replace_with-result.result c.replace_with-result.ensures.0.ok (λ made. makes_made g.D.Slot c.args.self.now.alone c.replace_with-result.new.dest made)
