use Rattle.std.proofs.Common.{sym, ◌∙◌}
use Rattle.own_entries.proofs.Calls.{calls_tell}
use Rattle.local_pool.specs.Told.{held_of}
use Rattle.local_pool.proofs.Making.{makes_held, makes_made}
use Rattle.session_calls.proofs.Results.{on_ok_so}
use Rattle.local_pool.proofs.Lasting.{lasts_moved, refused_untouched}
use Rattle.local_pool.proofs.local.LocalPoolStore.move_reservation.Goals as goal

pub invariant_of-self-clause-len : goal.invariant_of-self-clause-len
invariant_of-self-clause-len g c = c.args.self.now.len ∙ sym (lasts_moved g.D.Slot c.args.self.now.alone c.replace_with-result.new.dest _ c.args.from.now.tracker _ _ c.replace_with-result.result c.replace_with-result.ensures.0.ok c.replace_with-result.ensures.0.refused c.replace_with-result.ensures.0.err).len

pub returns-clause-ok : goal.returns-clause-ok
returns-clause-ok g c = on_ok_so c.replace_with-result.result c.replace_with-result.ensures.0.ok (λ made. makes_held g.D.Slot c.args.self.now.alone c.replace_with-result.new.dest made ∙ (calls_tell c.args.from.now.tracker (held_of g.D.Slot c.args.self.now.alone)).move_reservation c.args.from.now.tracker c.args.to.now.tracker c.args.bytes made.events c.requires.from c.requires.to made.is)

pub returns-clause-refused : goal.returns-clause-refused
returns-clause-refused g c = refused_untouched g.D.Slot c.args.self.now.alone c.replace_with-result.new.dest _ c.replace_with-result.result c.replace_with-result.ensures.0.refused

pub returns-clause-grows : goal.returns-clause-grows
returns-clause-grows g c = (lasts_moved g.D.Slot c.args.self.now.alone c.replace_with-result.new.dest _ c.args.from.now.tracker _ _ c.replace_with-result.result c.replace_with-result.ensures.0.ok c.replace_with-result.ensures.0.refused c.replace_with-result.ensures.0.err).grows

pub returns-clause-entries : goal.returns-clause-entries
returns-clause-entries g c = on_ok_so c.replace_with-result.result c.replace_with-result.ensures.0.ok (λ made. makes_made g.D.Slot c.args.self.now.alone c.replace_with-result.new.dest made)
