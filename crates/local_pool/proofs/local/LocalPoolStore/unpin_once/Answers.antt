use Rattle.std.proofs.Common.{[], ◌∷◌, sym, ◌∙◌}
use Rattle.pool_model.specs.declared.event.Event.TheVariants.{UnpinOnce}
use Rattle.own_entries.proofs.Calls.{calls_tell}
use Rattle.local_pool.specs.Told.{held_of}
use Rattle.local_pool.proofs.Making.{makes_made}
use Rattle.local_pool.proofs.Lasting.{lasts_made, held_by}
use Rattle.local_pool.proofs.local.LocalPoolStore.unpin_once.Goals as goal

pub invariant_of-self-clause-len : goal.invariant_of-self-clause-len
invariant_of-self-clause-len g c = c.args.self.now.len ∙ sym (lasts_made g.D.Slot c.args.self.now.alone c.unpin_once.new.self c.unpin_once.ensures).len

pub returns-clause-value : goal.returns-clause-value
returns-clause-value g c = held_by g.D.Slot (UnpinOnce c.args.p.now.name ∷ []) c.args.self.now.alone c.unpin_once.new.self c.unpin_once.ensures ∙ (calls_tell 0 (held_of g.D.Slot c.args.self.now.alone)).unpin_once c.args.p.now.name c.requires.pinned

pub returns-clause-grows : goal.returns-clause-grows
returns-clause-grows g c = (lasts_made g.D.Slot c.args.self.now.alone c.unpin_once.new.self c.unpin_once.ensures).grows

pub returns-clause-entries : goal.returns-clause-entries
returns-clause-entries g c = makes_made g.D.Slot c.args.self.now.alone c.unpin_once.new.self c.unpin_once.ensures
