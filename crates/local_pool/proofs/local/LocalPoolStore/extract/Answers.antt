use Rattle.std.proofs.Common.{[], ◌∷◌, sym, ◌∙◌}
use Rattle.pool_model.specs.declared.event.Event.TheVariants.{Extract}
use Rattle.own_entries.proofs.Calls.{calls_tell}
use Rattle.local_pool.specs.Told.{held_of}
use Rattle.local_pool.proofs.Making.{makes_made}
use Rattle.local_pool.proofs.Lasting.{lasts_made, held_by}
use Rattle.local_pool.proofs.local.LocalPoolStore.extract.Goals as goal

pub invariant_of-self-clause-len : goal.invariant_of-self-clause-len
invariant_of-self-clause-len g c = c.args.self.now.len ∙ sym (lasts_made g.D.Slot c.args.self.now.alone c.extract-loan.new.self c.extract-loan.ensures.did).len

pub returns-clause-value : goal.returns-clause-value
returns-clause-value g c = held_by g.D.Slot (Extract c.args.p.name c.extract-loan.result.number ∷ []) c.args.self.now.alone c.extract-loan.new.self c.extract-loan.ensures.did ∙ (calls_tell 0 (held_of g.D.Slot c.args.self.now.alone)).extract c.args.p.name c.extract-loan.result.number

pub returns-clause-grows : goal.returns-clause-grows
returns-clause-grows g c = (lasts_made g.D.Slot c.args.self.now.alone c.extract-loan.new.self c.extract-loan.ensures.did).grows

pub returns-clause-entries : goal.returns-clause-entries
returns-clause-entries g c = makes_made g.D.Slot c.args.self.now.alone c.extract-loan.new.self c.extract-loan.ensures.did
