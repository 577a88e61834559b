use Rattle.std.proofs.Common.{[], ◌∷◌, sym, ◌∙◌}
use Rattle.pool_model.specs.declared.event.Event.TheVariants.{Unpin}
use Rattle.own_entries.proofs.Calls.{calls_tell}
use Rattle.local_pool.specs.Told.{held_of}
use Rattle.local_pool.proofs.Making.{makes_made}
use Rattle.session_calls.proofs.Results.{on_ok_so}
use Rattle.local_pool.proofs.Lasting.{lasts_left, held_by}
use Rattle.local_pool.proofs.local.LocalPoolStore.unpin.Goals as goal

pub invariant_of-self-clause-len : goal.invariant_of-self-clause-len
invariant_of-self-clause-len g c = c.args.self.now.len ∙ sym (lasts_left g.D.Slot c.args.self.now.alone c.unpin-result.new.self _ c.args.p.now.name c.args.buf c.unpin-result.result c.unpin-result.ensures.unpins.ok c.unpin-result.ensures.err c.unpin-result.ensures.grows).len

pub returns-clause-ok : goal.returns-clause-ok
returns-clause-ok g c = on_ok_so c.unpin-result.result c.unpin-result.ensures.unpins.ok (λ made. held_by g.D.Slot (Unpin c.args.p.now.name c.args.buf.bytes ∷ []) c.args.self.now.alone c.unpin-result.new.self made ∙ (calls_tell 0 (held_of g.D.Slot c.args.self.now.alone)).unpin c.args.p.now.name c.args.buf.bytes)

pub returns-clause-entries : goal.returns-clause-entries
returns-clause-entries g c = on_ok_so c.unpin-result.result c.unpin-result.ensures.unpins.ok (λ made. makes_made g.D.Slot c.args.self.now.alone c.unpin-result.new.self made)
