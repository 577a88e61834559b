use Rattle.std.proofs.Common.{[], ◌∷◌, ◌∙◌}
use Rattle.pool_model.specs.declared.event.Event.TheVariants.{Unpin}
use Rattle.own_entries.proofs.Calls.{calls_tell}
use Rattle.session_calls.proofs.Results.{on_ok_so}
use Rattle.pool.specs.Sitting.{held_by}
use Rattle.pool.proofs.Storing.{did_made, err_all, grows_else, stays_pinned, these_held}
use Rattle.pool.proofs.session.SessionStore.unpin.Goals as goal

pub returns-clause-ok : goal.returns-clause-ok
returns-clause-ok g c = on_ok_so c.unpin-result.result c.unpin-result.ensures.unpins.ok (λ did. these_held g.T.Opened.opening g.T.Opened.outset.told c.args.self.now.seat c.unpin-result.new.self (Unpin c.args.p.now.name c.args.buf.bytes ∷ []) did ∙ (calls_tell 0 (held_by g.T.Opened.opening g.T.Opened.outset.told c.args.self.now.seat)).unpin c.args.p.now.name c.args.buf.bytes)

pub returns-clause-err : goal.returns-clause-err
returns-clause-err g c = err_all c.unpin-result.result c.unpin-result.ensures.unpins.err c.unpin-result.ensures.unpins.cause c.unpin-result.ensures.unpins.back (λ e did cause back. stays_pinned g.T.Opened.opening g.T.Opened.outset.told c.args.self.now.seat c.unpin-result.new.self c.args.p.now.name c.args.buf e did cause back)

pub returns-clause-grows : goal.returns-clause-grows
returns-clause-grows g c = grows_else g.T.Opened.opening g.T.Opened.outset.told c.args.self.now.seat c.unpin-result.new.self _ _ c.unpin-result.result c.unpin-result.ensures.unpins.ok c.unpin-result.ensures.unpins.err

pub returns-clause-entries : goal.returns-clause-entries
returns-clause-entries g c = on_ok_so c.unpin-result.result c.unpin-result.ensures.unpins.ok (λ did. did_made g.T.Opened.opening g.T.Opened.outset.told c.args.self.now.seat c.unpin-result.new.self did)
