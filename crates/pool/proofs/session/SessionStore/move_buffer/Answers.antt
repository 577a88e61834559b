use Rattle.std.proofs.Common.{refl, ◌∙◌}
use Rattle.own_entries.proofs.Calls.{calls_tell}
use Rattle.session_calls.proofs.Results.{on_ok_so}
use Rattle.pool.specs.Sitting.{held_by}
use Rattle.pool.proofs.Storing.{did_held, did_made, grows_handed, none_made}
use Rattle.pool.proofs.session.SessionStore.move_buffer.Goals as goal

pub returns-then-eq-clause-succeeds : goal.returns-then-eq-clause-succeeds
returns-then-eq-clause-succeeds g c = λ _. (refl, none_made g.T.Opened.opening g.T.Opened.outset.told c.args.self.now.seat)

pub returns-clause-ok : goal.returns-clause-ok
returns-clause-ok g c = on_ok_so c.move_buffer-result.result c.move_buffer-result.ensures.moves.ok (λ did. did_held g.T.Opened.opening g.T.Opened.outset.told c.args.self.now.seat c.move_buffer-result.new.self did ∙ (calls_tell c.args.to.now.tracker (held_by g.T.Opened.opening g.T.Opened.outset.told c.args.self.now.seat)).move_buffer c.args.loan.number c.args.to.now.tracker did.does.events did.does.is)

pub returns-clause-grows : goal.returns-clause-grows
returns-clause-grows g c = grows_handed g.T.Opened.opening g.T.Opened.outset.told c.args.self.now.seat c.move_buffer-result.new.self _ c.args.to.now.tracker _ c.move_buffer-result.result c.move_buffer-result.ensures.moves.ok c.move_buffer-result.ensures.moves.err

pub returns-clause-entries : goal.returns-clause-entries
returns-clause-entries g c = λ _. on_ok_so c.move_buffer-result.result c.move_buffer-result.ensures.moves.ok (λ did. did_made g.T.Opened.opening g.T.Opened.outset.told c.args.self.now.seat c.move_buffer-result.new.self did)
