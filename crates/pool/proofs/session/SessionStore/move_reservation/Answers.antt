use Rattle.std.proofs.Common.{◌∙◌}
use Rattle.own_entries.proofs.Calls.{calls_tell}
use Rattle.session_calls.proofs.Results.{on_ok_so}
use Rattle.pool.specs.Sitting.{held_by}
use Rattle.pool.proofs.Storing.{did_held, did_made, grows_moved, refused_untouched}
use Rattle.pool.proofs.session.SessionStore.move_reservation.Goals as goal

pub returns-clause-ok : goal.returns-clause-ok
returns-clause-ok g c = on_ok_so c.move_reservation-result.result c.move_reservation-result.ensures.moves.ok (λ did. did_held g.T.Opened.opening g.T.Opened.outset.told c.args.self.now.seat c.move_reservation-result.new.self did ∙ (calls_tell c.args.from.now.tracker (held_by g.T.Opened.opening g.T.Opened.outset.told c.args.self.now.seat)).move_reservation c.args.from.now.tracker c.args.to.now.tracker c.args.bytes did.does.events c.requires.from c.requires.to did.does.is)

pub returns-clause-refused : goal.returns-clause-refused
returns-clause-refused g c = refused_untouched g.T.Opened.opening g.T.Opened.outset.told c.args.self.now.seat c.move_reservation-result.new.self _ c.move_reservation-result.result c.move_reservation-result.ensures.moves.refused

pub returns-clause-grows : goal.returns-clause-grows
returns-clause-grows g c = grows_moved g.T.Opened.opening g.T.Opened.outset.told c.args.self.now.seat c.move_reservation-result.new.self _ c.args.from.now.tracker _ _ c.move_reservation-result.result c.move_reservation-result.ensures.moves.ok c.move_reservation-result.ensures.moves.refused c.move_reservation-result.ensures.moves.err

pub returns-clause-entries : goal.returns-clause-entries
returns-clause-entries g c = on_ok_so c.move_reservation-result.result c.move_reservation-result.ensures.moves.ok (λ did. did_made g.T.Opened.opening g.T.Opened.outset.told c.args.self.now.seat c.move_reservation-result.new.self did)
