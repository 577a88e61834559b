use Rattle.std.proofs.Common.{◌≡◌, None, refl, rules}
use Rattle.group_op.proofs.Inlets.{one_poured, stopped_so}
use Rattle.group_op.specs.Pouring.{TakesRow}
use Rattle.store_api.specs.Signs.{WasAnswered}
use Rattle.group_op.proofs.pouring.Inlet.take.Goals as goal

pub returns-in_default-clause-ok : goal.returns-in_default-clause-ok
returns-in_default-clause-ok g c = λ was rows poured.
    let takes : TakesRow c.args.row.now c.args.self.now.into.now (g.St.Store.holds c.args.self.now.beside.now) (g.St.Store.signs c.args.self.now.beside.now) c.take_part.new.into (g.St.Store.holds c.take_part.new.beside) (g.St.Store.signs c.take_part.new.beside) = search rules in
    one_poured was _ _ refl refl c.take_part.ensures.same c.take_part.ensures.leaves rows c.args.row.now c.args.self.now.stopped takes poured

pub returns-clause-err : goal.returns-clause-err
returns-clause-err g c = λ was rows poured.
    let none : c.args.self.now.stopped ≡ None = search rules in
    let answered : WasAnswered c.in-Err.e (g.St.Store.signs c.args.self.now.beside.now) (g.St.Store.signs c.take_part.new.beside) = search rules in
    stopped_so was _ _ refl refl c.take_part.ensures.same c.take_part.ensures.leaves rows c.in-Err.e c.args.self.now.stopped none answered poured
