use Rattle.group_op.proofs.Opened.{had_opened}
use Rattle.group_op.proofs.feeding.open_table.Goals as goal

pub returns-then-is_some-clause-has : goal.returns-then-is_some-clause-has
returns-then-is_some-clause-has g c = had_opened c.args.c.now c.args.shape.now c.args.parts.now c.args.table.now (g.St.Store.holds c.args.store.now) (g.St.Store.signs c.args.store.now) c.requires
