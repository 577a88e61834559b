use Rattle.partition_stack.proofs.Making.{few_none}
use Rattle.join_op.proofs.LeafEnds.{loans_make}
use Rattle.join_op.proofs.holding.Held.give.Goals as goal

pub returns-in-Some-clause-made : goal.returns-in-Some-clause-made
returns-in-Some-clause-made g c = loans_make (g.St.Store.signs c.args.store.now) (g.St.Store.signs c.close.new.store) c.close.ensures.entries

pub returns-in_default-clause-made : goal.returns-in_default-clause-made
returns-in_default-clause-made g c = few_none (g.St.Store.signs c.args.store.now)
