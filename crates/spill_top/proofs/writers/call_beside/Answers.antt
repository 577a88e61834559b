use Rattle.std.proofs.Common.{rules}
use Rattle.spill_top.proofs.Writing.{change_same, changes_same}
use Rattle.spill_top.proofs.writers.call_beside.Goals as goal

pub returns-clause-each : goal.returns-clause-each
returns-clause-each g c = changes_same g.E.Fn c.args.each.now c.args.items.now c.join_mut.new.f.2.now _ (search rules) c.join_mut.ensures.0.met.1

pub returns-clause-stops : goal.returns-clause-stops
returns-clause-stops g c = change_same g.Z.Fn c.args.stop.now c.args.last.now c.join_mut.new.g.2.now _ (search rules) c.join_mut.ensures.1.met.1.1
