use Rattle.std.proofs.Common.{rules}
use Rattle.spill_top.proofs.Writing.{changes_same}
use Rattle.spill_top.proofs.writers.each_beside_writers.Goals as goal

pub returns-clause-each : goal.returns-clause-each
returns-clause-each g c = changes_same g.E.Fn c.args.each.now c.args.jobs.now c.beside_writers.new.work.2.now _ (search rules) c.beside_writers.ensures.works.met.1
