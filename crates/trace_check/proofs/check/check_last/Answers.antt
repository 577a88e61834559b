use Rattle.std.proofs.Common.{◌≤◌, sym, inr, arith}
use Rattle.trace_check.proofs.Progress.{stopped, finished, few_entries}
use Rattle.trace_check.proofs.check.check_last.Goals as goal

pub returns-in-Some : goal.returns-in-Some
returns-in-Some c = finished c.args._bytes.now c.args._follower.now c.args.entries c.args.rest.now c.in-Some.whole c.requires.underway (sym c.in-Some.ensures)

pub returns-in-None : goal.returns-in-None
returns-in-None c = inr (stopped c.args._bytes.now c.args._follower.now c.args.entries c.args.rest.now c.requires.underway c.requires.none (sym c.in-None.ensures))

pub overflow_add-result : goal.overflow_add-result
overflow_add-result c = let few : c.args.entries ≤ 268435456 = few_entries c.args._bytes.now c.args._follower.now c.args.entries c.args.rest.now c.requires.underway in omega (arith, few)
