use Rattle.std.proofs.Common.{◌≡◌, None, rules}
use Rattle.query_run.proofs.Alone.{grouping, none_of}
use Rattle.query_run.proofs.run.run_query.Goals as goal

pub run_grouped-requires-clause-plan : goal.run_grouped-requires-clause-plan
run_grouped-requires-clause-plan g c = grouping c.args.plan.now c.requires.plan (none_of c.args.plan.now.right (search rules))

pub returns-in-None : goal.returns-in-None
returns-in-None g c = let none : c.args.right.now ≡ None = search rules in rw none c.run_grouped.ensures
