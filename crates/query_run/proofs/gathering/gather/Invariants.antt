use Rattle.query_run.specs.Gathering.{GatheredTo}
use Rattle.query_run.proofs.gathering.gather.Given as goal

abbrev pub invariant-loop-place : goal.invariant-loop-place
invariant-loop-place g l = GatheredTo g.St.Store l.place l.initial.stores l.initial.ops l.initial.beside l.initial.into l.stores l.ops l.beside l.into
