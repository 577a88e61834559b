use Rattle.std.proofs.Common.{◌≡◌}
use Rattle.group_op.specs.Operator.{IsOperator, IsSame}
use Rattle.tests_operators.proofs.tests.partials.feed_partials.Given as goal

abbrev pub invariant-loop-group : goal.invariant-loop-group
invariant-loop-group g l = record {
  op : IsOperator l.op (g.St.Store.holds l.store) (g.St.Store.signs l.store);
  same : IsSame l.initial.op l.op;
  clients : (g.St.Store.holds l.store).live_clients ≡ (g.St.Store.holds l.initial.store).live_clients;
}
