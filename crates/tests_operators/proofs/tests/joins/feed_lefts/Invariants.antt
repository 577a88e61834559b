use Rattle.std.proofs.Common.{◌≡◌}
use Rattle.join_op.specs.Operator.{HasNoRight, IsFeeding, IsOperator, IsSame}
use Rattle.tests_operators.proofs.tests.joins.feed_lefts.Given as goal

abbrev pub invariant-loop-key : goal.invariant-loop-key
invariant-loop-key g l = record {
  op : IsOperator l.op (g.St.Store.holds l.store) (g.St.Store.signs l.store);
  feeding : IsFeeding l.op;
  first : HasNoRight l.op;
  same : IsSame l.initial.op l.op;
  clients : (g.St.Store.holds l.store).live_clients ≡ (g.St.Store.holds l.initial.store).live_clients;
}
