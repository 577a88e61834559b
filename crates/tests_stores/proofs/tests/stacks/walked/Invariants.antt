use Rattle.std.proofs.Common.{◌≡◌}
use Rattle.partition_stack.specs.Stack.{over}
use Rattle.partition_stack.specs.Changes.{Owns}
use Rattle.tests_stores.proofs.tests.stacks.walked.Given as goal

abbrev pub invariant-loop-s : goal.invariant-loop-s
invariant-loop-s g l = record {
  owns : Owns l.c.tracker 0 (over l.parts (g.St.Store.holds l.store) (g.St.Store.signs l.store));
  loans : (g.St.Store.holds l.store).loans ≡ (g.St.Store.holds l.initial.store).loans;
  clients : (g.St.Store.holds l.store).live_clients ≡ (g.St.Store.holds l.initial.store).live_clients;
}
