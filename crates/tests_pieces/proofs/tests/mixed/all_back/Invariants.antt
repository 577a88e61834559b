use Rattle.std.proofs.Common.{◌≡◌}
use Rattle.sub_alloc.specs.Lending.{IsAllocOf}
use Rattle.tests_pieces.proofs.tests.mixed.all_back.Given as goal

abbrev pub invariant-loop : goal.invariant-loop
invariant-loop g l = record {
  of : IsAllocOf l.c.tracker (g.St.Store.holds l.store) l.pieces;
  clients : (g.St.Store.holds l.store).live_clients ≡ (g.St.Store.holds l.initial.store).live_clients;
}
