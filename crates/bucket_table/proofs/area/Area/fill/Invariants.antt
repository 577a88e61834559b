use Rattle.store_api.specs.Signs.{Grows}
use Rattle.bucket_table.specs.Entering.{EnteredLoans}
use Rattle.bucket_table.specs.Filling.{Fills}
use Rattle.bucket_table.proofs.area.Area.fill.Given as goal

abbrev pub invariant-loop-i : goal.invariant-loop-i
invariant-loop-i g l = record {
  filled : Fills l.c.tracker l._i l.initial.self l.self (g.St.Store.holds l.initial.store) (g.St.Store.holds l.store);
  grows : Grows (g.St.Store.signs l.initial.store) (g.St.Store.signs l.store);
  entries : EnteredLoans (g.St.Store.signs l.initial.store).trail (g.St.Store.signs l.store).trail;
}
