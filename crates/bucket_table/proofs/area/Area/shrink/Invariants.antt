use Rattle.std.proofs.Common.{◌≤◌, length}
use Rattle.store_api.specs.Signs.{Grows}
use Rattle.bucket_table.specs.Entering.{EnteredLoans}
use Rattle.bucket_table.specs.Filling.{Shrinks}
use Rattle.bucket_table.proofs.area.Area.shrink.Given as goal

abbrev pub invariant-loop-self : goal.invariant-loop-self
invariant-loop-self g l = record {
  went : Shrinks l.initial.self l.self (g.St.Store.holds l.initial.store) (g.St.Store.holds l.store);
  keep : l.keep ≤ length l.self.loans;
  grows : Grows (g.St.Store.signs l.initial.store) (g.St.Store.signs l.store);
  entries : EnteredLoans (g.St.Store.signs l.initial.store).trail (g.St.Store.signs l.store).trail;
}

abbrev pub decreases-loop-self : goal.decreases-loop-self
decreases-loop-self g l = length l.self.loans
