use Rattle.pin_core.proofs.Summed.{sums_begin, sums_stay, sums_stay_refused, sums_grow_written, sums_grow_read, sums_end}
use Rattle.pin_core.proofs.tally.law_sums.Goals as goal

pub returns-clause-begin : goal.returns-clause-begin
returns-clause-begin g c = sums_begin g.D.Slot

pub returns-clause-stay : goal.returns-clause-stay
returns-clause-stay g c = sums_stay g.D.Slot

pub returns-clause-refused : goal.returns-clause-refused
returns-clause-refused g c = sums_stay_refused g.D.Slot

pub returns-clause-written : goal.returns-clause-written
returns-clause-written g c = sums_grow_written g.D.Slot

pub returns-clause-read : goal.returns-clause-read
returns-clause-read g c = sums_grow_read g.D.Slot

pub returns-clause-end : goal.returns-clause-end
returns-clause-end g c = sums_end g.D.Slot
