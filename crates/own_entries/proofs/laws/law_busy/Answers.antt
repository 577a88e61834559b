use Rattle.own_entries.proofs.BusyTold.{legal_busy_pages_are_told}
use Rattle.own_entries.proofs.laws.law_busy.Goals as goal

pub returns : goal.returns
returns c = legal_busy_pages_are_told
