use Rattle.spill_top.proofs.Plain.{memory_line}
use Rattle.spill_top.proofs.report.refuse_memory.Goals as goal

pub returns-clause-tells : goal.returns-clause-tells
returns-clause-tells g c = rw memory_line c.tell.ensures.tells
