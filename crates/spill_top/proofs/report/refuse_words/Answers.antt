use Rattle.spill_top.proofs.Plain.{usage_line}
use Rattle.spill_top.proofs.report.refuse_words.Goals as goal

pub returns-clause-tells : goal.returns-clause-tells
returns-clause-tells g c = rw usage_line c.tell.ensures.tells
