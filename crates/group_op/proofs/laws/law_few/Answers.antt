use Rattle.group_op.proofs.Made.{few_pages, few_slots}
use Rattle.group_op.proofs.laws.law_few.Goals as goal

pub returns-clause-pages : goal.returns-clause-pages
returns-clause-pages c = few_pages

pub returns-clause-slots : goal.returns-clause-slots
returns-clause-slots c = few_slots
