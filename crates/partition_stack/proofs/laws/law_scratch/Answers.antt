use Rattle.partition_stack.proofs.Scratch.{all_few_in_all, pages_are_few, slots_suffice, want_comes_late}
use Rattle.partition_stack.proofs.laws.law_scratch.Goals as goal

pub returns-clause-few : goal.returns-clause-few
returns-clause-few c = all_few_in_all c.law_few_pages.ensures.law

pub returns-clause-slots : goal.returns-clause-slots
returns-clause-slots c = slots_suffice

pub returns-clause-pages : goal.returns-clause-pages
returns-clause-pages c = pages_are_few c.law_few_pages.ensures.law

pub returns-clause-want : goal.returns-clause-want
returns-clause-want c = want_comes_late
