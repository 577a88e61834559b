use Rattle.pool_model.proofs.Unique.{marks_are_unique, legal_marks_show_content}
use Rattle.pool_model.proofs.laws.law_marks.Goals as goal

pub returns-clause-unique : goal.returns-clause-unique
returns-clause-unique c = marks_are_unique

pub returns-clause-content : goal.returns-clause-content
returns-clause-content c = legal_marks_show_content
