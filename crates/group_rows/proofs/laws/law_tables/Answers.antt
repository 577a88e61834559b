use Rattle.group_rows.proofs.Tables.{behind, into_entry}
use Rattle.group_rows.proofs.laws.law_tables.Goals as goal

pub returns-clause-entry : goal.returns-clause-entry
returns-clause-entry c = into_entry

pub returns-clause-new_entry : goal.returns-clause-new_entry
returns-clause-new_entry c = behind
