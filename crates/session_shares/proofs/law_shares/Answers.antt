use Rattle.session_shares.proofs.Laid.{laid_is_stored}
use Rattle.session_shares.proofs.Names.{names_fit}
use Rattle.session_shares.proofs.Parts.{parts_fit}
use Rattle.session_shares.proofs.law_shares.Goals as goal

pub returns-clause-stored : goal.returns-clause-stored
returns-clause-stored c = laid_is_stored

pub returns-clause-parts : goal.returns-clause-parts
returns-clause-parts c = parts_fit

pub returns-clause-names : goal.returns-clause-names
returns-clause-names c = names_fit
