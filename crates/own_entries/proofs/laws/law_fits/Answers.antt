use Rattle.own_entries.proofs.Fitting.{legal_holdings_fit}
use Rattle.own_entries.proofs.laws.law_fits.Goals as goal

pub returns : goal.returns
returns c = legal_holdings_fit
