use Rattle.session_calls.proofs.Throughout.{fits_throughout}
use Rattle.pool.proofs.session.Session.law_throughout.Goals as goal

pub returns : goal.returns
returns g c = fits_throughout g.T.Opened.opening _ c.law_sits.ensures.legal
