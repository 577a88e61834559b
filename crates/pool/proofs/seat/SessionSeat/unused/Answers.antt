use Rattle.std.proofs.Common.{◌≡◌, sym, subst}
use Rattle.store_api.specs.Holdings.{account_of, unused_of}
use Rattle.store_api.specs.Conditions.{FitsAccount, IsLiveClient}
use Rattle.pool.specs.Sitting.{Sitting, held_by}
use Rattle.pool.proofs.Reading.{account_there, account_tells}
use Rattle.pool.proofs.seat.SessionSeat.unused.Goals as goal

pub unused-requires : goal.unused-requires
unused-requires g c =
    let it : Sitting = record { number = c.self.inside.number; spot = c.self.inside.spot } in
    account_there c.self.inside.ledger (held_by g.T.Opened.opening g.T.Opened.outset.told it) c.self.invariant.tells c.args.c.now.tracker c.tracker.result c.tracker.ensures
    (subst (λ (s : Sitting). IsLiveClient c.args.c.now (held_by g.T.Opened.opening g.T.Opened.outset.told s)) (sym c.self.view_is) c.requires)

pub returns-clause-value : goal.returns-clause-value
returns-clause-value g c =
    let it : Sitting = record { number = c.self.inside.number; spot = c.self.inside.spot } in
    subst (λ (s : Sitting). c.unused.result ≡ unused_of c.args.c.now.tracker (held_by g.T.Opened.opening g.T.Opened.outset.told s)) c.self.view_is
    (account_tells c.self.inside.ledger (held_by g.T.Opened.opening g.T.Opened.outset.told it) c.self.invariant.tells c.args.c.now.tracker c.tracker.result c.tracker.ensures c.unused.result c.unused.ensures)

pub returns-clause-fits : goal.returns-clause-fits
returns-clause-fits g c =
    let it : Sitting = record { number = c.self.inside.number; spot = c.self.inside.spot } in
    subst (λ (s : Sitting). FitsAccount (account_of c.args.c.now.tracker (held_by g.T.Opened.opening g.T.Opened.outset.told s)) (held_by g.T.Opened.opening g.T.Opened.outset.told s)) c.self.view_is
    (c.self.invariant.fits.accounts c.args.c.now.tracker (subst (λ (s : Sitting). IsLiveClient c.args.c.now (held_by g.T.Opened.opening g.T.Opened.outset.told s)) (sym c.self.view_is) c.requires))
