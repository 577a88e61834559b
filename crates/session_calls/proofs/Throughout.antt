-- A legal history fits the pool at each entry.
use Rattle.std.proofs.Common.{List, subst}
use Rattle.pool_model.specs.declared.entry.Entry.{Entry}
use Rattle.pool_model.specs.State.{Opening}
use Rattle.pool_model.specs.Legal.{IsLegal}
use Rattle.pool_model.proofs.Kept.{legal_fits_clients, legal_fits_memory, legal_fits_trackers}
use Rattle.pool_model.proofs.Fronts.{legal_fronts}
use Rattle.session_calls.specs.Throughout.{FitsThroughout}

pub fits_throughout : (o : Opening) (h : List Entry) → IsLegal o h → FitsThroughout o h
fits_throughout o h legal front more is =
    let so : IsLegal o front = legal_fronts o front more (subst (IsLegal o) is legal) in
    record { trackers = legal_fits_trackers o front so; clients = legal_fits_clients o front so; memory = legal_fits_memory o front so }
