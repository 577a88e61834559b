-- What a session holds fits itself. Statements alone.
use Rattle.std.specs.Prelude.{◌≡◌, ℕ, List, Some, None, IsSome}
use Rattle.std.specs.FinMap.{get}
use Rattle.pool_model.specs.declared.entry.Entry.{Entry}
use Rattle.pool_model.specs.State.{Opening, Session}
use Rattle.pool_model.specs.Legal.{state_after, IsLegal}
use Rattle.store_api.specs.Holdings.{Holdings, account_of}
use Rattle.store_api.specs.Conditions.{FitsAccount, FitsQuery}
use Rattle.own_entries.specs.OwnHoldings.{Outset}
use Rattle.own_entries.specs.HeldLaws.{own_holdings}

-- the query's numbers fit, and each client's; and the query's tracker is no client's
pub record FitsHeld (h : Holdings) : Type 0 where
  pub query : FitsQuery h
  pub accounts : (c : ℕ) → IsSome (h.clients c) → FitsAccount (account_of c h) h
  pub apart : h.clients h.query ≡ None

abbrev pub LegalHoldingsFit : Type 0
LegalHoldingsFit =
    (o : Opening) (outset : Outset) (h : List Entry) → IsLegal o h → (m : ℕ) (x : Session) → get (state_after o h).sessions m ≡ Some x → FitsHeld (own_holdings o outset h m)
