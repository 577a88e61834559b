-- What a session's ledger tells.
use Rattle.std.specs.Prelude.{◌≡◌, ℕ, ◌+◌, ◌==◌, List, true, if◌then◌else◌, is_some, length, option_map}
use Rattle.pool.specs.declared.account.ClientAccount.{ClientAccount}
use Rattle.pool.specs.Unused.{unused_in}
use Rattle.store_api.specs.Holdings.{Holdings}
use Rattle.pool.specs.declared.ledger.Ledger.{Ledger}

-- there is an account of each client, and no other
pub record HasClients (accounts : List ClientAccount) (h : Holdings) : Type 0 where
  pub each : (t : ℕ) → is_some (unused_in accounts t) ≡ is_some (h.clients t)
  pub count : length accounts ≡ h.live_clients

-- the room of the query, and what each client may still charge
pub record TellsHeld (ledger : Ledger) (h : Holdings) : Type 0 where
  pub room : ledger.room ≡ h.room
  pub accounts : (t : ℕ) → unused_in ledger.accounts t ≡ option_map (λ account. account.unused) (h.clients t)
  pub count : length ledger.accounts ≡ h.live_clients

-- there is an account of one client more
pub record HasOneMore (t : ℕ) (old new : List ClientAccount) : Type 0 where
  pub each : (q : ℕ) → is_some (unused_in new q) ≡ (if q == t then true else is_some (unused_in old q))
  pub count : length new ≡ length old + 1
