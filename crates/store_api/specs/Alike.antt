-- When a store holds the same as before, number by number.
use Rattle.std.specs.Prelude.{◌≡◌, ℕ}
use Rattle.store_api.specs.Holdings.{Holdings}

-- the query's own numbers are the same, and so are pages, loans and free slots
pub record AlikeButClients (old new : Holdings) : Type 0 where
  pub block_len : new.block_len ≡ old.block_len
  pub session : new.session ≡ old.session
  pub query : new.query ≡ old.query
  pub limit : new.limit ≡ old.limit
  pub live_clients : new.live_clients ≡ old.live_clients
  pub free_slots : new.free_slots ≡ old.free_slots
  pub told : new.told ≡ old.told
  pub pages : (q : ℕ) → new.pages q ≡ old.pages q
  pub loans : (q : ℕ) → new.loans q ≡ old.loans q

-- all is the same
pub record Alike (old new : Holdings) : Type 0 where
  pub rest : AlikeButClients old new
  pub reservation : new.reservation ≡ old.reservation
  pub room : new.room ≡ old.room
  pub above : new.above ≡ old.above
  pub clients : (q : ℕ) → new.clients q ≡ old.clients q
