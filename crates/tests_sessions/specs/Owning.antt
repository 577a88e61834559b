-- What a store holds of one client with one page.
use Rattle.std.specs.Prelude.{◌≡◌, ◌≢◌, ℕ, None}
use Rattle.store_api.specs.Conditions.{IsLiveClient, IsPage}
use Rattle.store_api.specs.Holdings.{Holdings, page_of}
use Rattle.store_api.specs.Tokens.{ClientToken, PageToken}

-- it has so many clients, and neither page nor loan
pub record IsBare (clients : ℕ) (h : Holdings) : Type 0 where
  pub live_clients : h.live_clients ≡ clients
  pub pages : (p : ℕ) → h.pages p ≡ None
  pub loans : (f : ℕ) → h.loans f ≡ None

-- it has one client, this one, and of it one page of one block, this one, which rests, and no loan
pub record Rests (c : ClientToken) (p : PageToken) (h : Holdings) : Type 0 where
  pub live_clients : h.live_clients ≡ 1
  pub client : IsLiveClient c h
  pub page : IsPage p h
  pub its : p.client ≡ c.tracker
  pub pins : (page_of p.name h).pins ≡ 0
  pub blocks : (page_of p.name h).blocks ≡ 1
  pub others : (q : ℕ) → q ≢ p.name → h.pages q ≡ None
  pub loans : (f : ℕ) → h.loans f ≡ None
