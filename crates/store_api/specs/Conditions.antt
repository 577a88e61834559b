-- What the calls of a store need. Lengths are in bytes.
use Rattle.std.specs.Prelude.{◌≡◌, ◌≢◌, ℕ, ◌≤◌, ◌==◌, [], ◌∷◌, IsTrue, true, Option, Some, None, IsSome, replicate}
use Rattle.std.specs.List.{list_any}
use Rattle.block_arena.specs.Memory.{Buffer, IsBufferOf}
use Rattle.store_api.specs.Tokens.{ClientToken, PageToken, LoanToken}
use Rattle.store_api.specs.Holdings.{Account, LivePage, LiveLoan, Holdings, length_of, page_of, loan_of}
use Rattle.store_api.specs.Changes.{after_create, after_alloc, after_add_client}

-- how many blocks a page or a loan may have
abbrev pub IsBlockCount : ℕ → Type 0
IsBlockCount n = IsTrue (list_any (λ blocks. blocks == n) (1 ∷ 2 ∷ 4 ∷ 8 ∷ 16 ∷ 32 ∷ 64 ∷ 128 ∷ 256 ∷ []))

-- the client is one of the store's, and live
abbrev pub IsLiveClient : ClientToken → Holdings → Type 0
IsLiveClient c h = IsSome (h.clients c.tracker)

-- the page is one of the store's, and live
pub record IsPage (p : PageToken) (h : Holdings) : Type 0 where
  pub lives : IsSome (h.pages p.name)
  pub key : (page_of p.name h).key ≡ p.key
  pub client : (page_of p.name h).client ≡ p.client

-- the buffer is one of a page or a loan of so many blocks
abbrev pub Fits : ℕ → Holdings → Buffer → Type 0
Fits blocks h buf = IsBufferOf blocks h.block_len buf

-- the loan is one of the store's, and live, with a buffer of its length
pub record IsLoan (l : LoanToken) (h : Holdings) : Type 0 where
  pub lives : IsSome (h.loans l.number)
  pub client : (loan_of l.number h).client ≡ l.client
  pub buffer : Fits (loan_of l.number h).blocks h l.buf

-- the buffer of a page that is to end: there is one exactly where the page is pinned
abbrev pub IsHeld : PageToken → Holdings → Option Buffer → Type 0
IsHeld p h None = (page_of p.name h).pins ≡ 0
IsHeld p h (Some buf) = (1 ≤ (page_of p.name h).pins) × Fits (page_of p.name h).blocks h buf

-- a client has no page and no loan
pub record IsIdle (t : ℕ) (h : Holdings) : Type 0 where
  pub pages : (q : ℕ) (page : LivePage) → h.pages q ≡ Some page → page.client ≢ t
  pub loans : (q : ℕ) (loan : LiveLoan) → h.loans q ≡ Some loan → loan.client ≢ t

-- an account's unused bytes are of its reservation, which is of its limit and of the query's reservation
pub record FitsAccount (account : Account) (h : Holdings) : Type 0 where
  pub unused : account.unused ≤ account.reservation
  pub reservation : account.reservation ≤ account.limit
  pub query : account.reservation ≤ h.reservation

-- the query's room is of its reservation, which is of its limit
pub record FitsQuery (h : Holdings) : Type 0 where
  pub room : h.room ≤ h.reservation
  pub reservation : h.reservation ≤ h.limit

-- a client came: a new one, with a tracker under the query's, and neither page nor loan
pub record IsNewClient (c : ClientToken) (limit : ℕ) (old new : Holdings) : Type 0 where
  pub fresh : old.clients c.tracker ≡ None
  pub under : c.tracker ≢ old.query
  pub idle : IsIdle c.tracker old
  pub session : c.session ≡ old.session
  pub holdings : new ≡ after_add_client c.tracker limit old

-- a buffer of zeros of so many blocks
pub record IsZeroed (blocks : ℕ) (h : Holdings) (buf : Buffer) : Type 0 where
  pub fits : Fits blocks h buf
  pub zeros : buf.bytes ≡ replicate (length_of blocks h) 0

-- a page came: a new one, pinned by this client, with a buffer of zeros
pub record IsNewPage (c : ClientToken) (blocks : ℕ) (made : PageToken × Buffer) (old new : Holdings) : Type 0 where
  pub fresh : old.pages made.0.name ≡ None
  pub client : made.0.client ≡ c.tracker
  pub buffer : IsZeroed blocks old made.1
  pub holdings : new ≡ after_create made.0.name made.0.key c.tracker blocks old

-- a loan came: a new one, of this client, with a buffer of zeros
pub record IsNewLoan (c : ClientToken) (blocks : ℕ) (loan : LoanToken) (old new : Holdings) : Type 0 where
  pub fresh : old.loans loan.number ≡ None
  pub client : loan.client ≡ c.tracker
  pub buffer : IsZeroed blocks old loan.buf
  pub holdings : new ≡ after_alloc loan.number c.tracker blocks old

-- a buffer of a page; where the store tells what was left, it shows the bytes last left in the page
pub record ShowsLeft (page : LivePage) (h : Holdings) (buf : Buffer) : Type 0 where
  pub fits : Fits page.blocks h buf
  pub bytes : h.told ≡ true → buf.bytes ≡ page.left
