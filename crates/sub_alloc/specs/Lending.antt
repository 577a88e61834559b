-- What a suballocator has of a store, and what refuses it a piece. Lengths are in bytes.
use Rattle.std.specs.Prelude.{◌≡◌, ◌≢◌, ℕ, ◌+◌, ◌*◌, leb, nat_lt, if◌then◌else◌, length, is_some, List, [], ◌∷◌, Option, None, Some, IsSome}
use Rattle.std.specs.List.{count_by}
use Rattle.pool_model.specs.declared.event.Event.{Event}
use Rattle.pool_model.specs.declared.event.Event.TheVariants.{Free}
use Rattle.store_api.specs.Changes.{after_free}
use Rattle.store_api.specs.Conditions.{IsLoan}
use Rattle.store_api.specs.Holdings.{Holdings, LiveLoan, LivePage, account_of, unused_of}
use Rattle.store_api.specs.Tokens.{LoanToken}
use Rattle.sub_alloc.specs.declared.sub_err.SubErr.{SubErr}
use Rattle.sub_alloc.specs.declared.sub_err.SubErr.TheVariants.{Full, NoRoom}
use Rattle.sub_alloc.specs.Pieces.{Division, buffer, buffer_len}
use Rattle.sub_alloc.specs.Rules.{class_for, first_closed, first_from}

-- a loan of this client is the store's, and live
pub record IsOwn (t : ℕ) (h : Holdings) (loan : LoanToken) : Type 0 where
  pub is : IsLoan loan h
  pub client : loan.client ≡ t

-- how many buffers are open
abbrev pub open_buffers : Division → ℕ
open_buffers d = count_by is_some d.buffers

-- the allocator's open buffers are loans of this client, each another; the client has nothing else in the store, and is
-- charged for just these
pub record IsAllocOf (t : ℕ) (h : Holdings) (d : Division) : Type 0 where
  pub lives : IsSome (h.clients t)
  pub block_len : d.block_len ≡ h.block_len
  pub own : (u : ℕ) (loan : LoanToken) → buffer u d ≡ Some loan → IsOwn t h loan
  pub apart : (u v : ℕ) (loan other : LoanToken) → buffer u d ≡ Some loan → buffer v d ≡ Some other → loan.number ≡ other.number → u ≡ v
  pub pages : (q : ℕ) (page : LivePage) → h.pages q ≡ Some page → page.client ≢ t
  pub only : (q : ℕ) (lent : LiveLoan) → h.loans q ≡ Some lent → lent.client ≡ t → (u : ℕ) × (loan : LoanToken) × (buffer u d ≡ Some loan) × (loan.number ≡ q)
  pub charge : unused_of t h + open_buffers d * buffer_len d ≡ (account_of t h).reservation

-- what refuses a new buffer before the store is asked: all are open, or the client has fewer bytes unused than it needs
abbrev pub refusal_new : ℕ → Division → Holdings → Option SubErr
refusal_new t d h =
    if nat_lt (first_closed d) (length d.buffers) then (if leb (buffer_len d) (unused_of t h) then None else Some (NoRoom (buffer_len d) (unused_of t h)))
    else Some (Full (length d.buffers))

-- what refuses a piece then: nothing where a free one is long enough
abbrev pub refusal : ℕ → ℕ → Division → Holdings → Option SubErr
refusal bytes t d h = if nat_lt (first_from (class_for d bytes) d.free) d.classes then None else refusal_new t d h

-- the store where a buffer was freed, if one was
abbrev pub after_freed : Option LoanToken → Holdings → Holdings
after_freed None h = h
after_freed (Some loan) h = after_free loan.number h

-- and what that enters in its trail
abbrev pub freed_events : Option LoanToken → List Event
freed_events None = []
freed_events (Some loan) = Free loan.number ∷ []
