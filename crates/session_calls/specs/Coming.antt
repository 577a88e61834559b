-- What comes with calls.
use Rattle.std.specs.Prelude.{◌≡◌, ◌≢◌, ◌++◌, ℕ, List, None, true, All, map}
use Rattle.block_arena.specs.Memory.{Buffer}
use Rattle.pool_model.specs.declared.event.Event.{Event}
use Rattle.pool_model.specs.declared.event.Event.TheVariants.{Evict}
use Rattle.pin_core.specs.calls.Evictions.{names_gone}
use Rattle.store_api.specs.Tokens.{ClientToken, PageToken, LoanToken}
use Rattle.store_api.specs.Holdings.{Holdings}
use Rattle.store_api.specs.Signs.{Signs}
use Rattle.store_api.specs.Conditions.{IsIdle, IsZeroed}
use Rattle.store_api.specs.Entries.{IsEvict, IsAboveNames}
use Rattle.session_calls.specs.declared.hand.Hand.{Hand}

-- clean pages made room, and then it ended so
abbrev pub Evicts : List Event → List Event → Type 0
Evicts last events = (evicts : List Event) × All IsEvict evicts × (events ≡ evicts ++ last)

-- the clean pages that go, so that so many blocks are free; they may be others'
abbrev pub evicts_for : {D : Type 0} → ℕ → Hand D → List Event
evicts_for blocks hand = map Evict (names_gone blocks hand.state)

-- a client that wasn't there
pub record IsFresh (c : ClientToken) (h : Holdings) : Type 0 where
  pub fresh : h.clients c.tracker ≡ None
  pub under : c.tracker ≢ h.query
  pub idle : IsIdle c.tracker h
  pub session : c.session ≡ h.session

-- a page that wasn't there, with a name above all, and its buffer of zeros
pub record IsFreshPage (t blocks : ℕ) (made : PageToken × Buffer) (h : Holdings) (signs : Signs) : Type 0 where
  pub fresh : h.pages made.0.name ≡ None
  pub client : made.0.client ≡ t
  pub buffer : IsZeroed blocks h made.1
  pub unspent : signs.spent ≢ true
  pub above : IsAboveNames made.0.name signs.trail

-- a loan that wasn't there, with its buffer of zeros
pub record IsFreshLoan (t blocks : ℕ) (loan : LoanToken) (h : Holdings) : Type 0 where
  pub fresh : h.loans loan.number ≡ None
  pub client : loan.client ≡ t
  pub buffer : IsZeroed blocks h loan.buf
