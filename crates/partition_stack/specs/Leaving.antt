-- Where an operator may start, and what its calls leave to the others of its store. Lengths are in bytes.
use Rattle.std.specs.Prelude.{◌≡◌, ◌≢◌, ℕ, ◌+◌, ◌*◌, ◌≤◌, Some}
use Rattle.store_api.specs.Conditions.{IsIdle, IsLiveClient}
use Rattle.store_api.specs.Holdings.{Holdings, LiveLoan, account_of, length_of, unused_of}
use Rattle.store_api.specs.Tokens.{ClientToken}
use Rattle.store_api.specs.Emitters.{OthersStay}
use Rattle.store_api.specs.Signs.{Grows, Signs, WasAnswered}
use Rattle.store_api.specs.declared.op_err.OpErr.{OpErr}
use Rattle.store_api.specs.declared.op_err.OpErr.TheVariants.{Pool, Sink}
use Rattle.tuple_stream.specs.Touches.{IsFull}

-- the client is live, has twenty pages reserved, and nothing that is charged
pub record MayStart (c : ClientToken) (blocks : ℕ) (h : Holdings) : Type 0 where
  pub lives : IsLiveClient c h
  pub idle : IsIdle c.tracker h
  pub least : 20 * length_of blocks h ≤ (account_of c.tracker h).reservation
  pub free : unused_of c.tracker h ≡ (account_of c.tracker h).reservation

-- the client has no loan
abbrev pub HasNoLoan : ℕ → Holdings → Type 0
HasNoLoan t h = (q : ℕ) (loan : LiveLoan) → h.loans q ≡ Some loan → loan.client ≢ t

-- calls changed nothing of other clients; what the client reserves didn't fall, and the query has with it at least what it
-- had
pub record LeavesOthers (t : ℕ) (old new : Holdings) (before after : Signs) : Type 0 where
  pub others : OthersStay (Some t) old new
  pub grows : Grows before after
  pub reserved : (account_of t old).reservation ≤ (account_of t new).reservation
  pub room : old.room + (account_of t old).reservation ≤ new.room + (account_of t new).reservation

-- the store answered so in between; want of slots is told with the blocks of a page
abbrev pub CameOfStore : ℕ → Holdings → Signs → Signs → OpErr → Type 0
CameOfStore blocks h before after (Pool e) = WasAnswered e before after × IsFull blocks h.free_slots e
CameOfStore blocks h before after Sink = ⊥
