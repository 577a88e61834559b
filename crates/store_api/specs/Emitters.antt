-- What an emitter asks of a store, and what it leaves.
use Rattle.std.specs.Prelude.{◌≡◌, ◌≢◌, ℕ, ◌+◌, ◌%◌, ◌<◌, ◌≤◌, ◌↔◌, List, length, Option, Some, None, IsSome, option_map, ⊤}
use Rattle.outside.specs.Counts.{Rose}
use Rattle.pool_model.specs.LookingBack.{names_in}
use Rattle.row_codec.specs.declared.values.Value.{Value}
use Rattle.store_api.specs.Holdings.{LivePage, LiveLoan, Holdings, account_of}
use Rattle.store_api.specs.Alike.{Alike}
use Rattle.store_api.specs.Signs.{Signs, Grows, Entered, WasAnswered}
use Rattle.reservation_tree.specs.declared.errors.PoolErr.TheVariants.{ScratchFull}
use Rattle.store_api.specs.declared.op_err.OpErr.{OpErr}
use Rattle.store_api.specs.declared.op_err.OpErr.TheVariants.{Pool, Sink}

-- a client has the same account, pages and loans
pub record SameFor (t : ℕ) (old new : Holdings) : Type 0 where
  pub account : new.clients t ≡ old.clients t
  pub pages : (q : ℕ) (page : LivePage) → page.client ≡ t → (new.pages q ≡ Some page) ↔ (old.pages q ≡ Some page)
  pub loans : (q : ℕ) (loan : LiveLoan) → loan.client ≡ t → (new.loans q ≡ Some loan) ↔ (old.loans q ≡ Some loan)

-- nothing that an emitter with this client asks for changed: the block length, whether pages show what was left in
-- them, and what is that client's
pub record SameOwn (client : Option ℕ) (old new : Holdings) : Type 0 where
  pub block_len : new.block_len ≡ old.block_len
  pub told : new.told ≡ old.told
  pub own : (t : ℕ) → client ≡ Some t → SameFor t old new

-- whatever isn't this client's is as before, and the query's reservation didn't fall; where there is no client, all is as
-- before, the query's own numbers too
pub record OthersStay (client : Option ℕ) (old new : Holdings) : Type 0 where
  pub block_len : new.block_len ≡ old.block_len
  pub session : new.session ≡ old.session
  pub query : new.query ≡ old.query
  pub limit : new.limit ≡ old.limit
  pub live_clients : new.live_clients ≡ old.live_clients
  pub told : new.told ≡ old.told
  pub reservation : old.reservation ≤ new.reservation
  pub others : (t : ℕ) → client ≢ Some t → SameFor t old new
  pub alone : client ≡ None → Alike old new

-- the emitter's client, where it has one, is live
abbrev pub HasClient : Option ℕ → Holdings → Type 0
HasClient None h = ⊤
HasClient (Some t) h = IsSome (h.clients t)

-- the query's room and the reservation of the emitter's client together didn't fall; without a client all is as before
abbrev pub KeepsRoom : Option ℕ → Holdings → Holdings → Type 0
KeepsRoom None old new = ⊤
KeepsRoom (Some t) old new = old.room + (account_of t old).reservation ≤ new.room + (account_of t new).reservation

-- the free slots of the quota, and so many more
abbrev pub slots_with : ℕ → Holdings → Option ℕ
slots_with more h = option_map (λ free. free + more) h.free_slots

-- an emitter stays what it is: the rows that it admits, its client, and the most slots that its pages have once it took
-- these rows
pub record IsSameEmitter (admits_old admits : List Value → Type 0) (client_old client : Option ℕ) (slots_for_old slots_for : List (List Value) → ℕ) : Type 0 where
  pub admits_same : (row : List Value) → admits_old row ↔ admits row
  pub client_same : client ≡ client_old
  pub slots_same : (rows : List (List Value)) → slots_for rows ≡ slots_for_old rows

-- what a call of an emitter shows of its store, which knows that it has made so many pages before it and behind it:
-- without a client nothing grew
pub record GrowsBy (client : Option ℕ) (creates_old creates : ℕ) (old new : Signs) : Type 0 where
  pub grows : Grows old new
  pub alone : client ≡ None → new ≡ old
  pub pages : Entered (λ more. creates_old + length (names_in more) ≤ creates) old.trail new.trail

-- of so many slots, where there is a quota, pages of so many blocks leave these over; and they are fewer than `most`
abbrev pub LeavesOver : ℕ → ℕ → Option ℕ → ℕ → Type 0
LeavesOver blocks most None free = ⊥
LeavesOver blocks most (Some total) free = (free ≡ total % blocks) × (total < most)

-- an error that is a want of slots tells the blocks of a page, and the free slots: those that pages leave over
abbrev pub WantsSlots : ℕ → ℕ → Option ℕ → OpErr → Type 0
WantsSlots blocks most total (Pool (ScratchFull need free)) = (need ≡ blocks) × LeavesOver blocks most total free
WantsSlots blocks most total _ = ⊤

-- an error came of the store, or of a fault of the sink, in this call
abbrev pub CameOf : ℕ → ℕ → Signs → Signs → OpErr → Type 0
CameOf faults_old faults_new old new (Pool e) = WasAnswered e old new
CameOf faults_old faults_new old new Sink = Rose faults_old faults_new
