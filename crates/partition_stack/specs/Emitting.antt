-- An emitter beside the calls of an operator. `was` and `now` say what it took before and after.
use Rattle.std.specs.Prelude.{◌≡◌, ◌≢◌, ◌↔◌, ℕ, ◌+◌, ◌≤◌, List, ◌++◌, Option, Some, None}
use Rattle.row_codec.specs.declared.values.Value.{Value}
use Rattle.store_api.specs.Emitters.{HasClient, KeepsRoom, OthersStay, SameFor}
use Rattle.store_api.specs.Holdings.{Holdings, account_of}
use Rattle.store_api.specs.Signs.{Grows, Signs}
use Rattle.partition_stack.specs.Making.{MakesBeside}

-- rows came behind what was taken, whichever they are
abbrev pub WentOn : (List (List Value) → Type 0) → (List (List Value) → Type 0) → Type 0
WentOn was now = (taken : List (List Value)) → was taken → (rows : List (List Value)) × now (taken ++ rows)

-- an emitter's client is another one than this, or it has none, and it lives
pub record IsBeside (t : ℕ) (client : Option ℕ) (h : Holdings) : Type 0 where
  pub apart : client ≢ Some t
  pub lives : HasClient client h

-- an emitter and its store after some rows, for which no page was made but those that it counts
pub record Stood (admits_old admits : List Value → Type 0) (client_old client : Option ℕ) (faults_old faults creates_old creates : ℕ) (old new : Holdings) (before after : Signs) : Type 0 where
  pub admits_same : (row : List Value) → admits_old row ↔ admits row
  pub client_same : client ≡ client_old
  pub lives : HasClient client_old new
  pub never_falls : faults_old ≤ faults
  pub others : OthersStay client_old old new
  pub room : KeepsRoom client_old old new
  pub grows : Grows before after
  pub alone : client_old ≡ None → after ≡ before
  pub made : MakesBeside 0 creates_old creates before after

-- the query's room, and with it what this client and the emitter's, where there is one, reserve
abbrev pub room_with : ℕ → Option ℕ → Holdings → ℕ
room_with t None h = h.room + (account_of t h).reservation
room_with t (Some u) h = h.room + (account_of t h).reservation + (account_of u h).reservation

-- calls changed nothing of clients but this one and the emitter's; the query has with what they reserve at least what it had
pub record LeavesBeside (t : ℕ) (client : Option ℕ) (old new : Holdings) (before after : Signs) : Type 0 where
  pub block_len : new.block_len ≡ old.block_len
  pub session : new.session ≡ old.session
  pub query : new.query ≡ old.query
  pub limit : new.limit ≡ old.limit
  pub live_clients : new.live_clients ≡ old.live_clients
  pub told : new.told ≡ old.told
  pub reservation : old.reservation ≤ new.reservation
  pub others : (u : ℕ) → u ≢ t → client ≢ Some u → SameFor u old new
  pub reserved : (account_of t old).reservation ≤ (account_of t new).reservation
  pub room : room_with t client old ≤ room_with t client new
  pub grows : Grows before after

-- an emitter that stands over its store still, and took the same rows or more
pub record StandsStill (admits_old admits : List Value → Type 0) (client_old client : Option ℕ) (faults_old faults : ℕ) (was now : List (List Value) → Type 0) (h : Holdings) : Type 0 where
  pub admits_same : (row : List Value) → admits_old row ↔ admits row
  pub client_same : client ≡ client_old
  pub lives : HasClient client_old h
  pub never_falls : faults_old ≤ faults
  pub took : WentOn was now

-- an emitter is what it was and its client lives, nothing that only grows fell, and no page was made but those that it counts
pub record StaysEmitter (admits_old admits : List Value → Type 0) (client_old client : Option ℕ) (faults_old faults creates_old creates : ℕ) (new : Holdings) (before after : Signs) : Type 0 where
  pub admits_same : (row : List Value) → admits_old row ↔ admits row
  pub client_same : client ≡ client_old
  pub lives : HasClient client_old new
  pub never_falls : faults_old ≤ faults
  pub grows : Grows before after
  pub made : MakesBeside 0 creates_old creates before after
