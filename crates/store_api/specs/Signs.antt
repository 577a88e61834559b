-- What of a store only grows, and what it shows of the answers in between.
use Rattle.std.specs.Prelude.{◌≡◌, ◌≢◌, ℕ, ◌<◌, ◌≤◌, List, ◌++◌, length, filter, Bool, true, false, Option, Some, None, ⊤}
use Rattle.reservation_tree.specs.declared.mark.Mark.{Mark}
use Rattle.reservation_tree.specs.declared.errors.PoolErr.{PoolErr}
use Rattle.reservation_tree.specs.declared.errors.PoolErr.TheVariants.{ScratchFull, WriteFault, ReadFault, NamesSpent, Memory, Stale}
use Rattle.pool_model.specs.declared.event.Event.{Event}
use Rattle.pool_model.specs.declared.event.Event.TheVariants.{UnpinRefused, ReadStale}
use Rattle.pool_model.specs.declared.entry.Entry.{Entry}
use Rattle.store_api.specs.Refusing.{TellFailedWrite, TellFailedRead, TellStale}

-- failed writes and reads of the pages that this store's session made, in all and for each client's number, also of
-- clients that had the number before; refused unpins; stale loads, which gave another block than the one stored;
-- whether no page name is left; and, where they are told, the entries that the store made, the oldest first
pub record Signs : Type 0 where
  pub failures : ℕ
  pub failures_of : ℕ → ℕ
  pub refused_unpins : ℕ
  pub stale : ℕ
  pub spent : Bool
  pub trail : Option (List Entry)

-- a trail has the entries of the one before it, and more; whether it is told doesn't change
abbrev pub Prolongs : Option (List Entry) → Option (List Entry) → Type 0
Prolongs None now = now ≡ None
Prolongs (Some before) now = (more : List Entry) × (now ≡ Some (before ++ more))

-- nothing fell, what was spent stays so, and the trail went on
pub record Grows (old new : Signs) : Type 0 where
  pub failures : old.failures ≤ new.failures
  pub failures_of : (t : ℕ) → old.failures_of t ≤ new.failures_of t
  pub refused_unpins : old.refused_unpins ≤ new.refused_unpins
  pub stale : old.stale ≤ new.stale
  pub spent : old.spent ≡ true → new.spent ≡ true
  pub trail : Prolongs old.trail new.trail

-- where the trail is told, it grew by entries of which this holds
abbrev pub Entered : (List Entry → Type 0) → Option (List Entry) → Option (List Entry) → Type 0
Entered P None now = now ≡ None
Entered P (Some before) now = (more : List Entry) × (now ≡ Some (before ++ more)) × P more

-- the count of failures rose, and where the trail is told, this holds of the entries by which it grew
pub record HasFailed (P : List Entry → Type 0) (old new : Signs) : Type 0 where
  pub rose : old.failures < new.failures
  pub told : Entered P old.trail new.trail

-- a write failed, and where the trail is told, a call was refused for it with this number
abbrev pub HasFailedWrite : ℕ → Signs → Signs → Type 0
HasFailedWrite entry old new = HasFailed (TellFailedWrite entry) old new

-- a read failed, and where the trail is told, a pin was refused for it with this number
abbrev pub HasFailedRead : ℕ → Signs → Signs → Type 0
HasFailedRead entry old new = HasFailed (TellFailedRead entry) old new

-- a load gave a block with another mark than the wanted one, and where the trail is told, a pin was refused for it
pub record HasFoundStale (wanted found : Mark) (old new : Signs) : Type 0 where
  pub rose : old.stale < new.stale
  pub other : found ≢ wanted
  pub told : Entered (TellStale wanted found) old.trail new.trail

-- the store answered this error between the two; it shows in what grew
abbrev pub WasAnswered : PoolErr → Signs → Signs → Type 0
WasAnswered (ScratchFull need free) old new = old.refused_unpins < new.refused_unpins
WasAnswered (WriteFault entry) old new = HasFailedWrite entry old new
WasAnswered (ReadFault entry) old new = HasFailedRead entry old new
WasAnswered (Stale wanted found) old new = HasFoundStale wanted found old new
WasAnswered NamesSpent old new = new.spent ≡ true
WasAnswered Memory old new = ⊤
WasAnswered _ old new = ⊥

-- a write or a read of this client's pages failed
abbrev pub FailedFor : ℕ → Signs → Signs → Type 0
FailedFor t old new = old.failures_of t < new.failures_of t

abbrev pub refuses_unpin : Event → Bool
refuses_unpin (UnpinRefused p) = true
refuses_unpin _ = false

-- where the trail is told, the count of refused unpins is that of its entries
abbrev pub CountsRefused : Option (List Entry) → ℕ → Type 0
CountsRefused None count = ⊤
CountsRefused (Some trail) count = count ≡ length (filter (λ e. refuses_unpin e.event) trail)

abbrev pub is_stale_load : Event → Bool
is_stale_load (ReadStale p wanted found) = true
is_stale_load _ = false

-- where the trail is told, the count of stale loads is that of its entries
abbrev pub CountsStale : Option (List Entry) → ℕ → Type 0
CountsStale None count = ⊤
CountsStale (Some trail) count = count ≡ length (filter (λ e. is_stale_load e.event) trail)
