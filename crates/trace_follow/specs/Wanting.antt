-- What a refused call wants, and what its session keeps of failures.
use Rattle.std.specs.Prelude.{◌≡◌, ◌-◌, ◌≤◌, ◌*◌, ◌↔◌, ◌⊎◌, ℕ, IsTrue, Option, Some, None}
use Rattle.std.specs.FinMap.{get}
use Rattle.reservation_tree.specs.Tracker.{reservation_of}
use Rattle.pool_model.specs.declared.call.Call.{Call}
use Rattle.pool_model.specs.declared.call.Call.TheVariants as call
use Rattle.pool_model.specs.State.{Session, State}
use Rattle.pool_model.specs.Sums.{held_by}
use Rattle.pool_model.specs.Owning.{IsClientOf}
use Rattle.pool_model.specs.Refusals.{IsOwnCall, client_of, IsEnabled}
use Rattle.trace_follow.specs.declared.rows.Place.TheVariants as spot
use Rattle.trace_follow.specs.declared.rows.PageRow.{PageRow}
use Rattle.trace_follow.specs.declared.rows.Want.{Want}
use Rattle.trace_follow.specs.declared.rows.Asked.{Asked}

-- the call is on what the session has, and this is the client whose room it needs, and whether it is there
pub record IsWant (s : State) (maker : ℕ) (c : Call) (want : Want) : Type 0 where
  pub own : IsOwnCall s maker c
  pub of : client_of s c ≡ Some want.client
  pub enabled : IsTrue want.enabled ↔ IsEnabled s c
  pub session : Session
  pub opened : get s.sessions maker ≡ Some session

abbrev pub Wants : State → ℕ → Call → Option Want → Type 0
Wants s maker c None = IsOwnCall s maker c → ⊥
Wants s maker c (Some want) = IsWant s maker c want

-- so many bytes of room for a client of the session
pub record IsRoom (s : State) (maker c bytes : ℕ) (want : Want) : Type 0 where
  pub own : IsClientOf s maker c
  pub of : want.client ≡ c
  pub enabled : IsTrue want.enabled ↔ (bytes ≤ reservation_of s.trackers c - held_by s c)

abbrev pub WantsRoom : State → ℕ → ℕ → ℕ → Option Want → Type 0
WantsRoom s maker c bytes None = IsClientOf s maker c → ⊥
WantsRoom s maker c bytes (Some want) = IsRoom s maker c bytes want

-- the page is pinned without more room, or there is room
abbrev pub IsPinnable : State → PageRow → Type 0
IsPinnable s row =
    ((row.place ≡ spot.Dirty) ⊎ ((writer : ℕ) × (row.place ≡ spot.Flying writer))) ⊎ (row.blocks * s.block_len ≤ reservation_of s.trackers row.client - held_by s row.client)

abbrev pub noted_failure : ℕ → Option Asked → Option ℕ
noted_failure c None = None
noted_failure c (Some since) = get since.failures c

abbrev pub noted_read : ℕ → Option Asked → Option ℕ
noted_read p None = None
noted_read p (Some since) = get since.reads p

-- the call is a pin, and this is its last read that failed
pub record FailedRead (asked : Option Asked) (c : Call) (entry : ℕ) : Type 0 where
  pub page : ℕ
  pub pins : c ≡ call.Pin page
  pub noted : noted_read page asked ≡ Some entry
