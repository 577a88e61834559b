-- That no page is left before one is pinned again, once partitions are read. `b` is behind a call.
use Rattle.std.specs.Prelude.{◌≡◌, ◌⊎◌, ℕ, ◌<◌, Bool, false, List, All}
use Rattle.pool_model.specs.declared.event.Event.{Event}
use Rattle.tuple_stream.specs.Trails.{HasPin, PinsFirst}
use Rattle.group_op.specs.Finishing.{IsBetween}
use Rattle.group_op.specs.Held.{State}

-- no page was left before one was pinned again; and while none was, the partition isn't divided and nothing is read
pub record HasBegun (divided : Bool) (b : State) (events : List Event) : Type 0 where
  pub first : PinsFirst events
  pub pinned : HasPin events ⊎ ((divided ≡ false) × IsBetween b)

-- no partition has the last level
abbrev pub AreShallow : List ℕ → Type 0
AreShallow levels = All (λ level. level < 16) levels

-- no page was left before one was pinned again; and while none was, no partition has the last level
pub record HasGoneOn (levels : List ℕ) (events : List Event) : Type 0 where
  pub first : PinsFirst events
  pub pinned : HasPin events ⊎ AreShallow levels
