-- What a walk over every call of a store saw, and why it gave up.
use Rattle.std.specs.Prelude.{◌≡◌, ◌<◌, ◌≤◌, Bool, true}
use Rattle.reservation_tree.specs.declared.errors.PoolErr.{PoolErr}
use Rattle.reservation_tree.specs.declared.errors.PoolErr.TheVariants.{NoReservation, TooManyTrackers}
use Rattle.store_api.specs.Holdings.{Holdings}
use Rattle.store_api.specs.Signs.{Signs, WasAnswered}
use Rattle.store_api.specs.declared.every_call.Walked.{Walked}

-- the bytes that it wrote came back, of a page where pages show what was left in them; a new loan is of zeros
pub record HasWalked (told : Bool) (walked : Walked) : Type 0 where
  pub pinned : told ≡ true → walked.pinned ≡ 7
  pub moved : walked.moved ≡ 9
  pub fresh : walked.fresh ≡ 0

-- why its rounds gave up, once both clients are there: a growth doesn't fit, or the store answered so
abbrev pub StoppedRound : Signs → Signs → PoolErr → Type 0
StoppedRound old new (NoReservation tracker wanted room) = room < wanted
StoppedRound old new e = WasAnswered e old new

-- why a walk gave up: with its two clients more than sixteen would be live; else its rounds gave up
abbrev pub StoppedWalk : Holdings → Signs → Signs → PoolErr → Type 0
StoppedWalk h old new (TooManyTrackers most) = (most ≡ 16) × (15 ≤ h.live_clients)
StoppedWalk h old new e = (h.live_clients < 15) × StoppedRound old new e
