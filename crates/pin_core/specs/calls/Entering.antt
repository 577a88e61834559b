-- The entries of calls on trackers, clients and sessions, and why growths and moves are refused.
use Rattle.std.specs.Prelude.{ℕ, None, Some, Option}
use Rattle.reservation_tree.specs.Tracker.{unused}
use Rattle.reservation_tree.specs.Change.{Refusal, grow_refusal, lacking}
use Rattle.pool_model.specs.declared.entry.Entry.{Entry}
use Rattle.pool_model.specs.declared.event.Event.TheVariants.{Ask, AddTracker, CloseTracker, Increase, IncreaseToFit, Decrease, MoveReservation}
use Rattle.pool_model.specs.State.{State}
use Rattle.pool_model.specs.Sums.{charge_of}

abbrev pub ask_entry : ℕ → Entry
ask_entry s = record { maker = s; event = Ask }

abbrev pub increase_entry : ℕ → ℕ → ℕ → Entry
increase_entry s t bytes = record { maker = s; event = Increase t bytes }

abbrev pub fit_entry : ℕ → ℕ → ℕ → Entry
fit_entry s t bytes = record { maker = s; event = IncreaseToFit t bytes }

abbrev pub decrease_entry : ℕ → ℕ → ℕ → Entry
decrease_entry s t bytes = record { maker = s; event = Decrease t bytes }

abbrev pub move_entry : ℕ → ℕ → ℕ → ℕ → Entry
move_entry s from to bytes = record { maker = s; event = MoveReservation from to bytes }

-- a client comes under the session's query tracker
abbrev pub client_entry : ℕ → ℕ → ℕ → ℕ → Entry
client_entry s query limit t = record { maker = s; event = AddTracker t query limit None }

-- a session's query tracker comes under the root
abbrev pub session_entry : ℕ → ℕ → ℕ → ℕ → Entry
session_entry s limit quota t = record { maker = s; event = AddTracker t 0 limit (Some quota) }

abbrev pub close_entry : ℕ → ℕ → Entry
close_entry s t = record { maker = s; event = CloseTracker t }

-- what a tracker has neither charged nor given to its children
abbrev pub unused_of : State → ℕ → ℕ
unused_of s t = unused (charge_of s) s.trackers t

-- why a growth is refused, if it is
abbrev pub growth_refusal : State → ℕ → ℕ → Option Refusal
growth_refusal s t bytes = grow_refusal (charge_of s) bytes t s.trackers

-- why a growth until so many bytes are unused is refused, if it is
abbrev pub fit_refusal : State → ℕ → ℕ → Option Refusal
fit_refusal s t bytes = growth_refusal s t (lacking (charge_of s) bytes t s.trackers)
