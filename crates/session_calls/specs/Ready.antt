-- What is true of a pool's value between two calls of a session, and of the session.
use Rattle.std.specs.Prelude.{◌≡◌, ℕ, ◌+◌, ◌<◌, ◌≤◌, List, Bool, true, false, is_some}
use Rattle.outside.specs.declared.slot.Slot.{Ghosts}
use Rattle.pool_model.specs.State.{Opening}
use Rattle.pool_model.specs.declared.entry.Entry.{Entry}
use Rattle.pool_model.specs.LookingBack.{made_by}
use Rattle.own_entries.specs.OwnHoldings.{Outset}
use Rattle.own_entries.specs.Busy.{busy_from}
use Rattle.pin_core.specs.declared.parts.Parts.{Parts}
use Rattle.pin_core.specs.StateOf.{state_of}
use Rattle.pin_core.specs.Standing.{StandsFor, slots_home}
use Rattle.pin_core.specs.Tallies.{silence}
use Rattle.session_calls.specs.declared.hand.Hand.{Hand}
use Rattle.session_calls.specs.declared.count.Count.{Count}
use Rattle.session_calls.specs.Told.{held_in}
use Rattle.session_calls.specs.Moving.{slots_out}
use Rattle.session_calls.specs.Outgoing.{CountsWhole}

-- the value stands for the history; with those in jobs no slot is lost; where each slot told what it held, each
-- that is home does; and slots count what the history tells
pub record StandsWhole {D : Type 0} (slot : Ghosts D) (o : Opening) (told : Bool) (h : List Entry) (counts : List Count) (v : Parts D) : Type 0 where
  pub stands : StandsFor slot o h v
  pub home : slots_home (λ d. 1) v + slots_out (state_of v).pages ≡ o.slots
  pub tell : told ≡ true → slots_home (silence slot) v ≡ 0
  pub sums : CountsWhole slot h counts v

-- by its own entries the session is live with at most 16 clients, and no page of its own is in a job of its own
pub record IsResting (o : Opening) (u : Outset) (m : ℕ) (h : List Entry) : Type 0 where
  pub number : m < 240
  pub live : is_some (held_in o u m h).free_slots ≡ true
  pub few : (held_in o u m h).live_clients ≤ 16
  pub still : (p : ℕ) → busy_from p false (made_by h m) ≡ false

-- a session that has the pool's value in hand is between two calls
pub record IsReady {D : Type 0} (slot : Ghosts D) (o : Opening) (u : Outset) (hand : Hand D) : Type 0 where
  pub whole : StandsWhole slot o u.told hand.trail hand.counts hand.state
  pub rests : IsResting o u hand.session hand.trail
