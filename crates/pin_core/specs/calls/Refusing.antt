-- When a refusal may be entered: some history for which the parts stand allows it.
use Rattle.std.specs.Prelude.{ℕ, List}
use Rattle.outside.specs.declared.slot.Slot.{Ghosts}
use Rattle.pool_model.specs.declared.call.Call.{Call}
use Rattle.pool_model.specs.declared.entry.Entry.{Entry as Event}
use Rattle.pool_model.specs.declared.event.Event.TheVariants as event
use Rattle.pool_model.specs.State.{Opening}
use Rattle.pool_model.specs.MayFollow.{MayFollow}
use Rattle.pin_core.specs.declared.parts.Parts.{Parts}
use Rattle.pin_core.specs.StateOf.{state_of}
use Rattle.pin_core.specs.Standing.{StandsFor}

pub record MayEnter {D : Type 0} (slot : Ghosts D) (v : Parts D) (e : Event) : Type 0 where
  pub opening : Opening
  pub history : List Event
  pub stands : StandsFor slot opening history v
  pub may : MayFollow history (state_of v) e

-- the session's call was refused for the failure of this entry
abbrev pub refusal_of : ℕ → Call → ℕ → Event
refusal_of s call entry = record { maker = s; event = event.Refused call entry }
