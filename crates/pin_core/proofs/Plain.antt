-- Entries of calls that are plain.
use Rattle.std.proofs.Common.{ℕ, List, [], ◌∷◌, Some, None, refl}
use Rattle.pin_core.specs.declared.pin.PinTurn.TheVariants.{Here, Load, Write}
use Rattle.pin_core.specs.declared.room.RoomTurn.TheVariants as turn
use Rattle.pin_core.specs.StateOf.{state_of}
use Rattle.pool_model.specs.State.{page_at}
use Rattle.pool_model.specs.declared.event.Event.TheVariants.{PinLoad}
use Rattle.pin_core.specs.calls.Evictions.{evictions, names_gone}
use Rattle.pin_core.specs.calls.Coming.{alloc_entry, create_entry}
use Rattle.pin_core.specs.Plain.{ArePlain, PinsArePlain, RoomsArePlain, StartsArePlain, CreatesArePlain, AllocsArePlain}
use Rattle.pin_core.proofs.Tallied.{plain_append}

pub plain_evictions : (maker : ℕ) (names : List ℕ) → ArePlain (evictions maker names)
plain_evictions maker [] = tt
plain_evictions maker (name ∷ names) = (refl, plain_evictions maker names)

module _ {D : Type 0} where
  pub pins_plain : PinsArePlain D
  pins_plain session p old (Here buf) = (refl, tt)
  pins_plain session p old (Load job) =
      plain_append (evictions session (names_gone (page_at (state_of old) p).blocks old)) (record { maker = session; event = PinLoad p } ∷ []) (plain_evictions session (names_gone (page_at (state_of old) p).blocks old)) (refl, tt)
  pins_plain session p old (Write job) = (refl, tt)
  pins_plain session p old _ = tt

  pub rooms_plain : RoomsArePlain D
  rooms_plain session (turn.Write job) = (refl, tt)
  rooms_plain session _ = tt

  pub starts_plain : StartsArePlain D
  starts_plain who None = tt
  starts_plain who (Some job) = (refl, tt)

  pub creates_plain : CreatesArePlain D
  creates_plain c id blocks old = plain_append (evictions c.session (names_gone blocks old)) (create_entry c id blocks ∷ []) (plain_evictions c.session (names_gone blocks old)) (refl, tt)

  pub allocs_plain : AllocsArePlain D
  allocs_plain c f blocks old = plain_append (evictions c.session (names_gone blocks old)) (alloc_entry c f blocks ∷ []) (plain_evictions c.session (names_gone blocks old)) (refl, tt)
