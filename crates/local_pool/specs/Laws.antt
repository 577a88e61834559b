-- What the pool of one owner shows at any time. The laws of the store cite this.
use Rattle.outside.specs.declared.slot.Slot.{Ghosts}
use Rattle.store_api.specs.Entries.{TellsLeft}
use Rattle.own_entries.proofs.LeftTold.{left_is_told}
use Rattle.pin_core.specs.StateOf.{state_of}
use Rattle.session_calls.specs.declared.hand.Hand.{Hand}
use Rattle.local_pool.specs.Told.{outset_of, held_of, signs_of}

-- what is left in a page that rests is what the trail left in it last
pub tells_left : {D : Type 0} (slot : Ghosts D) (own : Hand D) → TellsLeft (held_of slot own) (signs_of own).trail
unfolding held_of signs_of
tells_left slot own = left_is_told (state_of own.state).block_len own.session (outset_of slot own.state) own.trail
