-- What a call of one owner leaves that is refused.
use Rattle.std.specs.Prelude.{ℕ}
use Rattle.outside.specs.declared.slot.Slot.{Ghosts}
use Rattle.reservation_tree.specs.declared.errors.PoolErr.{PoolErr}
use Rattle.pool_model.specs.declared.call.Call.{Call}
use Rattle.store_api.specs.Signs.{Grows}
use Rattle.store_api.specs.Refusals.{WasRefused}
use Rattle.session_calls.specs.declared.hand.Hand.{Hand}
use Rattle.local_pool.specs.Told.{held_of, signs_of}

-- a call that needs room of this client was refused with this error, as a call of a store is, and its signs only grew
pub record Refuses {D : Type 0} (slot : Ghosts D) (t : ℕ) (what : Call) (old new : Hand D) (e : PoolErr) : Type 0 where
  pub was : WasRefused t what (held_of slot old) (held_of slot new) (signs_of old) (signs_of new) e
  pub grows : Grows (signs_of old) (signs_of new)
