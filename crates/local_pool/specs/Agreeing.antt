-- What one owner holds is what its pool has for it.
use Rattle.std.specs.Prelude.{◌≡◌, [], Some}
use Rattle.std.specs.FinMap.{get}
use Rattle.outside.specs.declared.slot.Slot.{Ghosts}
use Rattle.pool_model.specs.State.{Session}
use Rattle.pool_model.specs.LookingBack.{content_from}
use Rattle.own_entries.specs.LiveParts.{Tells}
use Rattle.pin_core.specs.StateOf.{state_of}
use Rattle.session_calls.specs.declared.hand.Hand.{Hand}
use Rattle.local_pool.specs.Told.{held_of}

-- the owner's session is live, and the pool has for it what is held, where pages have the bytes that the trail left in
-- them last
pub record AgreesWith {D : Type 0} (slot : Ghosts D) (own : Hand D) : Type 0 where
  pub session : Session
  pub lives : get (state_of own.state).sessions own.session ≡ Some session
  pub tells : Tells (λ p. content_from p [] own.trail) (state_of own.state).block_len (state_of own.state).trackers (state_of own.state).pages (state_of own.state).buffers own.session session.query session.quota (held_of slot own)
