-- What the calls of one owner make: entries of its own, and nothing else.
use Rattle.std.specs.Prelude.{◌≡◌, ◌++◌, List, true}
use Rattle.outside.specs.declared.slot.Slot.{Ghosts}
use Rattle.pool_model.specs.declared.event.Event.{Event}
use Rattle.pool_model.specs.Legal.{run}
use Rattle.store_api.specs.Entries.{by}
use Rattle.pin_core.specs.StateOf.{state_of}
use Rattle.session_calls.specs.declared.hand.Hand.{Hand}
use Rattle.session_calls.specs.Outgoing.{opening_tally}
use Rattle.local_pool.specs.Told.{outset_of, is_spent}

-- the owner entered events of which this holds, in the pool and in its trail; what was fixed at opening is as it was
pub record Makes {D : Type 0} (slot : Ghosts D) (P : List Event → Type 0) (old new : Hand D) : Type 0 where
  pub events : List Event
  pub is : P events
  pub trail : new.trail ≡ old.trail ++ by old.session events
  pub session : new.session ≡ old.session
  pub state : state_of new.state ≡ run (state_of old.state) (by old.session events)
  pub block_len : (state_of new.state).block_len ≡ (state_of old.state).block_len
  pub first : opening_tally new.counts ≡ opening_tally old.counts
  pub outset : outset_of slot new.state ≡ outset_of slot old.state
  pub spent : is_spent (state_of old.state) ≡ true → is_spent (state_of new.state) ≡ true
