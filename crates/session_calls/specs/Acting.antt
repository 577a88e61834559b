-- What a session does while it has the pool's value in hand.
use Rattle.std.specs.Prelude.{◌≡◌, ◌⊎◌, ◌++◌, ℕ, List, []}
use Rattle.outside.specs.declared.slot.Slot.{Ghosts}
use Rattle.pool_model.specs.Bytes.{bytes_of}
use Rattle.pool_model.specs.State.{Opening}
use Rattle.pool_model.specs.declared.event.Event.{Event}
use Rattle.store_api.specs.Holdings.{Holdings, Room, Shared}
use Rattle.store_api.specs.Signs.{Signs}
use Rattle.store_api.specs.Entries.{by}
use Rattle.own_entries.specs.OwnHoldings.{Outset}
use Rattle.own_entries.specs.AboveLaws.{AllBy}
use Rattle.pin_core.specs.StateOf.{state_of}
use Rattle.pin_core.specs.Standing.{Enters, slots_home}
use Rattle.session_calls.specs.declared.hand.Hand.{Hand}
use Rattle.session_calls.specs.Told.{held_in, signs_in}
use Rattle.session_calls.specs.Moving.{NoneOpens, quota_at}

module _ {D : Type 0} where
  -- the session entered events of which this holds, and nobody else entered any; no session came or went, and no slot
  -- moved or went out
  pub record Acts (P : List Event → Type 0) (old new : Hand D) : Type 0 where
    pub events : List Event
    pub is : P events
    pub trail : new.trail ≡ old.trail ++ by old.session events
    pub session : new.session ≡ old.session
    pub opens : NoneOpens events
    pub quotas : (k : ℕ) → quota_at (state_of new.state) k ≡ quota_at (state_of old.state) k
    pub slots : (measure : D → ℕ) → slots_home measure new.state ≡ slots_home measure old.state
    pub counts : new.counts ≡ old.counts

  -- it entered these, and no slot moved
  pub record Goes (slot : Ghosts D) (events : List Event) (old new : Hand D) : Type 0 where
    pub trail : new.trail ≡ old.trail ++ by old.session events
    pub session : new.session ≡ old.session
    pub counts : new.counts ≡ old.counts
    pub enters : Enters slot (by old.session events) [] [] old.state new.state

  -- it entered these
  abbrev pub ActsThese : List Event → Hand D → Hand D → Type 0
  ActsThese these old new = Acts (λ events. events ≡ these) old new

  -- what it holds, and what shows of it
  abbrev pub held_by : Opening → Outset → Hand D → Holdings
  held_by o u hand = held_in o u hand.session hand.trail

  abbrev pub signs_by : Opening → Hand D → Signs
  signs_by o hand = signs_in o hand.session hand.trail

  -- others share what is above the query of the session; or it is all memory, and the session alone made entries
  abbrev pub TellsAbove : Opening → Outset → Hand D → Type 0
  TellsAbove o u hand = (u.above ≡ Shared) ⊎ ((u.above ≡ Room (bytes_of o.block_len o.blocks)) × AllBy hand.session hand.trail)
