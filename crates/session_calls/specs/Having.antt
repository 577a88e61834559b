-- How a session comes to have the pool's value in hand, and gives it back.
use Rattle.std.specs.Prelude.{◌≡◌, ◌≢◌, ◌++◌, ℕ, List, Bool}
use Rattle.std.specs.List.{AllByRecursion}
use Rattle.outside.specs.declared.slot.Slot.{Ghosts}
use Rattle.pool_model.specs.State.{Opening}
use Rattle.pool_model.specs.declared.entry.Entry.{Entry}
use Rattle.pool_model.specs.declared.event.Event.{Event}
use Rattle.pool_model.specs.Legal.{state_after}
use Rattle.store_api.specs.Entries.{by}
use Rattle.own_entries.specs.OwnHoldings.{Outset}
use Rattle.pin_core.specs.StateOf.{state_of}
use Rattle.session_calls.specs.declared.hand.Hand.{Hand}
use Rattle.session_calls.specs.declared.count.Count.{Count}
use Rattle.session_calls.specs.Moving.{NoneOpens, quota_at}
use Rattle.session_calls.specs.Ready.{IsReady, StandsWhole}

-- what was seen of a pool: its history, and what its slots counted
pub record Sight : Type 0 where
  pub trail : List Entry
  pub counts : List Count

-- what a session sees that has the value in hand
abbrev pub sight_of : {D : Type 0} → Hand D → Sight
sight_of hand = record { trail = hand.trail; counts = hand.counts }

-- others made all of these
abbrev pub AllBeside : ℕ → List Entry → Type 0
AllBeside m entries = AllByRecursion (λ e. e.maker ≢ m) entries

-- since it took the value, when it had seen this history, the session alone made entries, and no session came or went
pub record Worked {D : Type 0} (o : Opening) (seen : Sight) (hand : Hand D) : Type 0 where
  pub events : List Event
  pub trail : hand.trail ≡ seen.trail ++ by hand.session events
  pub went : List Count
  pub counts : hand.counts ≡ seen.counts ++ went
  pub opens : NoneOpens events
  pub quotas : (k : ℕ) → quota_at (state_of hand.state) k ≡ quota_at (state_after o seen.trail) k

module _ {D : Type 0} (slot : Ghosts D) (o : Opening) where
  -- the session of this number has the value in hand; since it saw the history last, others alone made entries
  pub record Taken (told : Bool) (m : ℕ) (before now : Sight) (hand : Hand D) : Type 0 where
    pub session : hand.session ≡ m
    pub sight : sight_of hand ≡ now
    pub others : List Entry
    pub grew : now.trail ≡ before.trail ++ others
    pub beside : AllBeside m others
    pub went : List Count
    pub counts : now.counts ≡ before.counts ++ went
    pub whole : StandsWhole slot o told hand.trail hand.counts hand.state

  -- the value may be given back
  pub record MayGive (told : Bool) (seen : Sight) (hand : Hand D) : Type 0 where
    pub worked : Worked o seen hand
    pub whole : StandsWhole slot o told hand.trail hand.counts hand.state

  -- the session is between two steps of a call
  pub record IsAtWork (u : Outset) (seen : Sight) (hand : Hand D) : Type 0 where
    pub worked : Worked o seen hand
    pub ready : IsReady slot o u hand
