-- How a seat takes the pool's value in hand, and gives it back.
use Rattle.std.specs.Prelude.{◌≡◌, ℕ, suc, ◌<◌, List, ◌∷◌, ◌++◌, Bool, length, drop, map}
use Rattle.std.specs.FinMap.{get}
use Rattle.std.specs.List.{AllByRecursion}
use Rattle.outside.specs.declared.slot.Slot.{Ghosts}
use Rattle.pool_model.specs.State.{Opening}
use Rattle.pool_model.specs.declared.event.Event.{Event}
use Rattle.store_api.specs.Entries.{by}
use Rattle.pin_core.specs.StateOf.{state_of}
use Rattle.turn_table.specs.Lists.{times}
use Rattle.turn_table.specs.Knowledge.{GrewBeside, HasTurn}
use Rattle.turn_table.specs.Face.{Spot}
use Rattle.session_calls.specs.declared.hand.Hand.{Hand}
use Rattle.session_calls.specs.declared.count.Count.{Count}
use Rattle.session_calls.specs.declared.count.Count.TheVariants as count
use Rattle.session_calls.specs.Having.{Sight, sight_of}
use Rattle.pin_core.specs.declared.tally.Tally.{Tally}
use Rattle.session_calls.specs.Moving.{NoneOpens, quota_at}
use Rattle.session_calls.specs.Ready.{StandsWhole}
use Rattle.pool.specs.declared.item.Item.{Item}
use Rattle.pool.specs.declared.item.Item.TheVariants.{Made, Went}
use Rattle.pool.specs.Items.{counts_in, history, needs_of}
use Rattle.pool.specs.Seats.{quotas_in}
use Rattle.pool.specs.Standing.{IsMarked, StandsAs}

-- what came behind these items that a maker's hand has: entries of the history, and counts of slots that went out
abbrev pub made_since : ℕ → List Item → Sight → List Item
made_since m seen now = map Made (drop (length (history seen)) now.trail) ++ map (Went m) (drop (suc (length (counts_in seen))) now.counts)

module _ {D : Type 0} (slot : Ghosts D) (o : Opening) (told : Bool) (first : Tally) where
  -- the seat has its turn, and has seen all items; the value is in hand for the session of this number
  pub record Takes (m : ℕ) (old new : Spot Item) (hand : Hand D) : Type 0 where
    pub turn : HasTurn new.knows
    pub rights : new.knows.rights ≡ old.knows.rights
    pub grew : GrewBeside needs_of old.knows.rights old.knows.seen new.knows.seen
    pub session : hand.session ≡ m
    pub stands : StandsAs slot o told first new.knows.seen (sight_of hand) hand.state

  -- since it took the value, the session entered these, with which no session comes, and nobody else any, slots went
  -- out with its jobs alone, and no session came or went; the value stands for what the history is then; no session
  -- came but by an item that says so; and the seat has the session's right
  pub record Gives (spot : Spot Item) (hand : Hand D) : Type 0 where
    pub right : 0 < times hand.session spot.knows.rights
    pub events : List Event
    pub opens : NoneOpens events
    pub trail : hand.trail ≡ history spot.knows.seen ++ by hand.session events
    pub went : List Count
    pub counts : hand.counts ≡ count.Opening first ∷ (counts_in spot.knows.seen ++ went)
    pub whole : StandsWhole slot o told hand.trail hand.counts hand.state
    pub marked : AllByRecursion IsMarked spot.knows.seen
    pub quotas : (k : ℕ) → quota_at (state_of hand.state) k ≡ get (quotas_in spot.knows.seen) k
