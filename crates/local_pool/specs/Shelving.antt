-- Where the value of one owner's pool lies while a job runs.
use Rattle.std.specs.Prelude.{◌≡◌, ℕ, List, Bool, true, Some, drop, length}
use Rattle.outside.specs.declared.slot.Slot.{Ghosts}
use Rattle.pool_model.specs.declared.entry.Entry.{Entry}
use Rattle.pool_model.specs.State.{Opening}
use Rattle.own_entries.specs.AboveLaws.{AllBy}
use Rattle.own_entries.specs.OwnHoldings.{Outset}
use Rattle.session_calls.specs.declared.hand.Hand.{Hand}
use Rattle.session_calls.specs.declared.count.Count.{Count}
use Rattle.session_calls.specs.Having.{Sight, Worked, sight_of}
use Rattle.session_calls.specs.Ready.{StandsWhole}
use Rattle.local_pool.specs.declared.sole.Shelf.{Shelf}
use Rattle.local_pool.specs.declared.sole.Sole.{Sole}
use Rattle.local_pool.specs.Told.{opening_of}

-- what came in a history behind that which was seen
abbrev pub entered_since : List Entry → List Entry → List Entry
entered_since seen trail = drop (length seen) trail

abbrev pub counted_since : List Count → List Count → List Count
counted_since seen counts = drop (length seen) counts

-- what was seen there
abbrev pub sees : {D : Type 0} → Shelf D → Sight
sees shelf = record { trail = shelf.seen; counts = shelf.counted }

module _ {D : Type 0} (slot : Ghosts D) where
  -- the value lies there, for the owner of this number, who made all of its history
  pub record LiesThere (o : Opening) (told : Bool) (shelf : Shelf D) (m : ℕ) : Type 0 where
    pub hand : Hand D
    pub there : shelf.value ≡ Some hand
    pub session : hand.session ≡ m
    pub sight : sight_of hand ≡ sees shelf
    pub alone : AllBy m shelf.seen
    pub whole : StandsWhole slot o told hand.trail hand.counts hand.state

  -- the owner made all that was seen there, and has the value since
  pub record FitsShelf (shelf : Shelf D) (hand : Hand D) : Type 0 where
    pub alone : AllBy hand.session shelf.seen
    pub worked : Worked (opening_of slot hand) (sees shelf) hand

-- what was seen of the history of one owner's pool, the owner made
pub sees_its_own : {D : Type 0} (o : Opening) (u : Outset) (sole : Sole) (shelf : Shelf D) (m : ℕ) → AllBy m shelf.seen → true ≡ true → AllBy m shelf.seen
sees_its_own o u sole shelf m alone is = alone
