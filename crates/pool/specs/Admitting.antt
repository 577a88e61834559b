-- How sessions come together, step by step.
use Rattle.std.specs.Prelude.{◌≡◌, ℕ, ◌+◌, ◌*◌, ◌<◌, ◌≤◌, List, [], Bool, None, Result, Ok, Err, length, drop, map, min, vec_capacity}
use Rattle.std.specs.FinMap.{get}
use Rattle.std.specs.List.{All}
use Rattle.std.specs.Global.{Vec}
use Rattle.outside.specs.declared.slot.Slot.{Ghosts}
use Rattle.reservation_tree.specs.declared.errors.PoolErr.{PoolErr}
use Rattle.pool_model.specs.declared.event.Event.TheVariants.{AddTracker}
use Rattle.pool_model.specs.declared.entry.Entry.{Entry}
use Rattle.pool_model.specs.State.{Opening}
use Rattle.pin_core.specs.declared.parts.Parts.{Parts}
use Rattle.pin_core.specs.StateOf.{state_of}
use Rattle.pin_core.specs.calls.Sessions.{query_of}
use Rattle.pin_core.specs.calls.Opening.{opening_entries, spare_of}
use Rattle.pin_core.specs.Standing.{Enters}
use Rattle.pool.specs.declared.ask.Ask.{Ask}
use Rattle.pool.specs.declared.item.Item.{Item}
use Rattle.pool.specs.declared.item.Item.TheVariants.{Seated, Made}
use Rattle.pin_core.specs.declared.tally.Tally.{Tally}
use Rattle.session_calls.specs.Having.{Sight}
use Rattle.pool.specs.Items.{history}
use Rattle.pool.specs.Standing.{StandsAs}
use Rattle.pool.specs.Remaining.{left_behind, left_in}
use Rattle.pool.specs.Asking.{AreAnswered, HaveCome}

-- the item of an entry of a session that comes
abbrev pub item_of : Entry → Item
item_of e = elim e.event [ AddTracker t parent limit quota ↦ Seated e | _ ↦ Made e ]

-- the items that came behind these, where sessions came alone
abbrev pub items_since : List Item → List Entry → List Item
items_since seen h = map item_of (drop (length (history seen)) h)

module _ {D : Type 0} (slot : Ghosts D) where
  -- a session came
  pub record Opens (limit quota least m : ℕ) (old new : Parts D) : Type 0 where
    pub number : m < 240
    pub vacant : get (state_of old).sessions m ≡ None
    pub enters : Enters slot (opening_entries m (query_of (state_of new) m) limit quota least) [] [] old new
    pub spare : spare_of new + quota ≡ spare_of old

  module _ (o : Opening) (told : Bool) (first : Tally) where
    -- the value stands for some items
    pub record HasItems (sight : Sight) (v : Parts D) : Type 0 where
      pub items : List Item
      pub stands : StandsAs slot o told first items sight v

    -- the sessions of an ask came
    pub record AdmittedBy (ask : Ask) (before : List Item) (ms : List ℕ) (old : Parts D) (sight : Sight) (new : Parts D) : Type 0 where
      pub after : List Item
      pub count : length ms ≡ ask.count
      pub come : HaveCome ask before ms after
      pub stands : StandsAs slot o told first after sight new
      pub left : left_in (state_of new) ≡ left_behind ask.count ask (left_in (state_of old))
      pub spare : spare_of new + ask.count * ask.quota ≡ spare_of old

    -- asks were answered
    pub record AdmittedAll (asks : List Ask) (before : List Item) (answers : List (Result (List ℕ) PoolErr)) (old : Parts D) (sight : Sight) (new : Parts D) : Type 0 where
      pub after : List Item
      pub answered : AreAnswered asks (left_in (state_of old)) before answers after
      pub stands : StandsAs slot o told first after sight new

-- an answer with the numbers of its sessions
abbrev pub numbered : Result (Vec ℕ) PoolErr → Result (List ℕ) PoolErr
numbered (Ok numbers) = Ok numbers.items
numbered (Err e) = Err e

-- the sessions of each ask are at most so many, if it isn't refused
abbrev pub AreFew : ℕ → List Ask → Type 0
AreFew most asks = All (λ ask. min ask.count 240 ≤ most) asks

-- an empty list has room for so many
abbrev pub HasRoomFor : {X : Type 0} → ℕ → Vec X → Type 0
HasRoomFor most v = (v.items ≡ []) × (most ≤ vec_capacity v)

-- as many lists as asks, each with room for the numbers of the sessions of each ask
pub record AreSlates (asks : List Ask) (slates : List (Vec ℕ)) : Type 0 where
  pub most : ℕ
  pub few : AreFew most asks
  pub count : length slates ≡ length asks
  pub each : All (HasRoomFor most) slates
