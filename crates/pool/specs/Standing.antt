-- For which lists of items a pool's value stands.
use Rattle.std.specs.Prelude.{◌≡◌, ℕ, ◌+◌, List, Bool, false}
use Rattle.std.specs.FinMap.{get}
use Rattle.outside.specs.declared.slot.Slot.{Ghosts}
use Rattle.pool_model.specs.State.{Opening}
use Rattle.pin_core.specs.declared.parts.Parts.{Parts}
use Rattle.pin_core.specs.StateOf.{state_of}
use Rattle.pin_core.specs.calls.Opening.{spare_of}
use Rattle.pin_core.specs.declared.tally.Tally.{Tally}
use Rattle.session_calls.specs.Having.{Sight}
use Rattle.session_calls.specs.Moving.{quota_at}
use Rattle.session_calls.specs.Ready.{StandsWhole}
use Rattle.pool_model.specs.LookingBack.{opens}
use Rattle.std.specs.Bool.{⊤}
use Rattle.std.specs.List.{AllByRecursion}
use Rattle.pool.specs.declared.item.Item.{Item}
use Rattle.pool.specs.declared.item.Item.TheVariants.{Made}
use Rattle.pool.specs.Items.{sight_in}
use Rattle.pool.specs.Seats.{quotas_in, taken_in}

-- a session comes by no item but one that says so
abbrev pub IsMarked : Item → Type 0
IsMarked (Made e) = opens e.event ≡ false
IsMarked _ = ⊤

-- this is seen in the items, where the slots counted so when the pool opened, and the value stands for it, with no slot
-- lost; the sessions that it has are those that came and haven't gone; and their quotas and the spare slots are all slots
pub record StandsAs {D : Type 0} (slot : Ghosts D) (opening : Opening) (told : Bool) (first : Tally) (items : List Item) (sight : Sight) (v : Parts D) : Type 0 where
  pub sight_is : sight ≡ sight_in first items
  pub whole : StandsWhole slot opening told sight.trail sight.counts v
  pub marked : AllByRecursion IsMarked items
  pub sessions : (m : ℕ) → quota_at (state_of v) m ≡ get (quotas_in items) m
  pub spare : spare_of v + taken_in items ≡ opening.slots
