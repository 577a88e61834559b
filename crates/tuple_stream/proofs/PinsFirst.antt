-- Events that pin a page before one is left, one span behind another.
use Rattle.std.proofs.Common.{◌⊎◌, List, [], ◌∷◌, ◌++◌, inl, inr}
use Rattle.pool_model.specs.declared.event.Event.{Event}
use Rattle.pool_model.specs.declared.event.Event.TheVariants.{PinHere, PinLoad, Unpin}
use Rattle.tuple_stream.specs.Trails.{PinsFirst, HasPin}

-- what pins a page pins it whatever comes behind
pub has_pin_front : (a b : List Event) → HasPin a → HasPin (a ++ b)
has_pin_front [] b pin = absurd pin
has_pin_front (PinHere p ∷ a) b pin = tt
has_pin_front (PinLoad p ∷ a) b pin = tt
has_pin_front (e ∷ a) b pin = has_pin_front a b pin

-- and whatever comes before
pub has_pin_back : (a b : List Event) → HasPin b → HasPin (a ++ b)
has_pin_back [] b pin = pin
has_pin_back (PinHere p ∷ a) b pin = tt
has_pin_back (PinLoad p ∷ a) b pin = tt
has_pin_back (e ∷ a) b pin = has_pin_back a b pin

-- once a page was pinned, any may be left
pub pins_first_join : (a b : List Event) → PinsFirst a → HasPin a ⊎ PinsFirst b → PinsFirst (a ++ b)
pins_first_join [] b first (inl pin) = absurd pin
pins_first_join [] b first (inr then) = then
pins_first_join (Unpin p bytes ∷ a) b first next = first
pins_first_join (PinHere p ∷ a) b first next = tt
pins_first_join (PinLoad p ∷ a) b first next = tt
pins_first_join (e ∷ a) b first next = pins_first_join a b first next

pub both_pin_first : (a b : List Event) → PinsFirst a → PinsFirst b → PinsFirst (a ++ b)
both_pin_first a b one two = pins_first_join a b one (inr two)
