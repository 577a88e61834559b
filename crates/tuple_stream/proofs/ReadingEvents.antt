-- Which events let a stream be read: a page is pinned before one is left.
use Rattle.std.proofs.Common.{ℕ, List, [], ◌∷◌, ◌++◌, sym, subst, inl, inr}
use Rattle.std.specs.List.{All}
use Rattle.std.proofs.lemmas.List.Elements.{All-head, All-tail}
use Rattle.reservation_tree.specs.declared.errors.PoolErr.{PoolErr}
use Rattle.reservation_tree.specs.declared.errors.PoolErr.TheVariants.{WriteFault, ReadFault, NamesSpent, Stale}
use Rattle.pool_model.specs.declared.call.Call.TheVariants as call
use Rattle.pool_model.specs.declared.event.Event.{Event}
use Rattle.pool_model.specs.declared.event.Event.TheVariants.{StartWrite, WriteOk, WriteFailed, Evict, PinHere, PinLoad, ReadOk, ReadFailed, ReadStale, Refused}
use Rattle.store_api.specs.Holdings.{Holdings}
use Rattle.store_api.specs.Entries.{AreWrites, IsEvict, IsAsked, IsTaken, IsPin, IsRefusal}
use Rattle.tuple_stream.specs.Trails.{PinsFirst, HasPin}
use Rattle.tuple_stream.proofs.PinsFirst.{has_pin_back, both_pin_first}

evicts_pin_first : (es : List Event) → All IsEvict es → PinsFirst es
evicts_pin_first [] evicts = tt
evicts_pin_first (Evict p ∷ es) evicts = evicts_pin_first es (All-tail IsEvict (Evict p) es evicts)
evicts_pin_first (e ∷ es) evicts = absurd (All-head IsEvict e es evicts)

module _ (t : ℕ) (h : Holdings) where
  writes_pin_first : (ws : List Event) → AreWrites t h ws → PinsFirst ws
  writes_pin_first [] writes = tt
  writes_pin_first (StartWrite p ∷ WriteOk q ∷ ws) writes = writes_pin_first ws writes.2
  writes_pin_first (StartWrite p ∷ WriteFailed q before after ∷ ws) writes = writes_pin_first ws writes.2
  writes_pin_first _ writes = absurd writes

  asked_pins_first : (last events : List Event) → PinsFirst last → IsAsked t h last events → PinsFirst events
  asked_pins_first last events first asked =
      subst PinsFirst (sym asked.2) (both_pin_first asked.0 last (writes_pin_first asked.0 asked.1) first)

  asked_pins : (last events : List Event) → HasPin last → IsAsked t h last events → HasPin events
  asked_pins last events pin asked = subst HasPin (sym asked.2) (has_pin_back asked.0 last pin)

  taken_pins_first : (last events : List Event) → PinsFirst last → IsTaken t h last events → PinsFirst events
  taken_pins_first last events first taken =
      asked_pins_first (taken.0 ++ last) events (both_pin_first taken.0 last (evicts_pin_first taken.0 taken.1) first) taken.2

  taken_pins : (last events : List Event) → HasPin last → IsTaken t h last events → HasPin events
  taken_pins last events pin taken = asked_pins (taken.0 ++ last) events (has_pin_back taken.0 last pin) taken.2

  -- a pin leaves no page
  pub pin_pins_first : (p : ℕ) (events : List Event) → IsPin t h p events → PinsFirst events
  pin_pins_first p events (inl here) = asked_pins_first (PinHere p ∷ []) events tt here
  pin_pins_first p events (inr loaded) = taken_pins_first (PinLoad p ∷ ReadOk p ∷ []) events tt loaded

  pub pin_pins : (p : ℕ) (events : List Event) → IsPin t h p events → HasPin events
  pin_pins p events (inl here) = asked_pins (PinHere p ∷ []) events tt here
  pin_pins p events (inr loaded) = taken_pins (PinLoad p ∷ ReadOk p ∷ []) events tt loaded

  -- nor does one that is refused
  pub refused_pins_first : (p : ℕ) (e : PoolErr) (events : List Event) → IsRefusal t h (call.Pin p) e events → PinsFirst events
  refused_pins_first p (WriteFault entry) events refused = asked_pins_first (Refused (call.Pin p) entry ∷ []) events tt refused
  refused_pins_first p (ReadFault entry) events refused = taken_pins_first (PinLoad p ∷ ReadFailed p refused.0 refused.1 ∷ Refused (call.Pin p) entry ∷ []) events tt refused.2
  refused_pins_first p (Stale wanted found) events refused = taken_pins_first (PinLoad p ∷ ReadStale p wanted found ∷ Refused (call.Pin p) refused.0 ∷ []) events tt refused.1
  refused_pins_first p NamesSpent events refused = asked_pins_first [] events tt refused
  refused_pins_first p _ events refused = subst PinsFirst (sym refused) tt
