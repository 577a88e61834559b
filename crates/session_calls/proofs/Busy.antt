-- Which pages a maker's own entries tell to be in its jobs, as the list of them grows.
use Rattle.std.proofs.Common.{◌≡◌, ℕ, ◌==◌, List, [], ◌∷◌, ◌++◌, Bool, true, false, if◌then◌else◌, Some, None, refl, ap, ◌∙◌}
use Rattle.std.specs.List.{AllByRecursion}
use Rattle.pool_model.specs.declared.event.Event.{Event}
use Rattle.pool_model.specs.declared.event.Event.TheVariants.{AddTracker, Create, PinLoad, ReadOk, ReadFailed, ReadStale, StartWrite, WriteOk, WriteFailed, Extract, Destroy}
use Rattle.pool_model.specs.declared.entry.Entry.{Entry}
use Rattle.store_api.specs.Entries.{by}
use Rattle.own_entries.specs.Busy.{busy_after, busy_from}
use Rattle.session_calls.specs.Moving.{rests}

-- the second list goes on from what the first tells
pub busy_more : (p : ℕ) (was : Bool) (a b : List Entry) → busy_from p was (a ++ b) ≡ busy_from p (busy_from p was a) b
busy_more p was [] b = refl
busy_more p was (e ∷ a) b = busy_more p (busy_after p e.event was) a b

either : (b r : Bool) → (if b then r else r) ≡ r
either true r = refl
either false r = refl

-- a page that is in no job goes into none with such an event
still_after : (p : ℕ) (event : Event) → rests event ≡ true → busy_after p event false ≡ false
still_after p (AddTracker t parent limit (Some quota)) still = refl
still_after p (AddTracker t parent limit None) still = refl
still_after p (Create q client blocks key) still = either (q == p) false
still_after p (PinLoad q) still = let never : false ≡ true = still in cc
still_after p (ReadOk q) still = either (q == p) false
still_after p (ReadFailed q before now) still = either (q == p) false
still_after p (ReadStale q wanted found) still = either (q == p) false
still_after p (StartWrite q) still = let never : false ≡ true = still in cc
still_after p (WriteOk q) still = either (q == p) false
still_after p (WriteFailed q before now) still = either (q == p) false
still_after p (Extract q f) still = either (q == p) false
still_after p (Destroy q) still = either (q == p) false
still_after p _ still = refl

-- nor with such events one after the other
pub busy_rests : (p m : ℕ) (events : List Event) → AllByRecursion (λ e. rests e ≡ true) events → busy_from p false (by m events) ≡ false
busy_rests p m [] still = refl
busy_rests p m (e ∷ events) still = ap (λ (was : Bool). busy_from p was (by m events)) (still_after p e still.0) ∙ busy_rests p m events still.1
