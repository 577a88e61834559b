-- What a trace tells of an event: all of it, but for bytes, sums, keys, and the page of a stale read.
use Rattle.std.proofs.Common.{◌≡◌, ℕ, List, refl, subst}
use Rattle.pool_model.specs.declared.event.Event.{Event}
use Rattle.pool_model.specs.declared.event.Event.TheVariants.{Ask, AddTracker, CloseTracker, Increase, IncreaseToFit, Decrease, MoveReservation, Create, PinHere, PinLoad, ReadOk, ReadFailed, ReadStale, PinAgain, UnpinOnce, Unpin, UnpinRefused, Extract, Destroy, Alloc, Free, MoveBuffer, StartWrite, WriteOk, WriteFailed, Evict, Refused}
use Rattle.pool_model.specs.declared.bare.Bare.{Bare}
use Rattle.pool_model.specs.declared.bare.Bare.TheVariants as bare
use Rattle.pool_model.specs.Traces.{bare_of}

-- the events of which a trace keeps this
abbrev pub Told : Event → Bare → Type 0
Told e bare.Ask = e ≡ Ask
Told e (bare.AddTracker t parent limit quota) = e ≡ AddTracker t parent limit quota
Told e (bare.CloseTracker t) = e ≡ CloseTracker t
Told e (bare.Increase t bytes) = e ≡ Increase t bytes
Told e (bare.IncreaseToFit t bytes) = e ≡ IncreaseToFit t bytes
Told e (bare.Decrease t bytes) = e ≡ Decrease t bytes
Told e (bare.MoveReservation from to bytes) = e ≡ MoveReservation from to bytes
Told e (bare.Create p client blocks) = (key : ℕ) × (e ≡ Create p client blocks key)
Told e (bare.PinHere p) = e ≡ PinHere p
Told e (bare.PinLoad p) = e ≡ PinLoad p
Told e (bare.ReadOk p) = e ≡ ReadOk p
Told e (bare.ReadFailed p) = (before : ℕ) × (after : ℕ) × (e ≡ ReadFailed p before after)
Told e (bare.ReadStale wanted found) = (p : ℕ) × (e ≡ ReadStale p wanted found)
Told e (bare.PinAgain p) = e ≡ PinAgain p
Told e (bare.UnpinOnce p) = e ≡ UnpinOnce p
Told e (bare.Unpin p) = (content : List ℕ) × (e ≡ Unpin p content)
Told e (bare.UnpinRefused p) = e ≡ UnpinRefused p
Told e (bare.Extract p f) = e ≡ Extract p f
Told e (bare.Destroy p) = e ≡ Destroy p
Told e (bare.Alloc f client blocks) = e ≡ Alloc f client blocks
Told e (bare.Free f) = e ≡ Free f
Told e (bare.MoveBuffer f to) = e ≡ MoveBuffer f to
Told e (bare.StartWrite p) = e ≡ StartWrite p
Told e (bare.WriteOk p) = e ≡ WriteOk p
Told e (bare.WriteFailed p) = (before : ℕ) × (after : ℕ) × (e ≡ WriteFailed p before after)
Told e (bare.Evict p) = e ≡ Evict p
Told e (bare.Refused call entry) = e ≡ Refused call entry

told : (e : Event) → Told e (bare_of e)
told Ask = refl
told (AddTracker t parent limit quota) = refl
told (CloseTracker t) = refl
told (Increase t bytes) = refl
told (IncreaseToFit t bytes) = refl
told (Decrease t bytes) = refl
told (MoveReservation from to bytes) = refl
told (Create p client blocks key) = (key, refl)
told (PinHere p) = refl
told (PinLoad p) = refl
told (ReadOk p) = refl
told (ReadFailed p before after) = (before, after, refl)
told (ReadStale p wanted found) = (p, refl)
told (PinAgain p) = refl
told (UnpinOnce p) = refl
told (Unpin p content) = (content, refl)
told (UnpinRefused p) = refl
told (Extract p f) = refl
told (Destroy p) = refl
told (Alloc f client blocks) = refl
told (Free f) = refl
told (MoveBuffer f to) = refl
told (StartWrite p) = refl
told (WriteOk p) = refl
told (WriteFailed p before after) = (before, after, refl)
told (Evict p) = refl
told (Refused call entry) = refl

pub told_as : (e : Event) (b : Bare) → bare_of e ≡ b → Told e b
told_as e b is = subst (Told e) is (told e)
