-- What a call that pins a page asked, wrote and pinned.
use Rattle.std.proofs.Common.{ℕ, List, [], ◌∷◌, ◌++◌, sym, subst, inl, inr}
use Rattle.pool_model.specs.declared.event.Event.{Event}
use Rattle.pool_model.specs.declared.event.Event.TheVariants.{PinHere, PinLoad, ReadOk}
use Rattle.store_api.specs.Holdings.{Holdings}
use Rattle.store_api.specs.Entries.{IsAsked, IsPin}
use Rattle.session_calls.specs.Pinning.{IsPinned}
use Rattle.session_calls.proofs.Asks.{asked_last}

pub pin_is : (t : ℕ) (h : Holdings) (p : ℕ) (events pin : List Event) → IsAsked t h [] events → IsPinned p pin → IsPin t h p (events ++ pin)
pin_is t h p events pin asked (inl here) = inl (subst (λ (es : List Event). IsAsked t h (PinHere p ∷ []) (events ++ es)) (sym here) (asked_last t h events (PinHere p ∷ []) asked))
pin_is t h p events pin asked (inr loaded) =
    let last : List Event = loaded.0 ++ PinLoad p ∷ ReadOk p ∷ [] in
    inr (loaded.0, loaded.1, subst (λ (es : List Event). IsAsked t h last (events ++ es)) (sym loaded.2) (asked_last t h events last asked))
