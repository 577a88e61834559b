-- Calls that append nothing behind the first failed write of a sink.
use Rattle.std.proofs.Common.{◌≡◌, ◌⊎◌, ℕ, List, Option, Some, None, inl, inr, sym, refl, subst}
use Rattle.outside.specs.Sinks.{EndsAt, StopsAt}

-- no write failed before the call
pub ends_later : (before mid now contents : Option (List ℕ)) → mid ≡ before → EndsAt mid now contents → EndsAt before now contents
ends_later before mid now contents same ends = subst (λ (a : Option (List ℕ)). EndsAt a now contents) same ends

pub stops_later : (failed : Type 0) (before mid now contents : Option (List ℕ)) → mid ≡ before → StopsAt failed mid now contents → StopsAt failed before now contents
stops_later failed before mid now contents same stops = subst (λ (a : Option (List ℕ)). StopsAt failed a now contents) same stops

-- nothing stands behind the first failed write of a call, whether it had one or not
ends_same : (before contents : Option (List ℕ)) → EndsAt before before contents
ends_same None contents = tt
ends_same (Some bytes) contents = refl

pub ends_there : {failed : Type 0} (before now contents : Option (List ℕ)) → StopsAt failed before now contents → EndsAt before now contents
ends_there before now contents (inl same) = subst (λ (a : Option (List ℕ)). EndsAt before a contents) (sym same) (ends_same before contents)
ends_there before now contents (inr both) = both.1

-- a call failed where a write did
pub fails_or_not : {failed : Type 0} (before now contents : Option (List ℕ)) → StopsAt failed before now contents → failed ⊎ (now ≡ before)
fails_or_not before now contents (inl same) = inr same
fails_or_not before now contents (inr both) = inl both.0
