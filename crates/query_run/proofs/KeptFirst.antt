-- A client of the query comes first.
use Rattle.std.proofs.Common.{◌≡◌, ◌≤◌, ℕ, List, [], ◌∷◌, ◌++◌, None, ap, subst}
use Rattle.pool_model.specs.declared.event.Event.{Event}
use Rattle.pool_model.specs.declared.event.Event.TheVariants.{AddTracker, Increase}
use Rattle.store_api.specs.Entries.{MadeThese}
use Rattle.store_api.specs.Signs.{Signs, Grows}
use Rattle.tuple_stream.specs.Trails.{EnteredEvents}
use Rattle.tuple_stream.proofs.Sinces.{since_any, since_joined, since_these}
use Rattle.query_run.specs.Trail.{ReservesFirst}

-- the events with which a client comes
abbrev pub coming : ℕ → ℕ → ℕ → ℕ → List Event
coming c query limit bytes = AddTracker c query limit None ∷ Increase c bytes ∷ []

-- whatever comes behind a client
pub reserves_more : (maker c query limit bytes least : ℕ) (amounts : List ℕ) (old mid new : Signs) → MadeThese maker (coming c query limit bytes) old mid → EnteredEvents (ReservesFirst query amounts) mid.trail new.trail → bytes ≤ limit → bytes ≡ least
    → EnteredEvents (ReservesFirst query (least ∷ amounts)) old.trail new.trail
reserves_more maker c query limit bytes least amounts old mid new made more fits same =
    subst (λ (n : ℕ). EnteredEvents (ReservesFirst query (n ∷ amounts)) old.trail new.trail) same
    (since_joined (λ events. events ≡ coming c query limit bytes) (ReservesFirst query amounts) (ReservesFirst query (bytes ∷ amounts)) old.trail mid.trail new.trail
    (λ first next are behind. (c, limit, next, fits, ap (λ (es : List Event). es ++ next) are, behind))
    (since_these maker (coming c query limit bytes) old mid made) more)

-- no client comes
pub reserves_none : (query : ℕ) (old new : Signs) → Grows old new → EnteredEvents (ReservesFirst query []) old.trail new.trail
reserves_none query old new grows = since_any old.trail new.trail grows.trail

-- one does
pub reserves_first : (maker c query limit bytes least : ℕ) (old mid new : Signs) → MadeThese maker (coming c query limit bytes) old mid → Grows mid new → bytes ≤ limit → bytes ≡ least → EnteredEvents (ReservesFirst query (least ∷ [])) old.trail new.trail
reserves_first maker c query limit bytes least old mid new made grows fits same =
    reserves_more maker c query limit bytes least [] old mid new made (reserves_none query mid new grows) fits same
