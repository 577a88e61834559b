-- Events with which no page goes into a job and none comes back.
use Rattle.std.proofs.Common.{◌≡◌, ℕ, List, [], ◌∷◌, true}
use Rattle.std.specs.List.{AllByRecursion}
use Rattle.pool_model.specs.declared.event.Event.{Event}
use Rattle.store_api.specs.Entries.{by}
use Rattle.session_calls.specs.Moving.{rests}

-- no page goes into a job with these, and none comes back
abbrev pub AllRest : List Event → Type 0
AllRest events = AllByRecursion (λ e. rests e ≡ true) events

-- what is so of events is so of entries with them
pub all_by : (P : Event → Type 0) (m : ℕ) (events : List Event) → AllByRecursion P events → AllByRecursion (λ e. P e.event) (by m events)
all_by P m [] all = tt
all_by P m (e ∷ events) all = (all.0, all_by P m events all.1)
