-- What events of one maker count.
use Rattle.std.proofs.Common.{◌≡◌, ℕ, List, [], ◌∷◌, Bool, true, false, refl, arith}
use Rattle.std.proofs.lemmas.List.Sums.{sum_by-cons}
use Rattle.std.specs.List.{sum_by, AllByRecursion}
use Rattle.pool_model.specs.declared.event.Event.{Event}
use Rattle.pool_model.specs.declared.event.Event.TheVariants.{ReadFailed, ReadStale, WriteOk, WriteFailed}
use Rattle.pool_model.specs.declared.entry.Entry.{Entry}
use Rattle.store_api.specs.Entries.{by}
use Rattle.pin_core.specs.Tallies.{all_failures, all_stale, stored_by}
use Rattle.pin_core.specs.Plain.{is_plain}
use Rattle.pin_core.proofs.Tallied.{failures_append, none_stale, plain_failure, plain_stored, stale_append}
use Rattle.session_calls.specs.Moving.{rests}

-- no event is a failure, a write that ended well, or a load that gave another mark
abbrev pub EventsArePlain : List Event → Type 0
EventsArePlain events = AllByRecursion (λ e. is_plain e ≡ true) events

rests_plain : (e : Event) → rests e ≡ true → is_plain e ≡ true
rests_plain (ReadFailed p before now) rest = rest
rests_plain (ReadStale p wanted found) rest = rest
rests_plain (WriteOk p) rest = rest
rests_plain (WriteFailed p before now) rest = rest
rests_plain _ rest = refl

pub rest_plain : (events : List Event) → AllByRecursion (λ e. rests e ≡ true) events → EventsArePlain events
rest_plain [] rest = tt
rest_plain (e ∷ events) rest = (rests_plain e rest.0, rest_plain events rest.1)

pub plain_failures : (m : ℕ) (events : List Event) → EventsArePlain events → all_failures (by m events) ≡ 0
plain_failures m [] plain = refl
plain_failures m (e ∷ events) plain =
    let both = failures_append (by m (e ∷ [])) (by m events) in
    let first = plain_failure m e plain.0 in
    let rest = plain_failures m events plain.1 in
    omega (arith, both, first, rest)

pub plain_stale : (m : ℕ) (events : List Event) → EventsArePlain events → all_stale (by m events) ≡ 0
plain_stale m [] plain = refl
plain_stale m (e ∷ events) plain =
    let both = stale_append (by m (e ∷ [])) (by m events) in
    let first = none_stale m e plain.0 in
    let rest = plain_stale m events plain.1 in
    omega (arith, both, first, rest)

pub plain_stores : (h : List Entry) (m : ℕ) (events : List Event) → EventsArePlain events → sum_by (λ e. stored_by h e.event) (by m events) ≡ 0
plain_stores h m [] plain = refl
plain_stores h m (e ∷ events) plain =
    let x : Entry = record { maker = m; event = e } in
    let both = sum_by-cons (λ (e : Entry). stored_by h e.event) x (by m events) in
    let first = plain_stored h e plain.0 in
    let rest = plain_stores h m events plain.1 in
    omega (arith, both, first, rest)

-- a write that ended well
abbrev pub is_stored_by : Event → Bool
is_stored_by (WriteOk p) = true
is_stored_by _ = false

pub unstored : (h : List Entry) (m : ℕ) (e : Event) → is_stored_by e ≡ false → sum_by (λ e. stored_by h e.event) (by m (e ∷ [])) ≡ 0
unstored h m (WriteOk p) none = let never : true ≡ false = none in cc
unstored h m _ none = refl
