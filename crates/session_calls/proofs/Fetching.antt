-- Clean pages go, and a load begins and ends: what these events do.
use Rattle.std.proofs.Common.{◌≡◌, ℕ, List, [], ◌∷◌, ◌++◌, map, Option, unwrap_or, All, refl, sym, ap, ◌∙◌, inl, inr}
use Rattle.std.proofs.lemmas.List.{append_assoc}
use Rattle.std.proofs.lemmas.List.Elements.{All-nil, All-cons}
use Rattle.std.specs.FinMap.{get, insert}
use Rattle.reservation_tree.proofs.Maps.{get_same, get_other, same_or_other}
use Rattle.pool_model.specs.declared.event.Event.{Event}
use Rattle.pool_model.specs.declared.event.Event.TheVariants.{PinLoad, Evict}
use Rattle.pool_model.specs.declared.entry.Entry.{Entry}
use Rattle.pool_model.specs.State.{Place, Evicted, Loading, Page, Pages, State, page_at, no_page}
use Rattle.pool_model.specs.Effects.{after}
use Rattle.pool_model.specs.Legal.{run}
use Rattle.pool_model.specs.LookingBack.{left_in, content_from}
use Rattle.store_api.specs.Holdings.{Holdings}
use Rattle.store_api.specs.Entries.{by, IsEvict}
use Rattle.own_entries.specs.OwnHoldings.{after_events}
use Rattle.pin_core.specs.calls.Evictions.{evictions}
use Rattle.session_calls.specs.Coming.{Evicts}
use Rattle.session_calls.proofs.Resting.{AllRest}

-- these pages go, and the load of this one begins
abbrev pub fetching : List ℕ → ℕ → List Event
fetching names p = map (λ n. Evict n) names ++ PinLoad p ∷ []

pub fetching_by : (m : ℕ) (names : List ℕ) (p : ℕ) → evictions m names ++ record { maker = m; event = PinLoad p } ∷ [] ≡ by m (fetching names p)
fetching_by m [] p = refl
fetching_by m (n ∷ names) p = ap (λ (es : List Entry). record { maker = m; event = Evict n } ∷ es) (fetching_by m names p)

all_evict : (names : List ℕ) → All IsEvict (map (λ n. Evict n) names)
all_evict [] = All-nil IsEvict
all_evict (n ∷ names) = All-cons IsEvict (Evict n) (map (λ n. Evict n) names) tt (all_evict names)

pub fetches : (names : List ℕ) (p : ℕ) (last : List Event) → Evicts (PinLoad p ∷ last) (fetching names p ++ last)
fetches names p last = (map (λ n. Evict n) names, all_evict names, append_assoc (map (λ n. Evict n) names) (PinLoad p ∷ []) last)

-- no job begins or ends while pages go
pub evicts_rest : (names : List ℕ) → AllRest (map (λ n. Evict n) names)
evicts_rest [] = tt
evicts_rest (n ∷ names) = (refl, evicts_rest names)

pub fetching_holds : (names : List ℕ) (p : ℕ) (last : List Event) (h : Holdings) → after_events h (fetching names p ++ last) ≡ after_events h (PinLoad p ∷ last)
fetching_holds [] p last h = refl
fetching_holds (n ∷ names) p last h = fetching_holds names p last h

-- what is left in pages stays
pub content_append : (q : ℕ) (old : List ℕ) (a b : List Entry) → content_from q old (a ++ b) ≡ content_from q (content_from q old a) b
content_append q old [] b = refl
content_append q old (e ∷ a) b = content_append q (left_in q e.event old) a b

pub fetching_leaves : (m : ℕ) (names : List ℕ) (p q : ℕ) (old : List ℕ) → content_from q old (by m (fetching names p)) ≡ old
fetching_leaves m [] p q old = refl
fetching_leaves m (n ∷ names) p q old = fetching_leaves m names p q old

-- what of a page its place doesn't tell stays
module _ (f : Page → ℕ) (same : (x : Page) (at : Place) → f (record x { place = at }) ≡ f x) where
  pub put_alike : (pages : Pages) (p : ℕ) (at : Place) (q : ℕ) → f (unwrap_or (get (insert pages p (record (unwrap_or (get pages p) no_page) { place = at })) q) no_page) ≡ f (unwrap_or (get pages q) no_page)
  put_alike pages p at q = elim (same_or_other q p) [
    | inl here ↦
        ap (λ (k : ℕ). f (unwrap_or (get (insert pages p (record (unwrap_or (get pages p) no_page) { place = at })) k) no_page)) here
        ∙ ap (λ (o : Option Page). f (unwrap_or o no_page)) (get_same pages p (record (unwrap_or (get pages p) no_page) { place = at }))
        ∙ same (unwrap_or (get pages p) no_page) at ∙ ap (λ (k : ℕ). f (unwrap_or (get pages k) no_page)) (sym here)
    | inr other ↦ ap (λ (o : Option Page). f (unwrap_or o no_page)) (get_other pages p (record (unwrap_or (get pages p) no_page) { place = at }) q other)
  ]

  pub fetching_alike : (m : ℕ) (names : List ℕ) (p q : ℕ) (s : State) → f (page_at (run s (by m (fetching names p))) q) ≡ f (page_at s q)
  fetching_alike m [] p q s = put_alike s.pages p Loading q
  fetching_alike m (n ∷ names) p q s = fetching_alike m names p q (after s (record { maker = m; event = Evict n })) ∙ put_alike s.pages n Evicted q
