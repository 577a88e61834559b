-- Pages are for clients of their sessions, and the failures that sessions keep are those that the history tells.
use Rattle.std.proofs.Common.{◌≡◌, ◌≢◌, ℕ, ◌==◌, true, false, ◌&&◌, if◌then◌else◌, Option, Some, None, List, [], ◌∷◌, ◌++◌, length, refl, ap, sym, ◌∙◌, subst, arith, inl, inr, eq-eqb, ne_eqb}
use Rattle.std.specs.Ordering.{nat_cmp}
use Rattle.std.specs.FinMap.{get, get-empty}
use Rattle.reservation_tree.specs.Tracker.{Tracker}
use Rattle.reservation_tree.proofs.Maps.{is_there}
use Rattle.reservation_tree.proofs.Members.{live_apart}
use Rattle.pool_model.specs.declared.event.Event.{Event}
use Rattle.pool_model.specs.declared.event.Event.TheVariants.{CloseTracker, Create}
use Rattle.pool_model.specs.declared.entry.Entry.{Entry}
use Rattle.pool_model.specs.State.{Page, Session, State, shown, page_at}
use Rattle.pool_model.specs.Owning.{IsClientOf, IsTrackerOf}
use Rattle.pool_model.specs.LookingBack.{Made, makes, maker_of}
use Rattle.pool_model.specs.Failures.{fails, is_for_own, forgets, closes}
use Rattle.pool_model.specs.MayFollow.{Allows, MayFollow}
use Rattle.pool_model.specs.Parts.{with_failures, keep_first}
use Rattle.pool_model.specs.Effects.{effect, after, count_entry}
use Rattle.pool_model.specs.Sound.{IsQuery, IsSound}
use Rattle.pool_model.specs.HistoryLaws.{made, LegalPagesAreOwned}
use Rattle.pool_model.proofs.Seats.{some_is, query_depth, own_client}
use Rattle.pool_model.proofs.Pages.{page_is}
use Rattle.pool_model.proofs.Fronts.{holds_after}
use Rattle.pool_model.proofs.Made.{live_before, TellsPages}
use Rattle.pool_model.proofs.Owners.{still_client}
use Rattle.pool_model.proofs.Keeping.{changed_session, Keeps, calm, one_noted}

-- a page's client isn't one that ends
page_stays : (before : List Entry) (s : State) (maker : ℕ) (event : Event) → Allows before s maker event → (p : ℕ) (x : Page) → get s.pages p ≡ Some x → closes x.client event ≡ false
page_stays before s maker (CloseTracker t) may p x is = ne_eqb t x.client (λ same. may.no_page p x is (sym same))
page_stays before s maker _ may p x is = refl

-- a page that is made is for a client of its session
made_for : (before : List Entry) (s : State) (maker : ℕ) (event : Event) → Allows before s maker event → (p : ℕ) (m : Made) → makes p maker event ≡ Some m
    → IsClientOf s m.session m.client × (closes m.client event ≡ false)
made_for before s maker (Create q client blocks key) may p m is =
    elim (q == p) as (λ b. (if b then Some (record { session = maker; client = client; blocks = blocks }) else None) ≡ Some m → IsClientOf s m.session m.client × (closes m.client (Create q client blocks key) ≡ false)) [
      | true ↦ λ there.
          let new : Made = record { session = maker; client = client; blocks = blocks } in
          let same : new ≡ m = some_is new m there in
          (subst (λ (n : Made). IsClientOf s n.session n.client) same may.own, refl)
      | false ↦ λ there. let no : None ≡ Some m = there in cc
    ] is
made_for before s maker _ may p m is = let no : None ≡ Some m = is in cc

pub counted_client : (s : State) (m c : ℕ) → IsClientOf s m c → IsClientOf (count_entry s) m c
counted_client s m c client = record { session = client.session; opened = client.opened; tracker = client.tracker; lives = client.lives; under = client.under }

-- each live page is for a live client of its session
abbrev pub PagesOwned : State → Type 0
PagesOwned s = (p : ℕ) (x : Page) → get s.pages p ≡ Some x → IsClientOf s x.session x.client

pub owned_on : (before : List Entry) (s : State) → IsSound s → PagesOwned s → (e : Entry) → MayFollow before s e → PagesOwned (after s e)
owned_on before s sound owned e may p y is = counted_client (effect e.maker e.event s) y.session y.client (elim (live_before before s e.maker e.event may.allows p y is) [
  | inl was ↦
      let still : IsClientOf (effect e.maker e.event s) was.page.session was.page.client =
      still_client before s sound e.maker e.event may.allows was.page.session was.page.client (owned p was.page was.lives) (page_stays before s e.maker e.event may.allows p was.page was.lives) in
      subst (λ (m : Made). IsClientOf (effect e.maker e.event s) m.session m.client) was.same still
  | inr new ↦
      let of : IsClientOf s y.session y.client × (closes y.client e.event ≡ false) = made_for before s e.maker e.event may.allows p (made y) new in
      still_client before s sound e.maker e.event may.allows y.session y.client of.0 of.1
])

pub legal_pages_are_owned : LegalPagesAreOwned
legal_pages_are_owned o h legal = holds_after (λ _ s. PagesOwned s) owned_on o (λ p x is. let none : None ≡ Some x = sym (get-empty nat_cmp p) ∙ is in cc) h legal

-- a client of one session is no tracker of another
pub of_one : (s : State) → IsSound s → (maker m t : ℕ) → m ≢ maker → IsTrackerOf s maker t → IsClientOf s m t → ⊥
of_one s sound maker m t apart (inl query) client =
    let it : IsQuery s.trackers t = subst (IsQuery s.trackers) query.is (sound.seated.seats maker query.session query.lives) in
    let one = query_depth s.trackers sound.seated.tree t it in
    let two = (own_client s sound.seated m t client).deep in
    let no : 1 ≡ 2 = sym one ∙ two in
    omega (arith, no)
of_one s sound maker m t apart (inr own) client =
    let same : own.tracker ≡ client.tracker = some_is own.tracker client.tracker (sym own.lives ∙ client.lives) in
    let query : own.session.query ≡ client.session.query = some_is own.session.query client.session.query (sym own.under ∙ ap (λ (x : Tracker). x.parent) same ∙ client.under) in
    apart (sound.seated.apart m maker client.session own.session client.opened own.opened (sym query))

-- a number that isn't there is None
not_there : (o : Option ℕ) → ((j : ℕ) → o ≡ Some j → ⊥) → o ≡ None
not_there None none = refl
not_there (Some j) none = absurd (none j refl)

module _ (all before : List Entry) (s : State) (sound : IsSound s) (owned : PagesOwned s) (told : TellsPages before s) (count : s.entries ≡ shown (length before))
    (extends : (p : ℕ) (m : Made) → maker_of before p ≡ Some m → maker_of all p ≡ Some m)
    (kept : (m : ℕ) (x : Session) → get s.sessions m ≡ Some x → Keeps all before s m x) where
  -- a failed page's session notes it; `event` is its failure
  pub fault : (maker : ℕ) (event : Event) → Allows before s maker event → (p : ℕ) (x0 : Page) → get s.pages p ≡ Some x0 → (new : State)
      → ((m c : ℕ) → IsClientOf s m c → IsClientOf new m c) → ((m c : ℕ) → forgets m c (record { maker = maker; event = event }) ≡ false)
      → ((m c : ℕ) → fails (is_for_own m c) all event ≡ is_for_own m c (maker_of all p))
      → (m : ℕ) (y : Session) → get (with_failures (keep_first (page_at s p).client s.entries) (page_at s p).session s.sessions) m ≡ Some y
      → Keeps all (before ++ record { maker = maker; event = event } ∷ []) new m y
  fault maker event may p x0 lives new still goes_on tells m y there =
      let at : page_at s p ≡ x0 = page_is s p x0 lives in
      let known : maker_of all p ≡ Some (made x0) = extends p (made x0) (told.as_made p x0 lives) in
      let verdict : (c : ℕ) → fails (is_for_own m c) all event ≡ ((x0.session == m) && (x0.client == c)) = λ c. tells m c ∙ ap (is_for_own m c) known in
      elim (changed_session (keep_first (page_at s p).client s.entries) (page_at s p).session s.sessions m y there) [
        | inl other ↦
            let apart : x0.session ≢ m = λ same. other.0 (sym same ∙ sym (ap (λ (z : Page). z.session) at)) in
            calm all before s new _ m y (kept m y other.1) (still m) (goes_on m) (λ c. verdict c ∙ ap (λ b. b && (x0.client == c)) (ne_eqb x0.session m apart))
        | inr own ↦
            let mine : x0.session ≡ m = sym (ap (λ (z : Page). z.session) at) ∙ sym own.0 in
            let client : (page_at s p).client ≡ x0.client = ap (λ (z : Page). z.client) at in
            subst (Keeps all (before ++ record { maker = maker; event = event } ∷ []) new m) own.3
            (one_noted all before s new _ m own.1 (page_at s p).client s.entries (kept m own.1 own.2) count
            (subst (λ (c : ℕ). IsClientOf new m c) (sym client) (subst (λ (n : ℕ). IsClientOf new n x0.client) mine (still x0.session x0.client (owned p x0 lives))))
            (still m) (goes_on m)
            (λ c same. verdict c ∙ ap (λ b. b && (x0.client == c)) (eq-eqb x0.session m mine) ∙ eq-eqb x0.client c (sym client ∙ sym same))
            (λ c other. verdict c ∙ ap (λ b. b && (x0.client == c)) (eq-eqb x0.session m mine) ∙ ne_eqb x0.client c (λ same. other (sym same ∙ sym client))))
      ]

  -- no session keeps a number of a tracker that isn't its client
  pub no_number : (m : ℕ) (x : Session) → get s.sessions m ≡ Some x → (t : ℕ) → (IsClientOf s m t → ⊥) → get x.failures t ≡ None
  no_number m x is t none = not_there (get x.failures t) (λ j there. none ((kept m x is).kept t j there))

  pub fresh_number : (m : ℕ) (x : Session) → get s.sessions m ≡ Some x → (t : ℕ) → get s.trackers t ≡ None → get x.failures t ≡ None
  fresh_number m x is t fresh = no_number m x is t (λ client. live_apart s.trackers t t (is_there (get s.trackers t) client.tracker client.lives) fresh refl)
