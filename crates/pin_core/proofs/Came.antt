-- A session comes, with its query tracker and its quota.
use Rattle.std.proofs.Common.{◌≡◌, ◌≢◌, ℕ, ◌+◌, ◌-◌, ◌<◌, ◌==◌, false, [], ◌∷◌, length, set, get_or, Option, Some, None, refl, ap, sym, ◌∙◌, subst, inl, inr, arith, ne_eqb}
use Rattle.std.specs.FinMap.{get}
use Rattle.std.proofs.lemmas.List.{get_or-set_same, get_or-set_other, length-set}
use Rattle.index_list.specs.Listing.{stands_in}
use Rattle.reservation_tree.specs.Tracker.{Tracker, Trackers, depth_of}
use Rattle.reservation_tree.specs.Tree.{with_new}
use Rattle.reservation_tree.specs.Change.{with_child}
use Rattle.reservation_tree.proofs.Maps.{get_same, get_other, same_or_other, len_more}
use Rattle.reservation_tree.proofs.Members.{newly_alone}
use Rattle.reservation_tree.proofs.Sums.{total-none}
use Rattle.scratch_dev.specs.declared.quota.Quota.{Quota}
use Rattle.session_table.specs.Seats.{Seat, Seats, seat_of, trackers_of, with_seat}
use Rattle.session_table.specs.Sessions.{session_in, sessions_in}
use Rattle.session_table.proofs.Changes.{opened_seat, opened_other}
use Rattle.session_table.proofs.Counts.{count_opened}
use Rattle.session_table.proofs.Found.{sessions_opened, get_sessions}
use Rattle.pool_model.specs.Bytes.{only_if}
use Rattle.pool_model.specs.declared.event.Event.TheVariants as event
use Rattle.pool_model.specs.declared.entry.Entry.{Entry as Event}
use Rattle.pool_model.specs.State.{Page, Pages, Session, Sessions, shown}
use Rattle.pool_model.specs.Sums.{slots_of}
use Rattle.pool_model.proofs.Seats.{some_is}
use Rattle.pool_model.proofs.Weights.{not_mine}
use Rattle.pin_core.specs.declared.parts.Parts.{Parts}
use Rattle.pin_core.specs.StateOf.{pages_in, state_of}
use Rattle.pin_core.specs.Invariant.{IsKept, IsQuota, hangs_under, is_live_client}
use Rattle.pin_core.specs.Lawful.{Lawful}
use Rattle.pin_core.specs.parts.Rearranging.{seated}
use Rattle.pin_core.proofs.Entered.{Done}
use Rattle.pin_core.proofs.Places.{page_owned}
use Rattle.pin_core.proofs.Rearranged.{rearranged_done}
use Rattle.pin_core.proofs.SeatedClients.{page_opened, hangs_none, hangs_not}
use Rattle.pin_core.proofs.Queries.{client_is, client_none, client_at, hangs_at, hangs_elsewhere, query_below, root_deep, fresh_charge, charge_came}

-- who has no page has no slots
pub no_slots : (pages : Pages) (s : ℕ) → ((p : ℕ) (x : Page) → get pages p ≡ Some x → x.session ≢ s) → slots_of pages s ≡ 0
unfolding slots_of
no_slots pages s none = total-none (λ _ x. only_if (x.session == s) (only_if x.has_slots x.blocks)) pages (λ p x is. not_mine x.session s (only_if x.has_slots x.blocks) (none p x is))

-- a quota without a session isn't open
pub none_open : (o : Option Session) (q : Option Quota) (n : ℕ) → IsQuota o q n → o ≡ None → q ≡ None
none_open None None n is none = refl
none_open None (Some quota) n is none = absurd is
none_open (Some x) q n is none = cc

-- what holds of the session that came, and of the others, holds of all
pub at_opened : (seats : Seats) (s query quota : ℕ) → s < length seats → (P : Seat → Type 0) → P (record { query = query; quota = quota; members = [] })
    → ((m : ℕ) (y : Seat) → m ≢ s → seat_of seats m ≡ Some y → P y) → (m : ℕ) (y : Seat) → seat_of (with_seat s query quota seats) m ≡ Some y → P y
at_opened seats s query quota within P own others m y there = elim (same_or_other m s) [
  | inl here ↦ subst P (some_is (record { query = query; quota = quota; members = [] }) y
      (sym (opened_seat seats s query quota within) ∙ ap (seat_of (with_seat s query quota seats)) (sym here) ∙ there)) own
  | inr other ↦ others m y other (sym (opened_other seats s query quota m other) ∙ there)
]

module _ {D : Type 0} where
  -- a number without a session has no page
  pub no_page_of : (v : Parts D) → IsKept v → (s : ℕ) → get (sessions_in v.seats) s ≡ None → (p : ℕ) (x : Page) → get (pages_in v.pages) p ≡ Some x → x.session ≢ s
  no_page_of v is_kept s vacant p x is same =
      let owned = page_owned (state_of v) is_kept.legal p x is in
      let both : None ≡ Some owned.session = sym vacant ∙ ap (get (sessions_in v.seats)) (sym same) ∙ owned.opened in cc

  module _ (v : Parts D) (is_kept : IsKept v) (laws : Lawful v) (s : ℕ) (low : s < 240) (vacant : seat_of v.seats s ≡ None) (limit quota t : ℕ)
      (fresh : get v.tree.trackers t ≡ None) where
    abbrev ts : Trackers
    ts = v.tree.trackers

    abbrev one : Tracker
    one = record { parent = Some 0; depth = depth_of v.tree.trackers 0 + 1; limit = limit; reservation = 0 }

    abbrev seat : Seat
    seat = record { query = t; quota = quota; members = [] }

    within : s < length v.seats
    within = let size = laws.seats.counted in omega (arith, size, low)

    pub none : get (sessions_in v.seats) s ≡ None
    none = get_sessions v.seats s ∙ ap (λ (o : Option Seat). elim o [ None ↦ None | Some x ↦ Some (session_in x) ]) vacant

    came : get (with_child t 0 limit ts) t ≡ Some one
    came = get_same ts t one

    own : (q : ℕ) → stands_in q (trackers_of seat.members) ≡ hangs_under (with_child t 0 limit ts) t q
    own q = sym (hangs_not (with_child t 0 limit ts) t q (newly_alone ts laws.tree t 0 limit fresh laws.tree.root))

    rest : (m : ℕ) (y : Seat) → m ≢ s → seat_of v.seats m ≡ Some y → (q : ℕ) → stands_in q (trackers_of y.members) ≡ hangs_under (with_child t 0 limit ts) y.query q
    rest m y apart there q = elim (same_or_other q t) [
      | inl here ↦
          ap (λ (k : ℕ). stands_in k (trackers_of y.members)) here ∙ is_kept.seated.clients m y there t ∙ hangs_none ts y.query t fresh
          ∙ sym (ap (hangs_under (with_child t 0 limit ts) y.query) here
          ∙ hangs_elsewhere (with_child t 0 limit ts) y.query 0 t one came refl (λ same. query_below v is_kept m y there (sym same)))
      | inr other ↦ is_kept.seated.clients m y there q ∙ sym (hangs_at (with_child t 0 limit ts) ts y.query q (get_other ts t one q other))
    ]

    opens : (c : ℕ) → get_or v.lists.is_open c false ≡ is_live_client (with_child t 0 limit ts) c
    opens c = elim (same_or_other c t) [
      | inl here ↦
          is_kept.seated.opens c ∙ ap (is_live_client ts) here ∙ client_none ts t fresh
          ∙ sym (ap (is_live_client (with_child t 0 limit ts)) here ∙ client_is (with_child t 0 limit ts) t one came
          ∙ ne_eqb (depth_of ts 0 + 1) 2 (λ same. let deep = root_deep v is_kept in omega (arith, deep, same)))
      | inr other ↦ is_kept.seated.opens c ∙ sym (client_at (with_child t 0 limit ts) ts c (get_other ts t one c other))
    ]

    abbrev open_quota : Quota
    open_quota = record { free = quota; lent = 0 }

    lent : (q : ℕ) → IsQuota (get (sessions_in (with_seat s t quota v.seats)) q) (get_or (set v.slots.quotas s (Some open_quota)) q None) (slots_of (pages_in v.pages) q)
    lent q = elim (same_or_other q s) [
      | inl here ↦
          let size = is_kept.sized.sessions in
          let free : slots_of (pages_in v.pages) s ≡ 0 = no_slots (pages_in v.pages) s (no_page_of v is_kept s none) in
          let tied : IsQuota (Some (session_in seat)) (Some open_quota) (slots_of (pages_in v.pages) s) = (sym free, omega (arith, free)) in
          subst (λ (k : ℕ). IsQuota (get (sessions_in (with_seat s t quota v.seats)) k) (get_or (set v.slots.quotas s (Some open_quota)) k None) (slots_of (pages_in v.pages) k)) (sym here)
          (subst (λ (o : Option Session). IsQuota o (get_or (set v.slots.quotas s (Some open_quota)) s None) (slots_of (pages_in v.pages) s))
          (sym (get_sessions (with_seat s t quota v.seats) s ∙ ap (λ (o : Option Seat). elim o [ None ↦ None | Some x ↦ Some (session_in x) ]) (opened_seat v.seats s t quota within)))
          (subst (λ (r : Option Quota). IsQuota (Some (session_in seat)) r (slots_of (pages_in v.pages) s)) (sym (get_or-set_same v.slots.quotas s (Some open_quota) None (omega (arith, size, low)))) tied))
      | inr other ↦
          subst (λ (o : Option Session). IsQuota o (get_or (set v.slots.quotas s (Some open_quota)) q None) (slots_of (pages_in v.pages) q))
          (sym (get_sessions (with_seat s t quota v.seats) q ∙ ap (λ (o : Option Seat). elim o [ None ↦ None | Some x ↦ Some (session_in x) ]) (opened_other v.seats s t quota q other) ∙ sym (get_sessions v.seats q)))
          (subst (λ (r : Option Quota). IsQuota (get (sessions_in v.seats) q) r (slots_of (pages_in v.pages) q)) (sym (get_or-set_other v.slots.quotas s q (Some open_quota) None other)) (is_kept.counted.quotas q))
    ]

    abbrev event_made : Event
    event_made = record { maker = s; event = event.AddTracker t 0 limit (Some quota) }

    pub seated_done : Done (record { maker = s; event = event.AddTracker t 0 limit (Some quota) } ∷ []) [] [] v (seated s limit quota t v)
    seated_done =
        rearranged_done (with_new t 0 limit v.tree) v.lists.is_open (set v.slots.quotas s (Some open_quota)) (v.slots.spare - quota) (with_seat s t quota v.seats) v event_made is_kept (record {
          charges = charge_came v.tree t (fresh_charge v is_kept t fresh);
          opened = page_opened v is_kept laws;
          lent = lent;
          seated = record {
            clients = at_opened v.seats s t quota within (λ y. (q : ℕ) → stands_in q (trackers_of y.members) ≡ hangs_under (with_child t 0 limit ts) y.query q) own rest;
            opens = opens;
            few =
                let more = len_more ts t one fresh in
                let count = count_opened v.seats s t quota within vacant in
                let few = is_kept.seated.few in
                omega (arith, more, count, few);
          };
          clients = refl;
          sessions = length-set v.slots.quotas s (Some open_quota);
          state = ap (λ (m : Sessions). record (state_of v) { trackers = with_child t 0 limit ts; sessions = m; entries = shown (v.entries + 1) }) (sessions_opened v.seats s t quota within);
          may = λ h. record { makes = low; allows = record { fresh = fresh; root = refl; none = none } };
          leaves = λ q old. refl;
        })
