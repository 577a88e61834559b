-- A session ends, with its query tracker.
use Rattle.std.proofs.Common.{◌≡◌, ◌≢◌, ℕ, ◌+◌, ◌<◌, ◌==◌, Bool, true, false, if◌then◌else◌, eqb, List, [], ◌∷◌, set, get_or, Option, Some, None, cond, refl, ap, sym, ◌∙◌, subst, inl, inr, arith, ne_eqb, eq-eqb}
use Rattle.std.specs.FinMap.{get, insert, remove}
use Rattle.std.proofs.lemmas.Bool.{false≢true, or_left}
use Rattle.std.proofs.lemmas.List.{get_or-set_same, get_or-set_other, length-set}
use Rattle.index_list.specs.Listing.{stands_in}
use Rattle.reservation_tree.specs.Tracker.{Trackers, reservation_of, HasNoChild}
use Rattle.reservation_tree.specs.Tree.{without}
use Rattle.reservation_tree.proofs.Maps.{is_there, removed_same, removed_other, same_or_other, len_less, none_removed}
use Rattle.reservation_tree.proofs.Outline.{depth_is}
use Rattle.scratch_dev.specs.declared.quota.Quota.{Quota}
use Rattle.scratch_dev.specs.Pool.{free_of}
use Rattle.client_lists.specs.declared.which.Which.TheVariants as which
use Rattle.client_lists.specs.Clients.{nodes_of}
use Rattle.clean_evict.specs.Eviction.{names_of}
use Rattle.session_table.specs.declared.member.Member.{Member}
use Rattle.session_table.specs.Seats.{Seat, Seats, seat_of, trackers_of, without_seat}
use Rattle.session_table.specs.Sessions.{session_in, sessions_in}
use Rattle.session_table.proofs.Changes.{closed_seat, closed_other}
use Rattle.session_table.proofs.Counts.{count_closed}
use Rattle.session_table.proofs.Found.{sessions_closed, get_sessions}
use Rattle.pool_model.specs.declared.event.Event.TheVariants as event
use Rattle.pool_model.specs.declared.entry.Entry.{Entry as Event}
use Rattle.pool_model.specs.State.{Page, Session}
use Rattle.pool_model.specs.Sums.{slots_of, IsClient}
use Rattle.pool_model.specs.Parts.{without_tracker}
use Rattle.pool_model.specs.Sound.{IsQuery}
use Rattle.pool_model.specs.Effects.{after}
use Rattle.pool_model.proofs.Seats.{some_is}
use Rattle.pin_core.specs.declared.parts.Parts.{Parts}
use Rattle.pin_core.specs.StateOf.{pages_in, dirty_in, state_of}
use Rattle.pin_core.specs.Invariant.{IsKept, IsQuota, hangs_under, is_live_client}
use Rattle.pin_core.specs.Lawful.{Lawful}
use Rattle.pin_core.specs.parts.Rearranging.{unseated}
use Rattle.pin_core.proofs.Entered.{Done}
use Rattle.pin_core.proofs.Effects.{same_state}
use Rattle.pin_core.proofs.Places.{page_owned}
use Rattle.pin_core.proofs.Queued.{get_dirty}
use Rattle.pin_core.proofs.Rearranged.{rearranged_done}
use Rattle.pin_core.proofs.SeatedClients.{sound_now, page_opened, hangs_none, hangs_not}
use Rattle.pin_core.proofs.Queries.{client_none, client_is, client_at, hangs_at, hangs_elsewhere, query_at, query_deep, query_below, idle_charge, charge_went, session_here}
use Rattle.pin_core.proofs.Came.{no_slots}

-- where nobody stands, nobody is
none_stand : (members : List Member) → ((q : ℕ) → stands_in q (trackers_of members) ≡ false) → members ≡ []
none_stand [] none = refl
none_stand (m ∷ rest) none = absurd (false≢true (sym (none m.tracker) ∙ here m.tracker (trackers_of rest)))
  where
    here : (k : ℕ) (ks : List ℕ) → stands_in k (k ∷ ks) ≡ true
    here k ks = or_left (eqb k k) (stands_in k ks) (eq-eqb k k refl)

-- what holds of the other sessions holds of all that are left
at_closed : (seats : Seats) (s : ℕ) (P : Seat → Type 0) → ((m : ℕ) (y : Seat) → m ≢ s → seat_of seats m ≡ Some y → P y) → (m : ℕ) (y : Seat) → seat_of (without_seat s seats) m ≡ Some y → P y
at_closed seats s P others m y there = elim (same_or_other m s) [
  | inl here ↦ let both : None ≡ Some y = sym (closed_seat seats s) ∙ ap (seat_of (without_seat s seats)) (sym here) ∙ there in cc
  | inr other ↦ others m y other (sym (closed_other seats s m other) ∙ there)
]

module _ {D : Type 0} (v : Parts D) (is_kept : IsKept v) (laws : Lawful v) (s : ℕ) (x : Seat) (is : seat_of v.seats s ≡ Some x) (low : s < 240)
    (alone : HasNoChild v.tree.trackers x.query) where
  abbrev ts : Trackers
  ts = v.tree.trackers

  query : IsQuery v.tree.trackers x.query
  query = query_at v is_kept s x is

  pub not_client : IsClient v.tree.trackers x.query → ⊥
  not_client client = let one = query_deep v is_kept s x is in let two = client.deep in omega (arith, one, two)

  -- the session has no client
  pub no_members : x.members ≡ []
  no_members = none_stand x.members (λ q. is_kept.seated.clients s x is q ∙ hangs_not ts x.query q alone)

  -- so it has no page, and all slots of its quota are home
  pub no_page_left : (p : ℕ) (y : Page) → get (pages_in v.pages) p ≡ Some y → y.session ≢ s
  no_page_left p y there same =
      let owned = page_owned (state_of v) is_kept.legal p y there in
      let its : owned.session ≡ session_in x = some_is owned.session (session_in x) (sym owned.opened ∙ ap (get (sessions_in v.seats)) same ∙ session_here v.seats s x is) in
      alone y.client owned.tracker owned.lives (owned.under ∙ ap (λ (z : Session). Some z.query) its)

  pub none_lent : slots_of (pages_in v.pages) s ≡ 0
  none_lent = no_slots (pages_in v.pages) s no_page_left

  module _ (empty : reservation_of v.tree.trackers x.query ≡ 0) where
    rest : (m : ℕ) (z : Seat) → m ≢ s → seat_of v.seats m ≡ Some z → (q : ℕ) → stands_in q (trackers_of z.members) ≡ hangs_under (remove ts x.query) z.query q
    rest m z apart there q = elim (same_or_other q x.query) [
      | inl here ↦
          ap (λ (k : ℕ). stands_in k (trackers_of z.members)) here ∙ is_kept.seated.clients m z there x.query
          ∙ hangs_elsewhere ts z.query 0 x.query query.tracker query.lives query.under (λ same. query_below v is_kept m z there (sym same))
          ∙ sym (ap (hangs_under (remove ts x.query) z.query) here ∙ hangs_none (remove ts x.query) z.query x.query (removed_same ts x.query))
      | inr other ↦ is_kept.seated.clients m z there q ∙ sym (hangs_at (remove ts x.query) ts z.query q (removed_other ts x.query q other))
    ]

    query_closed : is_live_client ts x.query ≡ false
    query_closed =
        client_is ts x.query query.tracker query.lives
        ∙ ne_eqb query.tracker.depth 2 (λ same. not_client (record {
          live = is_there (get ts x.query) query.tracker query.lives;
          deep = depth_is ts x.query query.tracker query.lives ∙ same;
        }))

    opens : (c : ℕ) → get_or v.lists.is_open c false ≡ is_live_client (remove ts x.query) c
    opens c = elim (same_or_other c x.query) [
      | inl here ↦
          is_kept.seated.opens c ∙ ap (is_live_client ts) here ∙ query_closed
          ∙ sym (ap (is_live_client (remove ts x.query)) here ∙ client_none (remove ts x.query) x.query (removed_same ts x.query))
      | inr other ↦ is_kept.seated.opens c ∙ sym (client_at (remove ts x.query) ts c (removed_other ts x.query c other))
    ]

    lent : (q : ℕ) → IsQuota (get (sessions_in (without_seat s v.seats)) q) (get_or (set v.slots.quotas s None) q None) (slots_of (pages_in v.pages) q)
    lent q = elim (same_or_other q s) [
      | inl here ↦
          let size = is_kept.sized.sessions in
          subst (λ (k : ℕ). IsQuota (get (sessions_in (without_seat s v.seats)) k) (get_or (set v.slots.quotas s None) k None) (slots_of (pages_in v.pages) k)) (sym here)
          (subst (λ (o : Option Session). IsQuota o (get_or (set v.slots.quotas s None) s None) (slots_of (pages_in v.pages) s))
          (sym (get_sessions (without_seat s v.seats) s ∙ ap (λ (o : Option Seat). elim o [ None ↦ None | Some z ↦ Some (session_in z) ]) (closed_seat v.seats s)))
          (subst (λ (r : Option Quota). IsQuota None r (slots_of (pages_in v.pages) s)) (sym (get_or-set_same v.slots.quotas s None None (omega (arith, size, low)))) tt))
      | inr other ↦
          subst (λ (o : Option Session). IsQuota o (get_or (set v.slots.quotas s None) q None) (slots_of (pages_in v.pages) q))
          (sym (get_sessions (without_seat s v.seats) q ∙ ap (λ (o : Option Seat). elim o [ None ↦ None | Some z ↦ Some (session_in z) ]) (closed_other v.seats s q other) ∙ sym (get_sessions v.seats q)))
          (subst (λ (r : Option Quota). IsQuota (get (sessions_in v.seats) q) r (slots_of (pages_in v.pages) q)) (sym (get_or-set_other v.slots.quotas s q None None other)) (is_kept.counted.quotas q))
    ]

    sessions : sessions_in (without_seat s v.seats) ≡ without_tracker s x.query (sessions_in v.seats)
    sessions =
        sessions_closed v.seats s
        ∙ sym (ap (λ (o : Option Session). elim o [ None ↦ sessions_in v.seats | Some z ↦ if z.query == x.query then remove (sessions_in v.seats) s else insert (sessions_in v.seats) s (record z { failures = remove z.failures x.query }) ])
        (session_here v.seats s x is)
        ∙ ap (λ (b : Bool). if b then remove (sessions_in v.seats) s else insert (sessions_in v.seats) s (record (session_in x) { failures = remove (session_in x).failures x.query })) (eq-eqb x.query x.query refl))

    dirty : dirty_in v.pages v.lists ≡ remove (dirty_in v.pages v.lists) x.query
    dirty = sym (none_removed (dirty_in v.pages v.lists) x.query
        (get_dirty v.pages v.lists x.query ∙ ap (λ (b : Bool). cond b (Some (names_of v.pages (nodes_of x.query which.Dirty v.lists))) None)
        (is_kept.seated.opens x.query ∙ query_closed)))

    abbrev event_made : Event
    event_made = record { maker = s; event = event.CloseTracker x.query }

    pub unseated_done : Done (record { maker = s; event = event.CloseTracker x.query } ∷ []) [] [] v (unseated s x.query v)
    unseated_done =
        rearranged_done (without x.query v.tree) v.lists.is_open (set v.slots.quotas s None) (v.slots.spare + free_of v.slots s) (without_seat s v.seats) v event_made is_kept (record {
          charges = charge_went v.tree x.query (idle_charge v is_kept x.query not_client);
          opened = page_opened v is_kept laws;
          lent = lent;
          seated = record {
            clients = at_closed v.seats s (λ z. (q : ℕ) → stands_in q (trackers_of z.members) ≡ hangs_under (remove ts x.query) z.query q) rest;
            opens = opens;
            few =
                let less = len_less ts x.query query.tracker query.lives in
                let count = count_closed v.seats s x is no_members in
                let few = is_kept.seated.few in
                omega (arith, less, count, few);
          };
          clients = refl;
          sessions = length-set v.slots.quotas s None;
          state = same_state (state_of (unseated s x.query v)) (after (state_of v) event_made) refl refl refl refl sessions refl refl dirty refl refl refl;
          may = λ h. record {
            makes = low;
            allows = record {
              own = inl (record { session = session_in x; lives = session_here v.seats s x is; is = refl });
              empty = empty;
              no_child = alone;
              no_page = λ p y there same. not_client (subst (IsClient ts) same ((sound_now (state_of v) is_kept.legal).owned.page_clients p y there));
              no_buffer = λ f y there same. not_client (subst (IsClient ts) same ((sound_now (state_of v) is_kept.legal).owned.buffer_clients f y there));
            };
          };
          leaves = λ q old. refl;
        })
