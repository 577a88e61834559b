-- A client of a session goes.
use Rattle.std.proofs.Common.{◌≡◌, ◌≢◌, ℕ, ◌<◌, ◌==◌, Bool, true, false, cond, if◌then◌else◌, [], ◌∷◌, length, set, get_or, Option, Some, None, refl, ap, sym, ◌∙◌, inl, inr, arith, ne_eqb}
use Rattle.std.specs.FinMap.{get, insert, remove}
use Rattle.std.proofs.lemmas.List.{length-set}
use Rattle.page_table.specs.declared.entry.Entry.{Entry}
use Rattle.index_list.specs.Listing.{stands_in, others}
use Rattle.index_list.proofs.Members.{others-not, stands_in-others}
use Rattle.client_lists.specs.declared.which.Which.TheVariants as which
use Rattle.client_lists.specs.Clients.{Clients, nodes_of, closed}
use Rattle.clean_evict.specs.Eviction.{names_of}
use Rattle.page_table.specs.Pages.{Pages as Table}
use Rattle.reservation_tree.specs.Tracker.{Tracker, Trackers, depth_of, reservation_of}
use Rattle.reservation_tree.specs.Tree.{without, charge_of as charge_in}
use Rattle.reservation_tree.proofs.Maps.{alike, is_there, removed_same, removed_other, same_or_other, len_less}
use Rattle.session_table.specs.Seats.{Seat, seat_of, trackers_of, changed, without_member}
use Rattle.session_table.specs.Sessions.{session_in, sessions_in, failures_in}
use Rattle.session_table.proofs.Trackers.{left_trackers}
use Rattle.session_table.proofs.Counts.{count_left}
use Rattle.session_table.proofs.Found.{sessions_left}
use Rattle.pool_model.specs.declared.event.Event.TheVariants as event
use Rattle.pool_model.specs.declared.entry.Entry.{Entry as Event}
use Rattle.pool_model.specs.State.{Session}
use Rattle.pool_model.specs.Sums.{slots_of, IsClient, charge_of, times_charged}
use Rattle.pool_model.specs.Owning.{IsClientOf}
use Rattle.pool_model.specs.Parts.{without_tracker}
use Rattle.pool_model.specs.Effects.{after}
use Rattle.pool_model.proofs.ByClients.{no_pages, no_buffers}
use Rattle.pool_model.proofs.Fits.{no_child}
use Rattle.pin_core.specs.declared.kept.Kept.{Kept}
use Rattle.pin_core.specs.declared.parts.Parts.{Parts}
use Rattle.pin_core.specs.StateOf.{page_of, pages_in, dirty_in, state_of}
use Rattle.pin_core.specs.Invariant.{IsKept, hangs_under, is_live_client}
use Rattle.pin_core.specs.Lawful.{Lawful}
use Rattle.pin_core.specs.calls.Sessions.{IsIdle}
use Rattle.pin_core.specs.parts.Rearranging.{parted}
use Rattle.pin_core.proofs.Entered.{Done}
use Rattle.pin_core.proofs.Effects.{same_state}
use Rattle.pin_core.proofs.Queued.{get_dirty}
use Rattle.pin_core.proofs.Moved.{page_known}
use Rattle.pin_core.proofs.Rearranged.{rearranged_done}
use Rattle.pin_core.proofs.SeatedClients.{sound_now, page_opened, hangs_is, hangs_none}
use Rattle.pin_core.proofs.Queries.{quotas_kept, at_changed, flag_same, flag_other, client_none, client_at, hangs_at, hangs_elsewhere, query_deep, queries_apart, charge_went, session_here, client_deep}

module _ {D : Type 0} where
  -- a client that is closed has no list of dirty pages
  pub dirty_went : (t : Table (Entry (Kept D))) (lists : Clients) (c : ℕ) → c < length lists.is_open → dirty_in t (closed c lists) ≡ remove (dirty_in t lists) c
  dirty_went t lists c within = alike _ _ (λ d. elim (same_or_other d c) [
    | inl here ↦
        ap (get (dirty_in t (closed c lists))) here ∙ get_dirty t (closed c lists) c
        ∙ ap (λ (b : Bool). cond b (Some (names_of t (nodes_of c which.Dirty lists))) None) (flag_same lists.is_open c false within)
        ∙ sym (removed_same (dirty_in t lists) c) ∙ ap (get (remove (dirty_in t lists) c)) (sym here)
    | inr other ↦
        get_dirty t (closed c lists) d
        ∙ ap (λ (b : Bool). cond b (Some (names_of t (nodes_of d which.Dirty lists))) None) (flag_other lists.is_open c d false other)
        ∙ sym (get_dirty t lists d) ∙ sym (removed_other (dirty_in t lists) c d other)
  ])

  module _ (v : Parts D) (is_kept : IsKept v) (laws : Lawful v) (s : ℕ) (x : Seat) (is : seat_of v.seats s ≡ Some x) (low : s < 240) (t : ℕ) (y : Tracker)
      (lives : get v.tree.trackers t ≡ Some y) (under : y.parent ≡ Some x.query) (empty : reservation_of v.tree.trackers t ≡ 0) (idle : IsIdle (state_of v) t) where
    abbrev ts : Trackers
    ts = v.tree.trackers

    client_of : IsClientOf (state_of v) s t
    client_of = record { session = session_in x; opened = session_here v.seats s x is; tracker = y; lives = lives; under = under }

    client : IsClient ts t
    client = client_deep v is_kept s t client_of

    within : t < length v.lists.is_open
    within = let size = is_kept.sized.clients in let below = laws.numbers t (is_there (get ts t) y lives) in omega (arith, size, below)

    no_charge : charge_in v.tree t ≡ 0
    no_charge =
        let tie : charge_in v.tree t ≡ charge_of (state_of v) t = is_kept.counted.charges t in
        let pages = no_pages times_charged (state_of v).block_len (state_of v).pages t idle.pages in
        let buffers = no_buffers (state_of v).block_len (state_of v).buffers t idle.buffers in
        omega (arith, tie, pages, buffers)

    -- it is the session's client
    pub was_there : stands_in t (trackers_of x.members) ≡ true
    was_there = is_kept.seated.clients s x is t ∙ hangs_is ts x.query t y lives under

    not_query : x.query ≢ t
    not_query same =
        let one = query_deep v is_kept s x is in
        let two = client.deep in
        let both = ap (λ (k : ℕ). depth_of ts k) same in
        omega (arith, one, two, both)

    own : (q : ℕ) → stands_in q (trackers_of (without_member t x).members) ≡ hangs_under (remove ts t) x.query q
    own q = elim (same_or_other q t) [
      | inl here ↦
          ap (stands_in q) (left_trackers x t) ∙ ap (λ (k : ℕ). stands_in k (others t (trackers_of x.members))) here ∙ others-not t (trackers_of x.members)
          ∙ sym (ap (hangs_under (remove ts t) x.query) here ∙ hangs_none (remove ts t) x.query t (removed_same ts t))
      | inr other ↦
          ap (stands_in q) (left_trackers x t) ∙ stands_in-others q t (trackers_of x.members) (λ same. other (sym same))
          ∙ is_kept.seated.clients s x is q ∙ sym (hangs_at (remove ts t) ts x.query q (removed_other ts t q other))
    ]

    rest : (m : ℕ) (z : Seat) → m ≢ s → seat_of v.seats m ≡ Some z → (q : ℕ) → stands_in q (trackers_of z.members) ≡ hangs_under (remove ts t) z.query q
    rest m z apart there q = elim (same_or_other q t) [
      | inl here ↦
          ap (λ (k : ℕ). stands_in k (trackers_of z.members)) here ∙ is_kept.seated.clients m z there t
          ∙ hangs_elsewhere ts z.query x.query t y lives under (queries_apart v is_kept s m x z is there apart)
          ∙ sym (ap (hangs_under (remove ts t) z.query) here ∙ hangs_none (remove ts t) z.query t (removed_same ts t))
      | inr other ↦ is_kept.seated.clients m z there q ∙ sym (hangs_at (remove ts t) ts z.query q (removed_other ts t q other))
    ]

    opens : (c : ℕ) → get_or (set v.lists.is_open t false) c false ≡ is_live_client (remove ts t) c
    opens c = elim (same_or_other c t) [
      | inl here ↦
          ap (λ (k : ℕ). get_or (set v.lists.is_open t false) k false) here ∙ flag_same v.lists.is_open t false within
          ∙ sym (ap (is_live_client (remove ts t)) here ∙ client_none (remove ts t) t (removed_same ts t))
      | inr other ↦ flag_other v.lists.is_open t c false other ∙ is_kept.seated.opens c ∙ sym (client_at (remove ts t) ts c (removed_other ts t c other))
    ]

    -- what the model keeps of the sessions
    sessions : sessions_in (changed s (without_member t) v.seats) ≡ without_tracker s t (sessions_in v.seats)
    sessions =
        sessions_left v.seats s t x is
        ∙ sym (ap (λ (o : Option Session). elim o [ None ↦ sessions_in v.seats | Some z ↦ if z.query == t then remove (sessions_in v.seats) s else insert (sessions_in v.seats) s (record z { failures = remove z.failures t }) ])
        (session_here v.seats s x is)
        ∙ ap (λ (b : Bool). if b then remove (sessions_in v.seats) s else insert (sessions_in v.seats) s (record (session_in x) { failures = remove (failures_in x.members) t })) (ne_eqb x.query t not_query))

    abbrev event_made : Event
    event_made = record { maker = s; event = event.CloseTracker t }

    pub parted_done : Done (record { maker = s; event = event.CloseTracker t } ∷ []) [] [] v (parted s t v)
    parted_done =
        rearranged_done (without t v.tree) (set v.lists.is_open t false) v.slots.quotas v.slots.spare (changed s (without_member t) v.seats) v event_made is_kept (record {
          charges = charge_went v.tree t no_charge;
          opened = λ p z there. flag_other v.lists.is_open t z.client false (idle.pages p (page_of v.pages p z) (page_known v p z there)) ∙ page_opened v is_kept laws p z there;
          lent = λ q. quotas_kept v.seats s (without_member t) (λ z. refl) q (get_or v.slots.quotas q None) (slots_of (pages_in v.pages) q) (is_kept.counted.quotas q);
          seated = record {
            clients = at_changed v.seats s (without_member t) x is (λ z. (q : ℕ) → stands_in q (trackers_of z.members) ≡ hangs_under (remove ts t) z.query q) own rest;
            opens = opens;
            few =
                let less = len_less ts t y lives in
                let count = count_left v.seats s x is t (laws.seats.each s x is).distinct was_there in
                let few = is_kept.seated.few in
                omega (arith, less, count, few);
          };
          clients = length-set v.lists.is_open t false;
          sessions = refl;
          state = same_state (state_of (parted s t v)) (after (state_of v) event_made) refl refl refl refl sessions refl refl (dirty_went v.pages v.lists t within) refl refl refl;
          may = λ h. record {
            makes = low;
            allows = record {
              own = inr client_of;
              empty = empty;
              no_child = no_child _ ts (sessions_in v.seats) (sound_now (state_of v) is_kept.legal).seated t client;
              no_page = idle.pages;
              no_buffer = idle.buffers;
            };
          };
          leaves = λ q old. refl;
        })
