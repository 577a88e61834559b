-- A client of a session comes.
use Rattle.std.proofs.Common.{◌≡◌, ◌≢◌, ℕ, ◌+◌, ◌<◌, Bool, true, false, cond, List, [], ◌∷◌, ◌++◌, length, set, get_or, Some, None, refl, ap, sym, ◌∙◌, inl, inr, arith, eq-eqb}
use Rattle.std.specs.FinMap.{get, insert}
use Rattle.std.proofs.lemmas.Bool.{false≢true}
use Rattle.std.proofs.lemmas.List.{length-set}
use Rattle.page_table.specs.declared.entry.Entry.{Entry}
use Rattle.index_list.specs.Listing.{stands_in}
use Rattle.index_list.proofs.Members.{stands_in-same, stands_in-last}
use Rattle.client_lists.specs.declared.which.Which.TheVariants as which
use Rattle.client_lists.specs.Clients.{Clients, IsOpen, nodes_of, opened}
use Rattle.clean_evict.specs.Eviction.{names_of}
use Rattle.page_table.specs.Pages.{Pages as Table}
use Rattle.reservation_tree.specs.Tracker.{Tracker, Trackers, depth_of}
use Rattle.reservation_tree.specs.Tree.{with_new}
use Rattle.reservation_tree.specs.Change.{with_child}
use Rattle.reservation_tree.proofs.Maps.{alike, get_same, get_other, same_or_other, len_more}
use Rattle.session_table.specs.Seats.{Seat, seat_of, trackers_of, changed, with_member}
use Rattle.session_table.specs.Sessions.{session_in}
use Rattle.session_table.proofs.Trackers.{joined_trackers}
use Rattle.session_table.proofs.Counts.{count_joined}
use Rattle.session_table.proofs.Found.{sessions_joined}
use Rattle.pool_model.specs.declared.event.Event.TheVariants as event
use Rattle.pool_model.specs.declared.entry.Entry.{Entry as Event}
use Rattle.pool_model.specs.Sums.{slots_of}
use Rattle.pool_model.specs.Effects.{after}
use Rattle.pin_core.specs.declared.kept.Kept.{Kept}
use Rattle.pin_core.specs.declared.parts.Parts.{Parts}
use Rattle.pin_core.specs.StateOf.{pages_in, dirty_in, state_of}
use Rattle.pin_core.specs.Invariant.{IsKept, hangs_under, is_live_client}
use Rattle.pin_core.specs.Lawful.{Lawful}
use Rattle.pin_core.specs.parts.Rearranging.{joined}
use Rattle.pin_core.proofs.Entered.{Done}
use Rattle.pin_core.proofs.Effects.{same_state}
use Rattle.pin_core.proofs.Queued.{get_dirty}
use Rattle.pin_core.proofs.Rearranged.{rearranged_done}
use Rattle.pin_core.proofs.SeatedClients.{page_opened, hangs_is, hangs_none}
use Rattle.pin_core.proofs.Queries.{quotas_kept, at_changed, flag_same, flag_other, client_is, client_none, client_at, hangs_at, hangs_elsewhere, query_deep, queries_apart, fresh_charge, charge_came, session_here}

module _ {D : Type 0} where
  -- a client that is opened has no dirty page
  pub dirty_came : (t : Table (Entry (Kept D))) (lists : Clients) (c : ℕ) → c < length lists.is_open → nodes_of c which.Dirty lists ≡ [] → dirty_in t (opened c lists) ≡ insert (dirty_in t lists) c []
  dirty_came t lists c within bare = alike _ _ (λ d. elim (same_or_other d c) [
    | inl here ↦
        ap (get (dirty_in t (opened c lists))) here ∙ get_dirty t (opened c lists) c
        ∙ ap (λ (b : Bool). cond b (Some (names_of t (nodes_of c which.Dirty lists))) None) (flag_same lists.is_open c true within)
        ∙ ap (λ (xs : List ℕ). Some (names_of t xs)) bare
        ∙ sym (get_same (dirty_in t lists) c []) ∙ ap (get (insert (dirty_in t lists) c [])) (sym here)
    | inr other ↦
        get_dirty t (opened c lists) d
        ∙ ap (λ (b : Bool). cond b (Some (names_of t (nodes_of d which.Dirty lists))) None) (flag_other lists.is_open c d true other)
        ∙ sym (get_dirty t lists d) ∙ sym (get_other (dirty_in t lists) c [] d other)
  ])

  module _ (v : Parts D) (is_kept : IsKept v) (laws : Lawful v) (s : ℕ) (x : Seat) (is : seat_of v.seats s ≡ Some x) (low : s < 240) (t limit : ℕ)
      (fresh : get v.tree.trackers t ≡ None) (below : t < 4096) where
    abbrev ts : Trackers
    ts = v.tree.trackers

    abbrev one : Tracker
    one = record { parent = Some x.query; depth = depth_of v.tree.trackers x.query + 1; limit = limit; reservation = 0 }

    came : get (with_child t x.query limit ts) t ≡ Some one
    came = get_same ts t one

    within : t < length v.lists.is_open
    within = let size = is_kept.sized.clients in omega (arith, size, below)

    was_closed : get_or v.lists.is_open t false ≡ false
    was_closed = is_kept.seated.opens t ∙ client_none ts t fresh

    -- it was no session's client
    was_away : (m : ℕ) (y : Seat) → seat_of v.seats m ≡ Some y → stands_in t (trackers_of y.members) ≡ false
    was_away m y there = is_kept.seated.clients m y there t ∙ hangs_none ts y.query t fresh

    own : (q : ℕ) → stands_in q (trackers_of (with_member t x).members) ≡ hangs_under (with_child t x.query limit ts) x.query q
    own q = elim (same_or_other q t) [
      | inl here ↦
          ap (stands_in q) (joined_trackers x t) ∙ ap (λ (k : ℕ). stands_in k (trackers_of x.members ++ t ∷ [])) here ∙ stands_in-last t (trackers_of x.members)
          ∙ sym (ap (hangs_under (with_child t x.query limit ts) x.query) here ∙ hangs_is (with_child t x.query limit ts) x.query t one came refl)
      | inr other ↦
          ap (stands_in q) (joined_trackers x t) ∙ stands_in-same q t (trackers_of x.members) (λ same. other (sym same))
          ∙ is_kept.seated.clients s x is q ∙ sym (hangs_at (with_child t x.query limit ts) ts x.query q (get_other ts t one q other))
    ]

    rest : (m : ℕ) (y : Seat) → m ≢ s → seat_of v.seats m ≡ Some y → (q : ℕ) → stands_in q (trackers_of y.members) ≡ hangs_under (with_child t x.query limit ts) y.query q
    rest m y apart there q = elim (same_or_other q t) [
      | inl here ↦
          ap (λ (k : ℕ). stands_in k (trackers_of y.members)) here ∙ was_away m y there
          ∙ sym (ap (hangs_under (with_child t x.query limit ts) y.query) here
          ∙ hangs_elsewhere (with_child t x.query limit ts) y.query x.query t one came refl (queries_apart v is_kept s m x y is there apart))
      | inr other ↦ is_kept.seated.clients m y there q ∙ sym (hangs_at (with_child t x.query limit ts) ts y.query q (get_other ts t one q other))
    ]

    opens : (c : ℕ) → get_or (set v.lists.is_open t true) c false ≡ is_live_client (with_child t x.query limit ts) c
    opens c = elim (same_or_other c t) [
      | inl here ↦
          ap (λ (k : ℕ). get_or (set v.lists.is_open t true) k false) here ∙ flag_same v.lists.is_open t true within
          ∙ sym (ap (is_live_client (with_child t x.query limit ts)) here ∙ client_is (with_child t x.query limit ts) t one came
          ∙ eq-eqb (depth_of ts x.query + 1) 2 (ap (λ (n : ℕ). n + 1) (query_deep v is_kept s x is)))
      | inr other ↦ flag_other v.lists.is_open t c true other ∙ is_kept.seated.opens c ∙ sym (client_at (with_child t x.query limit ts) ts c (get_other ts t one c other))
    ]

    abbrev event_made : Event
    event_made = record { maker = s; event = event.AddTracker t x.query limit None }

    state : state_of (joined s x.query limit t v) ≡ after (state_of v) event_made
    state = same_state (state_of (joined s x.query limit t v)) (after (state_of v) event_made) refl refl refl refl (sessions_joined v.seats s t) refl refl
        (dirty_came v.pages v.lists t within (laws.whole.bare t which.Dirty was_closed)) refl refl refl

    pub joined_done : Done (record { maker = s; event = event.AddTracker t x.query limit None } ∷ []) [] [] v (joined s x.query limit t v)
    joined_done =
        rearranged_done (with_new t x.query limit v.tree) (set v.lists.is_open t true) v.slots.quotas v.slots.spare (changed s (with_member t) v.seats) v event_made is_kept (record {
          charges = charge_came v.tree t (fresh_charge v is_kept t fresh);
          opened = λ p y there.
              let open_now : IsOpen y.client v.lists = page_opened v is_kept laws p y there in
              flag_other v.lists.is_open t y.client true (λ same. false≢true (sym was_closed ∙ ap (λ (k : ℕ). get_or v.lists.is_open k false) (sym same) ∙ open_now)) ∙ open_now;
          lent = λ q. quotas_kept v.seats s (with_member t) (λ y. refl) q (get_or v.slots.quotas q None) (slots_of (pages_in v.pages) q) (is_kept.counted.quotas q);
          seated = record {
            clients = at_changed v.seats s (with_member t) x is (λ y. (q : ℕ) → stands_in q (trackers_of y.members) ≡ hangs_under (with_child t x.query limit ts) y.query q) own rest;
            opens = opens;
            few =
                let more = len_more ts t one fresh in
                let count = count_joined v.seats s x is t in
                let few = is_kept.seated.few in
                omega (arith, more, count, few);
          };
          clients = length-set v.lists.is_open t true;
          sessions = refl;
          state = state;
          may = λ h. record { makes = low; allows = record { fresh = fresh; session = session_in x; opened = session_here v.seats s x is; query = refl } };
          leaves = λ q old. refl;
        })
