-- A session ends: its query's reservation falls to nothing, and then it goes.
use Rattle.std.proofs.Common.{◌≡◌, ◌≢◌, ℕ, suc, ◌+◌, ◌-◌, ◌<◌, ◌≤◌, [], ◌∷◌, Option, Some, None, IsSome, unwrap_or, option_map, refl, ap, sym, ◌∙◌, subst, inl, arith}
use Rattle.std.specs.FinMap.{get}
use Rattle.reservation_tree.specs.Tracker.{Tracker, Trackers, IsLive, HasNoChild, depth_of, reservation_of, children_of, unused}
use Rattle.reservation_tree.specs.Change.{shrink, fallen, lower}
use Rattle.reservation_tree.specs.Tree.{charge_of as charge_in}
use Rattle.reservation_tree.proofs.Maps.{is_there}
use Rattle.reservation_tree.proofs.Outline.{SameOutline, in_old, set_here, set_there, parent_is, reservation_is}
use Rattle.reservation_tree.proofs.Shares.{children-none}
use Rattle.scratch_dev.specs.declared.quota.Quota.{Quota}
use Rattle.scratch_dev.specs.Pool.{quota_of, free_of, lent_of, lent_in, free_in}
use Rattle.session_table.specs.Seats.{Seat, seat_of}
use Rattle.session_table.specs.Sessions.{session_in}
use Rattle.session_table.proofs.Changes.{members_are}
use Rattle.pool_model.specs.State.{Session}
use Rattle.pool_model.specs.Sums.{slots_of}
use Rattle.pool_model.specs.Sound.{IsQuery}
use Rattle.pool_model.specs.TrackerRows.{CanLose}
use Rattle.pool_model.proofs.Outlines.{shrink_outline}
use Rattle.pool_model.proofs.Seats.{some_is}
use Rattle.pin_core.specs.declared.parts.Parts.{Parts}
use Rattle.pin_core.specs.StateOf.{pages_in, state_of}
use Rattle.pin_core.specs.Invariant.{IsKept, IsQuota}
use Rattle.pin_core.specs.Lawful.{Lawful}
use Rattle.pin_core.specs.parts.Rearranging.{shrunk, unseated}
use Rattle.pin_core.specs.parts.Seating.{CanUnseat}
use Rattle.pin_core.specs.calls.Sessions.{IsSeat, query_of, quota_in}
use Rattle.pin_core.specs.calls.Entering.{decrease_entry, close_entry}
use Rattle.pin_core.specs.calls.Opening.{ending_entries, spare_of}
use Rattle.pin_core.proofs.Adding.{Sits, sits}
use Rattle.pin_core.proofs.Bare.{query_is}
use Rattle.pin_core.proofs.Ended.{not_client, no_members, none_lent, unseated_done}
use Rattle.pin_core.proofs.Entered.{Done, done_then}
use Rattle.pin_core.proofs.Queries.{query_at, query_deep, query_below, idle_charge, session_here}
use Rattle.pin_core.proofs.Retracked.{shrunk_done}
use Rattle.pin_core.proofs.SeatedClients.{sound_now}

-- a tracker right under the root falls, and the root with it
shrunk_there : (ts : Trackers) (t bytes : ℕ) (x : Tracker) → get ts t ≡ Some x → depth_of ts t ≡ 1 → x.parent ≡ Some 0 → t ≢ 0 → get (shrink bytes t ts) t ≡ Some (record x { reservation = reservation_of ts t - bytes })
unfolding shrink
shrunk_there ts t bytes x is deep under low =
    ap (λ (n : ℕ). get (fallen (suc n) bytes t ts) t) deep
    ∙ ap (λ (p : ℕ). get (lower bytes p (lower bytes t ts)) t) (parent_is ts t x 0 is under)
    ∙ set_there (lower bytes t ts) 0 (reservation_of (lower bytes t ts) 0 - bytes) t low
    ∙ set_here ts t (reservation_of ts t - bytes) x is

-- who had no child has none
alone_still : (old new : Trackers) → SameOutline old new → (t : ℕ) → HasNoChild old t → HasNoChild new t
alone_still old new same t alone child y is under =
    let was = in_old old new same child y is in
    alone child was.0 was.1 (ap (λ (x : Tracker). x.parent) was.2 ∙ under)

-- the numbers of a quota whose slots are all home
home_quota : (o : Option Session) (x : Session) (q : Option Quota) (lent : ℕ) → o ≡ Some x → IsQuota o q lent → lent ≡ 0 → IsSome q × (lent_in q ≡ 0) × (free_in q ≡ x.quota)
home_quota (Some y) x (Some quota) lent is tied none =
    let same : y.quota ≡ x.quota = ap (λ (r : Option Session). unwrap_or (option_map (λ z. z.quota) r) 0) is in
    (refl, tied.0 ∙ none, omega (arith, tied.1, none, same))
home_quota (Some y) x None lent is tied none = absurd tied
home_quota None x q lent is tied none = cc

module _ {D : Type 0} where
  module _ (v : Parts D) (is_kept : IsKept v) (laws : Lawful v) (s : ℕ) (x : Seat) (is : seat_of v.seats s ≡ Some x) (low : s < 240) (alone : HasNoChild v.tree.trackers x.query) where
    query : IsQuery v.tree.trackers x.query
    query = query_at v is_kept s x is

    quota : IsSome (quota_of v.slots s) × (lent_of v.slots s ≡ 0) × (free_of v.slots s ≡ x.quota)
    quota = home_quota (get (state_of v).sessions s) (session_in x) (quota_of v.slots s) (slots_of (pages_in v.pages) s) (session_here v.seats s x is) (is_kept.counted.quotas s) (none_lent v is_kept laws s x is low alone)

    pub can_unseat : reservation_of v.tree.trackers x.query ≡ 0 → CanUnseat v s x.query
    can_unseat empty = record {
      bare = record { live = is_there (get v.tree.trackers x.query) query.tracker query.lives; low = query_below v is_kept s x is; empty = empty; no_child = alone };
      seated = is_there (seat_of v.seats s) x is;
      members = members_are v.seats s x is ∙ no_members v is_kept laws s x is low alone;
      quotas = let size = is_kept.sized.sessions in omega (arith, size, low);
      opened = quota.0;
      home = quota.1;
    }

    -- the slots of its quota are spare again
    pub spare_again : spare_of (unseated s x.query v) ≡ spare_of v + x.quota
    spare_again = ap (λ (n : ℕ). v.slots.spare + n) quota.2

    no_charge : charge_in v.tree x.query ≡ 0
    no_charge = idle_charge v is_kept x.query (not_client v is_kept laws s x is low alone)

    no_children : children_of v.tree.trackers x.query ≡ 0
    no_children = children-none v.tree.trackers x.query alone

    pub falls_unused : reservation_of v.tree.trackers x.query ≤ unused (charge_in v.tree) v.tree.trackers x.query
    falls_unused = let a = no_charge in let b = no_children in omega (arith, a, b)

    pub falls_live : IsLive v.tree.trackers x.query
    falls_live = is_there (get v.tree.trackers x.query) query.tracker query.lives

    can_lose : CanLose (state_of v) x.query (reservation_of v.tree.trackers x.query)
    can_lose = record {
      unused = let a = no_charge in let b = no_children in let tie = is_kept.counted.charges x.query in omega (arith, a, b, tie);
      held = λ client. absurd (not_client v is_kept laws s x is low alone client);
    }

    pub fall_done : Done (decrease_entry s x.query (reservation_of v.tree.trackers x.query) ∷ []) [] [] v (shrunk x.query (reservation_of v.tree.trackers x.query) v)
    fall_done = shrunk_done v is_kept laws s low x.query (reservation_of v.tree.trackers x.query) (inl (record { session = session_in x; lives = session_here v.seats s x is; is = refl })) can_lose

    pub fallen_alone : HasNoChild (shrink (reservation_of v.tree.trackers x.query) x.query v.tree.trackers) x.query
    fallen_alone = alone_still v.tree.trackers _ (shrink_outline (state_of v) (sound_now (state_of v) is_kept.legal) x.query (reservation_of v.tree.trackers x.query) falls_live can_lose.unused) x.query alone

    pub fallen_empty : reservation_of (shrink (reservation_of v.tree.trackers x.query) x.query v.tree.trackers) x.query ≡ 0
    fallen_empty =
        reservation_is (shrink (reservation_of v.tree.trackers x.query) x.query v.tree.trackers) x.query _
        (shrunk_there v.tree.trackers x.query (reservation_of v.tree.trackers x.query) query.tracker query.lives (query_deep v is_kept s x is) query.under (query_below v is_kept s x is))
        ∙ omega arith

  -- the call, where its numbers are known by equations
  module _ (v old : Parts D) (same : v ≡ old) (is_kept : IsKept v) (laws : Lawful v) (s : ℕ) (live : IsSeat (state_of old) s)
      (no_client : HasNoChild old.tree.trackers (query_of (state_of old) s)) where
    seat : Sits v s
    seat = sits v old same laws s live

    named : query_of (state_of old) s ≡ seat.seat.query
    named = ap (λ (z : Parts D). query_of (state_of z) s) (sym same) ∙ query_is v is_kept laws s seat.seat seat.there

    alone : HasNoChild v.tree.trackers seat.seat.query
    alone = subst (HasNoChild v.tree.trackers) named (subst (λ (z : Parts D). HasNoChild z.tree.trackers (query_of (state_of old) s)) (sym same) no_client)

    pub seat_lives : IsSome (seat_of v.seats s)
    seat_lives = is_there (seat_of v.seats s) seat.seat seat.there

    module _ (found_query q : ℕ) (found_is : option_map (λ x. x.query) (seat_of v.seats s) ≡ Some found_query) (query_named : q ≡ found_query) where
      query_same : seat.seat.query ≡ q
      query_same = some_is seat.seat.query found_query (sym (ap (λ (o : Option Seat). option_map (λ x. x.query) o) seat.there) ∙ found_is) ∙ sym query_named

      pub query_lives : IsLive v.tree.trackers q
      query_lives = subst (IsLive v.tree.trackers) query_same (falls_live v is_kept laws s seat.seat seat.there seat.low alone)

      module _ (bytes : ℕ) (bytes_are : bytes ≡ reservation_of v.tree.trackers q) where
        pub enough : bytes ≤ unused (charge_in v.tree) v.tree.trackers q
        enough =
            subst (λ (k : ℕ). k ≤ unused (charge_in v.tree) v.tree.trackers q) (sym bytes_are)
            (subst (λ (k : ℕ). reservation_of v.tree.trackers k ≤ unused (charge_in v.tree) v.tree.trackers k) query_same (falls_unused v is_kept laws s seat.seat seat.there seat.low alone))

        module _ (mid : Parts D) (mid_is : mid ≡ shrunk q bytes v) (mid_laws : Lawful mid) where
          fallen_is : shrunk seat.seat.query (reservation_of v.tree.trackers seat.seat.query) v ≡ mid
          fallen_is = ap (λ (k : ℕ). shrunk k (reservation_of v.tree.trackers k) v) query_same ∙ ap (λ (k : ℕ). shrunk q k v) (sym bytes_are) ∙ sym mid_is

          first : Done (decrease_entry s seat.seat.query (reservation_of v.tree.trackers seat.seat.query) ∷ []) [] [] v mid
          first = subst (λ (z : Parts D). Done (decrease_entry s seat.seat.query (reservation_of v.tree.trackers seat.seat.query) ∷ []) [] [] v z) fallen_is (fall_done v is_kept laws s seat.seat seat.there seat.low alone)

          mid_there : seat_of mid.seats s ≡ Some seat.seat
          mid_there = ap (λ (z : Parts D). seat_of z.seats s) (sym fallen_is) ∙ seat.there

          mid_alone : HasNoChild mid.tree.trackers seat.seat.query
          mid_alone = subst (λ (z : Parts D). HasNoChild z.tree.trackers seat.seat.query) fallen_is (fallen_alone v is_kept laws s seat.seat seat.there seat.low alone)

          mid_empty : reservation_of mid.tree.trackers seat.seat.query ≡ 0
          mid_empty = subst (λ (z : Parts D). reservation_of z.tree.trackers seat.seat.query ≡ 0) fallen_is (fallen_empty v is_kept laws s seat.seat seat.there seat.low alone)

          pub may_end : CanUnseat mid s q
          may_end = subst (CanUnseat mid s) query_same (can_unseat mid first.kept mid_laws s seat.seat mid_there seat.low mid_alone mid_empty)

          module _ (new : Parts D) (is : new ≡ unseated s q mid) where
            made : unseated s seat.seat.query mid ≡ new
            made = ap (λ (k : ℕ). unseated s k mid) query_same ∙ sym is

            pub ended : Done (ending_entries (state_of old) s) [] [] old new
            ended =
                let last : Done (close_entry s seat.seat.query ∷ []) [] [] mid new =
                subst (λ (z : Parts D). Done (close_entry s seat.seat.query ∷ []) [] [] mid z) made (unseated_done mid first.kept mid_laws s seat.seat mid_there seat.low mid_alone mid_empty) in
                let whole : Done (decrease_entry s seat.seat.query (reservation_of v.tree.trackers seat.seat.query) ∷ close_entry s seat.seat.query ∷ []) [] [] v new =
                done_then (decrease_entry s seat.seat.query (reservation_of v.tree.trackers seat.seat.query) ∷ []) (close_entry s seat.seat.query ∷ []) [] [] v mid new first last in
                subst (λ (z : Parts D). Done (ending_entries (state_of z) s) [] [] z new) same
                (subst (λ (k : ℕ). Done (decrease_entry s k (reservation_of v.tree.trackers k) ∷ close_entry s k ∷ []) [] [] v new) (sym (query_is v is_kept laws s seat.seat seat.there)) whole)

            pub spare_then : spare_of new ≡ spare_of old + quota_in (state_of old) s
            spare_then =
                let own : quota_in (state_of v) s ≡ seat.seat.quota = ap (λ (o : Option Session). unwrap_or (option_map (λ x. x.quota) o) 0) (session_here v.seats s seat.seat seat.there) in
                ap (λ (z : Parts D). spare_of z) (sym made)
                ∙ spare_again mid first.kept mid_laws s seat.seat mid_there seat.low mid_alone
                ∙ ap (λ (z : Parts D). spare_of z + seat.seat.quota) (sym fallen_is)
                ∙ ap (λ (n : ℕ). spare_of v + n) (sym own)
                ∙ ap (λ (z : Parts D). spare_of z + quota_in (state_of z) s) same
