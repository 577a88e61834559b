-- A session begins: what the call needs, and what it leaves.
use Rattle.std.proofs.Common.{◌≡◌, ◌↔◌, ◌⊎◌, ℕ, ◌<◌, ◌≤◌, [], ◌∷◌, Option, Some, None, IsSome, is_some, unwrap_or, option_map, refl, ap, sym, ◌∙◌, subst, inl, inr, arith}
use Rattle.std.specs.FinMap.{get}
use Rattle.std.proofs.lemmas.Bool.{false≢true}
use Rattle.outside.specs.declared.slot.Slot.{Ghosts}
use Rattle.reservation_tree.specs.declared.errors.PoolErr.{PoolErr}
use Rattle.reservation_tree.specs.Answer.{IsFrom}
use Rattle.reservation_tree.specs.Tracker.{Tracker, IsLive, HasNoChild, no_tracker, reservation_of}
use Rattle.reservation_tree.specs.Change.{Refusal, grow_refusal}
use Rattle.reservation_tree.specs.Tree.{charge_of as charge_in}
use Rattle.reservation_tree.proofs.Maps.{get_same, is_there}
use Rattle.reservation_tree.proofs.Members.{newly_alone}
use Rattle.scratch_dev.specs.Pool.{quota_of}
use Rattle.session_table.specs.Seats.{Seat, seat_of}
use Rattle.session_table.specs.Sessions.{session_in}
use Rattle.session_table.proofs.Changes.{opened_seat}
use Rattle.session_table.proofs.Found.{get_sessions}
use Rattle.pool_model.specs.State.{Session}
use Rattle.pool_model.specs.Sums.{slots_of}
use Rattle.pin_core.specs.declared.parts.Parts.{Parts}
use Rattle.pin_core.specs.StateOf.{pages_in, state_of}
use Rattle.pin_core.specs.Invariant.{IsKept}
use Rattle.pin_core.specs.Lawful.{Lawful}
use Rattle.pin_core.specs.parts.Rearranging.{seated, grown, unseated}
use Rattle.pin_core.specs.parts.Seating.{CanSeat, CanUnseat}
use Rattle.pin_core.specs.calls.Sessions.{IsFull, query_of}
use Rattle.pin_core.specs.calls.Entering.{session_entry, increase_entry, close_entry}
use Rattle.pin_core.specs.calls.Opening.{ClosedAgain, LacksLeast, least_refusal, opening_entries, reopening_entries, spare_of}
use Rattle.pin_core.proofs.Adding.{few_trackers}
use Rattle.pin_core.proofs.Came.{none_open, seated_done}
use Rattle.pin_core.proofs.Closing.{can_unseat}
use Rattle.pin_core.proofs.Ended.{unseated_done}
use Rattle.pin_core.proofs.Entered.{Done, done_then}
use Rattle.pin_core.proofs.Growths.{nothing}
use Rattle.pin_core.proofs.Least.{lacks, refusal_is}
use Rattle.pin_core.proofs.Queries.{session_here}
use Rattle.pin_core.proofs.Retracked.{grown_done}

module _ {D : Type 0} (v old : Parts D) (same : v ≡ old) where
  some_session : (o : Option Seat) → IsSome o → IsSome (option_map session_in o)
  some_session None some = some
  some_session (Some x) some = refl

  some_back : (o : Option Seat) → IsSome (option_map session_in o) → IsSome o
  some_back None some = some
  some_back (Some x) some = refl

  -- each number has a session
  pub full_now : ((s : ℕ) → s < 240 → IsSome (seat_of v.seats s)) → IsFull (state_of old)
  full_now all = subst (λ (z : Parts D). IsFull (state_of z)) same (λ s low. ap is_some (get_sessions v.seats s) ∙ some_session (seat_of v.seats s) (all s low))

  -- and not where one has none
  pub not_full : (s : ℕ) → s < 240 → seat_of v.seats s ≡ None → IsFull (state_of old) → ⊥
  not_full s low vacant full =
      let now : IsFull (state_of v) = subst (λ (z : Parts D). IsFull (state_of z)) (sym same) full in
      let some : IsSome (seat_of v.seats s) = some_back (seat_of v.seats s) (sym (ap is_some (get_sessions v.seats s)) ∙ now s low) in
      absurd (false≢true (ap is_some (sym vacant) ∙ some))

  pub vacant_session : (s : ℕ) → seat_of v.seats s ≡ None → get (state_of old).sessions s ≡ None
  vacant_session s vacant = ap (λ (z : Parts D). get (state_of z).sessions s) (sym same) ∙ get_sessions v.seats s ∙ ap (option_map session_in) vacant

  module _ (is_kept : IsKept v) (laws : Lawful v) (s : ℕ) (low : s < 240) (vacant : seat_of v.seats s ≡ None) (limit quota : ℕ) where
    pub can_seat : quota ≤ spare_of old → CanSeat v s quota
    can_seat enough = record {
      number = low;
      vacant = vacant;
      few = few_trackers v is_kept laws;
      quotas = let size = is_kept.sized.sessions in omega (arith, size, low);
      closed = none_open (get (state_of v).sessions s) (quota_of v.slots s) (slots_of (pages_in v.pages) s) (is_kept.counted.quotas s) (get_sessions v.seats s ∙ ap (option_map session_in) vacant);
      spare = subst (λ (z : Parts D). quota ≤ spare_of z) (sym same) enough;
    }

    module _ (t : ℕ) (fresh : get v.tree.trackers t ≡ None) (mid : Parts D) (mid_is : mid ≡ seated s limit quota t v) (mid_laws : Lawful mid) where
      abbrev seat : Seat
      seat = record { query = t; quota = quota; members = [] }

      first : Done (session_entry s limit quota t ∷ []) [] [] v mid
      first = subst (λ (z : Parts D). Done (session_entry s limit quota t ∷ []) [] [] v z) (sym mid_is) (seated_done v is_kept laws s low vacant limit quota t fresh)

      mid_there : seat_of mid.seats s ≡ Some seat
      mid_there = ap (λ (z : Parts D). seat_of z.seats s) mid_is ∙ opened_seat v.seats s t quota (let size = laws.seats.counted in omega (arith, size, low))

      tracker_there : (x : Tracker) × (get mid.tree.trackers t ≡ Some x) × (x.reservation ≡ 0)
      tracker_there = (_, ap (λ (z : Parts D). get z.tree.trackers t) mid_is ∙ get_same v.tree.trackers t _, refl)

      pub query_live : IsLive mid.tree.trackers t
      query_live = is_there (get mid.tree.trackers t) tracker_there.0 tracker_there.1

      empty : reservation_of mid.tree.trackers t ≡ 0
      empty = ap (λ (o : Option Tracker). (unwrap_or o no_tracker).reservation) tracker_there.1 ∙ tracker_there.2

      alone : HasNoChild mid.tree.trackers t
      alone = subst (λ (z : Parts D). HasNoChild z.tree.trackers t) (sym mid_is) (newly_alone v.tree.trackers laws.tree t 0 limit fresh laws.tree.root)

      why : (least : ℕ) → grow_refusal (charge_in mid.tree) least t mid.tree.trackers ≡ least_refusal (state_of old) t limit least
      why least =
          ap (λ (z : Parts D). grow_refusal (charge_in z.tree) least t z.tree.trackers) mid_is
          ∙ refusal_is v is_kept laws t limit fresh least
          ∙ ap (λ (z : Parts D). least_refusal (state_of z) t limit least) same

      -- it is refused where so much can't be reserved
      pub refused_when : (least : ℕ) (P : Type 0) → (P ↔ IsSome (grow_refusal (charge_in mid.tree) least t mid.tree.trackers)) → (P ↔ (IsFull (state_of old) ⊎ LacksLeast (state_of old) limit least))
      refused_when least P when =
          let tie = lacks (state_of old) t limit least in
          (λ p. inr (tie.0 (subst (λ (o : Option Refusal). IsSome o) (why least) (when.0 p))), λ one. back one)
        where
          back : IsFull (state_of old) ⊎ LacksLeast (state_of old) limit least → P
          back (inl full) = absurd (not_full s low vacant full)
          back (inr lack) = when.1 (subst (λ (o : Option Refusal). IsSome o) (sym (why least)) ((lacks (state_of old) t limit least).1 lack))

      -- nothing refused it
      module _ (least : ℕ) (fits : IsSome (grow_refusal (charge_in mid.tree) least t mid.tree.trackers) → ⊥) (new : Parts D) (is : new ≡ grown t least mid) where
        new_there : seat_of new.seats s ≡ Some seat
        new_there = ap (λ (z : Parts D). seat_of z.seats s) is ∙ mid_there

        named : t ≡ query_of (state_of new) s
        named = sym (ap (λ (o : Option Session). unwrap_or (option_map (λ x. x.query) o) 0) (session_here new.seats s seat new_there))

        pub opened : Done (opening_entries s (query_of (state_of new) s) limit quota least) [] [] old new
        opened =
            let second : Done (increase_entry s t least ∷ []) [] [] mid new =
            subst (λ (z : Parts D). Done (increase_entry s t least ∷ []) [] [] mid z) (sym is)
            (grown_done mid first.kept mid_laws s low t least (inl (record { session = session_in seat; lives = session_here mid.seats s seat mid_there; is = refl })) (nothing _ fits)) in
            subst (λ (z : Parts D). Done (opening_entries s (query_of (state_of new) s) limit quota least) [] [] z new) same
            (subst (λ (q : ℕ). Done (opening_entries s q limit quota least) [] [] v new) named
            (done_then (session_entry s limit quota t ∷ []) (increase_entry s t least ∷ []) [] [] v mid new first second))

      -- it was refused
      module _ (still : Parts D) (unchanged : still ≡ mid) where
        pub may_close : CanUnseat still s t
        may_close = subst (λ (z : Parts D). CanUnseat z s t) (sym unchanged) (can_unseat mid first.kept mid_laws s seat mid_there low alone empty)

        module _ (new : Parts D) (is : new ≡ unseated s t still) where
          closes : Done (reopening_entries s t limit quota) [] [] old new
          closes =
              let second : Done (close_entry s t ∷ []) [] [] mid new =
              subst (λ (z : Parts D). Done (close_entry s t ∷ []) [] [] mid z) (sym (is ∙ ap (unseated s t) unchanged)) (unseated_done mid first.kept mid_laws s seat mid_there low alone empty) in
              subst (λ (z : Parts D). Done (reopening_entries s t limit quota) [] [] z new) same
              (done_then (session_entry s limit quota t ∷ []) (close_entry s t ∷ []) [] [] v mid new first second)

          pub closed_kept : IsKept new
          closed_kept = closes.kept

          pub closed_again : (slot : Ghosts D) (least : ℕ) (e : PoolErr) → IsFrom (grow_refusal (charge_in mid.tree) least t mid.tree.trackers) e → ClosedAgain slot limit quota least old new e
          closed_again slot least e cause = record {
            maker = s;
            tracker = t;
            vacant = vacant_session s vacant;
            enters = closes.enters slot;
            cause = subst (λ (o : Option Refusal). IsFrom o e) (why least) cause;
          }
