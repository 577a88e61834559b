-- A failure on a page is noted for its session.
use Rattle.std.proofs.Common.{◌≡◌, ℕ, ◌+◌, ◌==◌, true, false, Option, Some, None, IsSome, refl, ap, sym, ◌∙◌, subst, inl, inr, eq-eqb}
use Rattle.std.specs.FinMap.{FinMap, get, insert, len}
use Rattle.std.specs.Ordering.{nat_cmp}
use Rattle.index_list.specs.Listing.{stands_in}
use Rattle.page_table.specs.declared.entry.Entry.{Entry}
use Rattle.scratch_dev.specs.declared.quota.Quota.{Quota}
use Rattle.reservation_tree.specs.Tracker.{Tracker}
use Rattle.reservation_tree.proofs.Maps.{get_same, get_other, same_or_other, is_there}
use Rattle.session_table.specs.Seats.{Seat, Seats, seat_of, trackers_of, tracker_count, changed, noted}
use Rattle.session_table.specs.Sessions.{sessions_in}
use Rattle.session_table.proofs.Changes.{changed_seat, changed_other}
use Rattle.session_table.proofs.Counts.{count_noted}
use Rattle.session_table.proofs.Found.{sessions_noted}
use Rattle.session_table.proofs.Trackers.{noted_trackers}
use Rattle.pool_model.specs.Owning.{IsClientOf}
use Rattle.pool_model.specs.Parts.{with_failures, keep_first}
use Rattle.pool_model.specs.State.{Session, Sessions}
use Rattle.pool_model.proofs.Seats.{some_is}
use Rattle.pin_core.specs.declared.kept.Kept.{Kept}
use Rattle.pin_core.specs.declared.parts.Parts.{Parts}
use Rattle.pin_core.specs.StateOf.{page_of, state_of}
use Rattle.pin_core.specs.Invariant.{IsKept, IsQuota, hangs_under}
use Rattle.pin_core.specs.Lawful.{Lawful}
use Rattle.pin_core.proofs.Moved.{page_known}
use Rattle.pin_core.proofs.Places.{page_owned}
use Rattle.pin_core.proofs.Seated.{HasSeat, has_seat}

same_quota : (x y : Session) (r : Option Quota) (n : ℕ) → y.quota ≡ x.quota → IsQuota (Some x) r n → IsQuota (Some y) r n
same_quota x y None n is held = held
same_quota x y (Some quota) n is held = (held.0, held.1 ∙ sym is)

-- a session's quota stays where its failures change
noted_quota : (change : FinMap nat_cmp ℕ → FinMap nat_cmp ℕ) (m : ℕ) (sessions : Sessions) (q : ℕ) (r : Option Quota) (n : ℕ) → IsQuota (get sessions q) r n → IsQuota (get (with_failures change m sessions) q) r n
noted_quota change m sessions q r n is =
    elim (get sessions m) as (λ o. get sessions m ≡ o → IsQuota (get (elim o [ None ↦ sessions | Some x ↦ insert sessions m (record x { failures = change x.failures }) ]) q) r n) [
      | None ↦ λ none. is
      | Some x ↦ λ there. elim (same_or_other q m) [
        | inr other ↦ subst (λ o. IsQuota o r n) (sym (get_other sessions m (record x { failures = change x.failures }) q other)) is
        | inl same ↦ subst (λ o. IsQuota o r n) (sym (ap (get (insert sessions m (record x { failures = change x.failures }))) same ∙ get_same sessions m (record x { failures = change x.failures })))
            (same_quota x (record x { failures = change x.failures }) r n refl (subst (λ o. IsQuota o r n) (ap (get sessions) same ∙ there) is))
      ]
    ] refl

hangs : (o : Option Tracker) (x : Tracker) (parent : ℕ) → o ≡ Some x → x.parent ≡ Some parent
    → elim o [ None ↦ false | Some y ↦ elim y.parent [ None ↦ false | Some p ↦ p == parent ] ] ≡ true
hangs o x parent is under =
    ap (λ (q : Option Tracker). elim q [ None ↦ false | Some y ↦ elim y.parent [ None ↦ false | Some p ↦ p == parent ] ]) is
    ∙ ap (λ (q : Option ℕ). elim q [ None ↦ false | Some p ↦ p == parent ]) under ∙ eq-eqb parent parent refl

module _ {D : Type 0} (v : Parts D) (is_kept : IsKept v) (laws : Lawful v) (p : ℕ) (x : Entry (Kept D)) (there : get v.pages.entries p ≡ Some x) where
  owned : IsClientOf (state_of v) x.session x.client
  owned = page_owned (state_of v) is_kept.legal p (page_of v.pages p x) (page_known v p x there)

  seat : HasSeat v.seats x.session owned.session
  seat = has_seat v.seats x.session owned.session owned.opened

  pub page_seat : IsSome (seat_of v.seats x.session)
  page_seat = is_there (seat_of v.seats x.session) seat.seat seat.there

  member : stands_in x.client (trackers_of seat.seat.members) ≡ true
  member = is_kept.seated.clients x.session seat.seat seat.there x.client
      ∙ hangs (get v.tree.trackers x.client) owned.tracker seat.seat.query owned.lives (owned.under ∙ ap (λ (y : Session). Some y.query) (sym seat.is))

  module _ (n : ℕ) where
    abbrev then : Seats
    then = changed x.session (noted x.client n) v.seats

    pub noted_sessions : sessions_in then ≡ with_failures (keep_first x.client n) x.session (sessions_in v.seats)
    noted_sessions = sessions_noted v.seats x.session x.client n seat.seat seat.there (laws.seats.each x.session seat.seat seat.there).distinct member

    pub noted_quotas : (q : ℕ) (r : Option Quota) (lent : ℕ) → IsQuota (get (sessions_in v.seats) q) r lent → IsQuota (get (sessions_in then) q) r lent
    noted_quotas q r lent is =
        subst (λ (sessions : Sessions). IsQuota (get sessions q) r lent) (sym noted_sessions) (noted_quota (keep_first x.client n) x.session (sessions_in v.seats) q r lent is)

    pub noted_clients : (s : ℕ) (y : Seat) → seat_of then s ≡ Some y → (t : ℕ) → stands_in t (trackers_of y.members) ≡ hangs_under v.tree.trackers y.query t
    noted_clients s y is t = elim (same_or_other s x.session) [
      | inl same ↦
          let here : seat_of then x.session ≡ Some (noted x.client n seat.seat) = changed_seat v.seats x.session (noted x.client n) seat.seat seat.there in
          let one : noted x.client n seat.seat ≡ y = some_is _ _ (sym here ∙ ap (seat_of then) (sym same) ∙ is) in
          subst (λ (z : Seat). stands_in t (trackers_of z.members) ≡ hangs_under v.tree.trackers z.query t) one
          (ap (stands_in t) (noted_trackers seat.seat x.client n) ∙ is_kept.seated.clients x.session seat.seat seat.there t)
      | inr other ↦ is_kept.seated.clients s y (sym (changed_other v.seats x.session (noted x.client n) s other) ∙ is) t
    ]

    pub noted_few : len v.tree.trackers ≡ 1 + tracker_count then
    noted_few = is_kept.seated.few ∙ ap (λ (k : ℕ). 1 + k) (sym (count_noted v.seats x.session seat.seat seat.there x.client n))
