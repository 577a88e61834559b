-- Clients stay their sessions' clients, and pages stay their clients'.
use Rattle.std.proofs.Common.{◌≡◌, ◌≢◌, ℕ, ◌==◌, true, false, if◌then◌else◌, List, Some, None, refl, ap, sym, ◌∙◌, inl, inr, eqb-true}
use borrow.Author.Tests.{eqb-false}
use Rattle.std.specs.Ordering.{nat_cmp}
use Rattle.std.specs.FinMap.{FinMap, get, insert, remove, empty}
use Rattle.reservation_tree.specs.Tracker.{Tracker, Trackers}
use Rattle.reservation_tree.specs.Change.{lacking, with_child}
use Rattle.reservation_tree.proofs.Maps.{get_same, get_other, removed_other, same_or_other, is_there}
use Rattle.reservation_tree.proofs.Outline.{SameOutline, in_new, bare}
use Rattle.reservation_tree.proofs.Members.{live_apart}
use Rattle.pool_model.specs.declared.event.Event.{Event}
use Rattle.pool_model.specs.declared.event.Event.TheVariants.{Ask, AddTracker, CloseTracker, Increase, IncreaseToFit, Decrease, MoveReservation, ReadFailed, WriteFailed}
use Rattle.pool_model.specs.declared.entry.Entry.{Entry}
use Rattle.pool_model.specs.State.{Session, Sessions, State, page_at}
use Rattle.pool_model.specs.Sums.{charge_of}
use Rattle.pool_model.specs.Owning.{IsClientOf}
use Rattle.pool_model.specs.Failures.{closes}
use Rattle.pool_model.specs.MayFollow.{Allows}
use Rattle.pool_model.specs.Parts.{with_failures, without_tracker, keep_first}
use Rattle.pool_model.specs.Effects.{effect}
use Rattle.pool_model.specs.Sound.{IsSound}
use Rattle.pool_model.proofs.Seats.{some_is}
use Rattle.pool_model.proofs.Outlines.{grow_outline, shrink_outline, move_outline}
use Rattle.pool_model.proofs.Kept.{own_live}

-- a session that is still live, with the same query tracker
pub record StillOpen (new : Sessions) (m : ℕ) (x : Session) : Type 0 where
  pub session : Session
  pub lives : get new m ≡ Some session
  pub same : session.query ≡ x.query

pub same_session : (sessions : Sessions) (m : ℕ) (x : Session) → get sessions m ≡ Some x → StillOpen sessions m x
same_session sessions m x is = record { session = x; lives = is; same = refl }

replaced : (old : Sessions) (maker : ℕ) (z new : Session) → get old maker ≡ Some z → new.query ≡ z.query → (m : ℕ) (x : Session) → get old m ≡ Some x → StillOpen (insert old maker new) m x
replaced old maker z new is same m x there = elim (same_or_other m maker) [
  | inl here ↦
      let one : z ≡ x = some_is z x (sym is ∙ ap (get old) (sym here) ∙ there) in
      record { session = new; lives = ap (get (insert old maker new)) here ∙ get_same old maker new; same = same ∙ ap (λ (y : Session). y.query) one }
  | inr other ↦ record { session = x; lives = get_other old maker new m other ∙ there; same = refl }
]

pub failures_open : (change : FinMap nat_cmp ℕ → FinMap nat_cmp ℕ) (maker : ℕ) (old : Sessions) (m : ℕ) (x : Session) → get old m ≡ Some x → StillOpen (with_failures change maker old) m x
failures_open change maker old m x there =
    elim (get old maker) as (λ o. get old maker ≡ o → StillOpen (elim o [ None ↦ old | Some z ↦ insert old maker (record z { failures = change z.failures }) ]) m x) [
      | None ↦ λ is. same_session old m x there
      | Some z ↦ λ is. replaced old maker z (record z { failures = change z.failures }) is refl m x there
    ] refl

closed_open : (maker t : ℕ) (old : Sessions) (m : ℕ) (x : Session) → get old m ≡ Some x → x.query ≢ t → StillOpen (without_tracker maker t old) m x
closed_open maker t old m x there other_query =
    elim (get old maker) as (λ o. get old maker ≡ o
    → StillOpen (elim o [ None ↦ old | Some z ↦ if z.query == t then remove old maker else insert old maker (record z { failures = remove z.failures t }) ]) m x) [
      | None ↦ λ is. same_session old m x there
      | Some z ↦ λ is. elim (z.query == t) as (λ b. z.query == t ≡ b → StillOpen (if b then remove old maker else insert old maker (record z { failures = remove z.failures t })) m x) [
        | true ↦ λ same. elim (same_or_other m maker) [
          | inl here ↦
              let one : z ≡ x = some_is z x (sym is ∙ ap (get old) (sym here) ∙ there) in
              absurd (other_query (ap (λ (y : Session). y.query) (sym one) ∙ eqb-true z.query t same))
          | inr other ↦ record { session = x; lives = removed_other old maker m other ∙ there; same = refl }
        ]
        | false ↦ λ apart. replaced old maker z (record z { failures = remove z.failures t }) is refl m x there
      ] refl
    ] refl

-- a tracker that is still live, under the same one
record StillUnder (new : Trackers) (c : ℕ) (x : Tracker) : Type 0 where
  tracker : Tracker
  lives : get new c ≡ Some tracker
  same : tracker.parent ≡ x.parent

outlined : (old new : Trackers) → SameOutline old new → (c : ℕ) (x : Tracker) → get old c ≡ Some x → StillUnder new c x
outlined old new same c x is =
    let its : (y : Tracker) × (get new c ≡ Some y) × (bare y ≡ bare x) = in_new old new same c x is in
    record { tracker = its.0; lives = its.1; same = ap (λ (y : Tracker). y.parent) its.2 }

same_tracker : (ts : Trackers) (c : ℕ) (x : Tracker) → get ts c ≡ Some x → StillUnder ts c x
same_tracker ts c x is = record { tracker = x; lives = is; same = refl }

beside_child : (ts : Trackers) (t p limit c : ℕ) (x : Tracker) → get ts t ≡ None → get ts c ≡ Some x → StillUnder (with_child t p limit ts) c x
beside_child ts t p limit c x fresh is = record { tracker = x; lives = get_other ts t _ c (live_apart ts c t (is_there (get ts c) x is) fresh) ∙ is; same = refl }

joined : (s new : State) (m c : ℕ) (client : IsClientOf s m c) → StillOpen new.sessions m client.session → StillUnder new.trackers c client.tracker → IsClientOf new m c
joined s new m c client holds under = record {
  session = holds.session;
  opened = holds.lives;
  tracker = under.tracker;
  lives = under.lives;
  under = under.same ∙ client.under ∙ ap Some (sym holds.same);
}

-- a client stays its session's until it ends
pub still_client : (before : List Entry) (s : State) → IsSound s → (maker : ℕ) (event : Event) → Allows before s maker event → (m c : ℕ) → IsClientOf s m c → closes c event ≡ false → IsClientOf (effect maker event s) m c
still_client before s sound maker Ask may m c client holds = joined s _ m c client (failures_open (λ failures. empty) maker s.sessions m client.session client.opened) (same_tracker s.trackers c client.tracker client.lives)
still_client before s sound maker (AddTracker t parent limit (Some quota)) may m c client holds =
    let apart : m ≢ maker = λ same. let none : None ≡ Some client.session = sym may.none ∙ ap (get s.sessions) (sym same) ∙ client.opened in cc in
    joined s _ m c client (record { session = client.session; lives = get_other s.sessions maker _ m apart ∙ client.opened; same = refl }) (beside_child s.trackers t 0 limit c client.tracker may.fresh client.lives)
still_client before s sound maker (AddTracker t parent limit None) may m c client holds =
    joined s _ m c client (same_session s.sessions m client.session client.opened) (beside_child s.trackers t parent limit c client.tracker may.fresh client.lives)
still_client before s sound maker (CloseTracker t) may m c client holds =
    joined s _ m c client
    (closed_open maker t s.sessions m client.session client.opened (λ same. may.no_child c client.tracker client.lives (client.under ∙ ap Some same)))
    (record { tracker = client.tracker; lives = removed_other s.trackers t c (λ same. eqb-false t c holds (sym same)) ∙ client.lives; same = refl })
still_client before s sound maker (Increase t bytes) may m c client holds =
    joined s _ m c client (same_session s.sessions m client.session client.opened)
    (outlined s.trackers _ (grow_outline s sound t bytes (own_live s sound maker t may.own) may.fits) c client.tracker client.lives)
still_client before s sound maker (IncreaseToFit t bytes) may m c client holds =
    joined s _ m c client (same_session s.sessions m client.session client.opened)
    (outlined s.trackers _ (grow_outline s sound t (lacking (charge_of s) bytes t s.trackers) (own_live s sound maker t may.own) may.fits) c client.tracker client.lives)
still_client before s sound maker (Decrease t bytes) may m c client holds =
    joined s _ m c client (same_session s.sessions m client.session client.opened)
    (outlined s.trackers _ (shrink_outline s sound t bytes (own_live s sound maker t may.own) may.spare.unused) c client.tracker client.lives)
still_client before s sound maker (MoveReservation from to bytes) may m c client holds =
    joined s _ m c client (same_session s.sessions m client.session client.opened)
    (outlined s.trackers _ (move_outline s sound from to bytes (own_live s sound maker from may.own) (own_live s sound maker to may.own_to) may.spare.unused may.fits) c client.tracker client.lives)
still_client before s sound maker (ReadFailed p sum_before sum_after) may m c client holds =
    joined s _ m c client (failures_open (keep_first (page_at s p).client s.entries) (page_at s p).session s.sessions m client.session client.opened) (same_tracker s.trackers c client.tracker client.lives)
still_client before s sound maker (WriteFailed p sum_before sum_after) may m c client holds =
    joined s _ m c client (failures_open (keep_first (page_at s p).client s.entries) (page_at s p).session s.sessions m client.session client.opened) (same_tracker s.trackers c client.tracker client.lives)
still_client before s sound maker _ may m c client holds = joined s _ m c client (same_session s.sessions m client.session client.opened) (same_tracker s.trackers c client.tracker client.lives)
