-- What is known of a live session, and of the tree, where the parts keep what they keep.
use Rattle.std.proofs.Common.{◌≡◌, ℕ, ◌<◌, ◌==◌, true, false, Option, Some, None, IsSome, option_map, refl, ap, sym, ◌∙◌, subst, arith, eq-eqb, eqb-true}
use Rattle.std.specs.FinMap.{get}
use Rattle.std.proofs.lemmas.Bool.{false≢true}
use Rattle.page_table.specs.declared.entry.Entry.{Entry}
use Rattle.client_lists.specs.Clients.{IsOpen}
use Rattle.reservation_tree.specs.Tracker.{Tracker, Trackers, HasNoChild}
use Rattle.reservation_tree.proofs.Maps.{is_there}
use Rattle.session_table.specs.Seats.{Seat, Seats, AreProper, seat_of}
use Rattle.session_table.specs.Sessions.{session_in, sessions_in}
use Rattle.session_table.proofs.Changes.{seat_within}
use Rattle.session_table.proofs.Found.{get_sessions}
use Rattle.pool_model.specs.State.{Session, State}
use Rattle.pool_model.specs.Sound.{IsSound}
use Rattle.pool_model.proofs.Kept.{legal_sound}
use Rattle.pin_core.specs.declared.kept.Kept.{Kept}
use Rattle.pin_core.specs.declared.parts.Parts.{Parts}
use Rattle.pin_core.specs.Invariant.{HasHistory, IsKept, hangs_under}
use Rattle.pin_core.specs.Lawful.{Lawful}

pub sound_now : (s : State) → HasHistory s → IsSound s
sound_now s has = subst IsSound (sym has.after) (legal_sound has.opening has.history has.legal)

-- the seat of a session that the model has
seat_there : (o : Option Seat) (x : Session) → option_map session_in o ≡ Some x → (y : Seat) × (o ≡ Some y) × (x ≡ session_in y)
seat_there None x is = cc
seat_there (Some y) x is = (y, refl, sym (ap (λ (o : Option Session). elim o [ None ↦ x | Some z ↦ z ]) is))

-- a session that is live
pub record HasSeat (seats : Seats) (s : ℕ) (x : Session) : Type 0 where
  pub seat : Seat
  pub there : seat_of seats s ≡ Some seat
  pub is : x ≡ session_in seat
  pub low : s < 240

pub has_seat : (seats : Seats) → AreProper seats → (s : ℕ) (x : Session) → get (sessions_in seats) s ≡ Some x → HasSeat seats s x
has_seat seats proper s x is =
    let y = seat_there (seat_of seats s) x (sym (get_sessions seats s) ∙ is) in
    let within = seat_within seats s y.0 y.1 in
    let counted = proper.counted in
    record { seat = y.0; there = y.1; is = y.2; low = omega (arith, within, counted) }

pub some_seat : (seats : Seats) (s : ℕ) (x : Session) → get (sessions_in seats) s ≡ Some x → IsSome (seat_of seats s)
some_seat seats s x is = let y = seat_there (seat_of seats s) x (sym (get_sessions seats s) ∙ is) in is_there (seat_of seats s) y.0 y.1

-- who hangs under a tracker
pub hangs_is : (ts : Trackers) (p t : ℕ) (x : Tracker) → get ts t ≡ Some x → x.parent ≡ Some p → hangs_under ts p t ≡ true
hangs_is ts p t x is under =
    ap (λ (o : Option Tracker). elim o [ None ↦ false | Some y ↦ elim y.parent [ None ↦ false | Some q ↦ q == p ] ]) is
    ∙ ap (λ (o : Option ℕ). elim o [ None ↦ false | Some q ↦ q == p ]) under ∙ eq-eqb p p refl

pub hangs_none : (ts : Trackers) (p t : ℕ) → get ts t ≡ None → hangs_under ts p t ≡ false
hangs_none ts p t is = ap (λ (o : Option Tracker). elim o [ None ↦ false | Some y ↦ elim y.parent [ None ↦ false | Some q ↦ q == p ] ]) is

under_named : (o : Option ℕ) (p : ℕ) → elim o [ None ↦ false | Some q ↦ q == p ] ≡ true → o ≡ Some p
under_named None p is = absurd (false≢true is)
under_named (Some q) p is = ap Some (eqb-true q p is)

pub record Hung (ts : Trackers) (p t : ℕ) : Type 0 where
  pub tracker : Tracker
  pub lives : get ts t ≡ Some tracker
  pub under : tracker.parent ≡ Some p

pub hangs_so : (ts : Trackers) (p t : ℕ) → hangs_under ts p t ≡ true → Hung ts p t
hangs_so ts p t is = elim (get ts t) as (λ o. get ts t ≡ o → Hung ts p t) [
  | None ↦ λ none. absurd (false≢true (sym (hangs_none ts p t none) ∙ is))
  | Some x ↦ λ some. record {
    tracker = x;
    lives = some;
    under = under_named x.parent p (sym (ap (λ (o : Option Tracker). elim o [ None ↦ false | Some y ↦ elim y.parent [ None ↦ false | Some q ↦ q == p ] ]) some) ∙ is);
  }
] refl

-- nobody hangs under a tracker that has no child
pub hangs_not : (ts : Trackers) (p t : ℕ) → HasNoChild ts p → hangs_under ts p t ≡ false
hangs_not ts p t none = elim (hangs_under ts p t) as (λ b. hangs_under ts p t ≡ b → hangs_under ts p t ≡ false) [
  | true ↦ λ is. let h = hangs_so ts p t is in absurd (none t h.tracker h.lives h.under)
  | false ↦ λ is. is
] refl

module _ {D : Type 0} where
  -- the client of a live page is open
  pub page_opened : (v : Parts D) → IsKept v → Lawful v → (p : ℕ) (x : Entry (Kept D)) → get v.pages.entries p ≡ Some x → IsOpen x.client v.lists
  page_opened v is_kept laws p x there =
      let keyed = laws.proper.keyed p (is_there (get v.pages.entries p) x there) in
      (is_kept.placed keyed.0 p x keyed.1 there).opened
