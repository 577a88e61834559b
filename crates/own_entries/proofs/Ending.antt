-- A client that has no page and no loan may end.
use Rattle.std.proofs.Common.{◌≡◌, ℕ, ◌-◌, List, [], ◌∷◌, Some, refl, sym, ap, ◌∙◌, subst, arith, inl, inr}
use Rattle.std.specs.FinMap.{get}
use Rattle.reservation_tree.specs.Tracker.{Tracker, Trackers, reservation_of, children_of, HasNoChild}
use Rattle.reservation_tree.specs.Change.{lower, move_to}
use Rattle.reservation_tree.proofs.Maps.{get_same, get_other, same_or_other}
use Rattle.reservation_tree.proofs.Outline.{tracker_is}
use Rattle.reservation_tree.proofs.Shares.{children-none}
use Rattle.pool_model.specs.declared.event.Event.TheVariants.{MoveReservation, CloseTracker}
use Rattle.pool_model.specs.declared.entry.Entry.{Entry}
use Rattle.pool_model.specs.Makers.{IsSession}
use Rattle.pool_model.specs.State.{Session, State}
use Rattle.pool_model.specs.Sums.{charge_of, memory}
use Rattle.pool_model.specs.Owning.{IsClientOf}
use Rattle.pool_model.specs.TrackerRows.{MayMoveReservation, MayCloseTracker}
use Rattle.pool_model.specs.Effects.{effect, after}
use Rattle.pool_model.specs.LookingBack.{content_from}
use Rattle.pool_model.specs.Legal.{Follow, state_after}
use Rattle.pool_model.specs.Sound.{IsSound}
use Rattle.pool_model.proofs.Seats.{some_is, own_client}
use Rattle.pool_model.proofs.Fits.{no_child}
use Rattle.pool_model.proofs.Owners.{still_client}
use Rattle.pool_model.proofs.Kept.{legal_sound}
use Rattle.pool_model.proofs.Failures.{PagesOwned, legal_pages_are_owned}
use Rattle.store_api.specs.Holdings.{Holdings, account_of}
use Rattle.store_api.specs.Conditions.{IsIdle}
use Rattle.own_entries.specs.LiveParts.{Tells}
use Rattle.own_entries.specs.ClientLaws.{LegalEndsIdle}
use Rattle.own_entries.specs.HeldLaws.{own_holdings}
use Rattle.own_entries.proofs.Setting.{reservation_here}
use Rattle.reservation_tree.proofs.Ways.{never_refused, moves_up}
use Rattle.own_entries.proofs.Facts.{own_low, seat, high}
use Rattle.own_entries.proofs.Held.{legal_holdings_are_told}
use Rattle.own_entries.proofs.Behind.{told_client}
use Rattle.own_entries.proofs.Idle.{no_page, no_buffer, none_held, none_charged, all_of_it}

module _ (left : ℕ → List ℕ) (before : List Entry) (s : State) (sound : IsSound s) (owned : PagesOwned s) (m : ℕ) (x : Session) (session : IsSession m) (is : get s.sessions m ≡ Some x) (h : Holdings)
    (told : Tells left s.block_len s.trackers s.pages s.buffers m x.query x.quota h) (t : ℕ) (client : IsClientOf s m t) (idle : IsIdle t h) where
  alone : HasNoChild s.trackers t
  alone = no_child (memory s) s.trackers s.sessions sound.seated t (own_client s sound.seated m t client)

  move_row : MayMoveReservation s m t x.query (account_of t h).reservation
  move_row =
      let none = none_charged left s sound owned m x is h told t client idle in
      let empty = none_held left s sound owned m x is h told t client idle in
      let all = all_of_it left s sound owned m x is h told t client idle in
      let children : children_of s.trackers t ≡ 0 = children-none s.trackers t alone in
      record {
        own = inr client;
        own_to = inl (record { session = x; lives = is; is = refl });
        spare = record { unused = omega (arith, none, all, children); held = λ it. omega (arith, empty, all) };
        fits = never_refused (charge_of s) s.trackers (account_of t h).reservation x.query (high s sound x.query (seat s sound m x is)) t (own_low s sound m x is t client);
      }

  moved : State
  moved = effect m (MoveReservation t x.query (account_of t h).reservation) s

  now_lowered : move_to (account_of t h).reservation t x.query s.trackers ≡ lower (account_of t h).reservation t s.trackers
  now_lowered = moves_up (charge_of s) s.trackers (account_of t h).reservation x.query (high s sound x.query (seat s sound m x is)) t (own_low s sound m x is t client)

  close_row : MayCloseTracker (after s (record { maker = m; event = MoveReservation t x.query (account_of t h).reservation })) m t
  close_row =
      let n : ℕ = (account_of t h).reservation in
      let still : IsClientOf (effect m (MoveReservation t x.query (account_of t h).reservation) s) m t = still_client before s sound m (MoveReservation t x.query (account_of t h).reservation) move_row m t client refl in
      let all : n ≡ reservation_of s.trackers t = all_of_it left s sound owned m x is h told t client idle in
      let rest : reservation_of s.trackers t - n ≡ 0 = omega (arith, all) in
      record {
        own = inr (record { session = still.session; opened = still.opened; tracker = still.tracker; lives = still.lives; under = still.under });
        empty = ap (λ (ts : Trackers). reservation_of ts t) now_lowered ∙ reservation_here s.trackers t (reservation_of s.trackers t - n) ∙ rest;
        no_child = λ child z there under_it.
            let was : (ts : Trackers) → ts ≡ lower n t s.trackers → get ts child ≡ Some z → get (lower n t s.trackers) child ≡ Some z = λ ts same found. subst (λ (u : Trackers). get u child ≡ Some z) same found in
            elim (same_or_other child t) [
              | inl here ↦
                  let w : Tracker = record client.tracker { reservation = reservation_of s.trackers t - n } in
                  let at_t : get (lower n t s.trackers) t ≡ Some w = get_same s.trackers t _ ∙ ap (λ (y : Tracker). Some (record y { reservation = reservation_of s.trackers t - n })) (tracker_is s.trackers t client.tracker client.lives) in
                  let same : w ≡ z = some_is w z (sym at_t ∙ ap (get (lower n t s.trackers)) (sym here) ∙ was _ now_lowered there) in
                  alone t client.tracker client.lives (ap (λ (y : Tracker). y.parent) same ∙ under_it)
              | inr other ↦ alone child z (sym (get_other s.trackers t _ child other) ∙ was _ now_lowered there) under_it
            ];
        no_page = no_page left s sound owned m x is h told t client idle;
        no_buffer = no_buffer left s sound owned m x is h told t client idle;
      }

  pub ends : Follow before s (record { maker = m; event = MoveReservation t x.query (account_of t h).reservation } ∷ record { maker = m; event = CloseTracker t } ∷ [])
  ends = (record { makes = session; allows = move_row }, (record { makes = session; allows = close_row }, tt))

pub legal_ends_idle : LegalEndsIdle
legal_ends_idle o outset h legal m x session is t some idle =
    let s : State = state_after o h in
    let sound : IsSound s = legal_sound o h legal in
    let told = legal_holdings_are_told o outset h legal m x is in
    subst (λ (q : ℕ). Follow h (state_after o h) (record { maker = m; event = MoveReservation t q (account_of t (own_holdings o outset h m)).reservation } ∷ record { maker = m; event = CloseTracker t } ∷ [])) (sym told.tracker)
    (ends (λ p. content_from p [] h) h s sound (legal_pages_are_owned o h legal) m x session is (own_holdings o outset h m) told t (told_client (λ p. content_from p [] h) s m x is (own_holdings o outset h m) told t some) idle)
