-- Reservation moves between the trackers of a session.
use Rattle.std.proofs.Common.{◌≡◌, ◌≢◌, ℕ, ◌≤◌, ◌↔◌, ◌⊎◌, Bool, IsTrue, Some, None, refl, ap, sym, ◌∙◌, subst, inl, inr}
use Rattle.std.specs.FinMap.{get}
use Rattle.reservation_tree.specs.Tracker.{room_of}
use Rattle.reservation_tree.specs.Change.{lower, move_to, move_refusal, over}
use Rattle.reservation_tree.specs.Ways.{QueryMoves, ClientMoves, OwnMoves}
use Rattle.reservation_tree.proofs.Maps.{same_or_other}
use Rattle.reservation_tree.proofs.Ways.{queries_move, clients_move, moves_to_itself}
use Rattle.pool_model.specs.State.{Session, State}
use Rattle.pool_model.specs.Owning.{IsQueryOf, IsClientOf, IsTrackerOf}
use Rattle.pool_model.specs.TrackerRows.{CanLose, MayMoveReservation}
use Rattle.pool_model.specs.Sound.{IsSound}
use Rattle.pool_model.proofs.Seats.{some_is}
use Rattle.trace_follow.specs.declared.follower.Follower.{Follower}
use Rattle.trace_follow.specs.Showing.{ShowsTrackers}
use Rattle.trace_follow.specs.Looking.{IsSpare}
use Rattle.trace_follow.specs.Changing.{Raises, Lowers}
use Rattle.trace_follow.proofs.Levels.{IsLow, low, live_low, live_set}
use Rattle.trace_follow.proofs.Growing.{room_for, not_over, spare_exactly, lost_reserved}

module _ (s : State) (sound : IsSound s) (m : ℕ) where
  same_session : (x y : Session) → get s.sessions m ≡ Some x → get s.sessions m ≡ Some y → x ≡ y
  same_session x y first second = some_is x y (sym first ∙ second)

  same_query : (a b : ℕ) → IsQueryOf s m a → IsQueryOf s m b → a ≡ b
  same_query a b first second = sym first.is ∙ ap (λ (x : Session). x.query) (same_session first.session second.session first.lives second.lives) ∙ second.is

  below : (c q : ℕ) → IsClientOf s m c → IsQueryOf s m q → IsLow s.trackers c q
  below c q client query = subst (IsLow s.trackers c) (ap (λ (x : Session). x.query) (same_session client.session query.session client.opened query.lives) ∙ query.is) (low s sound m c client)

  beside : (c d : ℕ) (client : IsClientOf s m c) → IsClientOf s m d → IsLow s.trackers d client.session.query
  beside c d client other = subst (IsLow s.trackers d) (ap (λ (x : Session). x.query) (same_session other.session client.session other.opened client.opened)) (low s sound m d other)

  not_both : (c : ℕ) → IsClientOf s m c → IsQueryOf s m c → ⊥
  not_both c client query =
      let l : IsLow s.trackers c c = below c c client query in
      l.apart refl

  module _ (n a b : ℕ) (own : IsTrackerOf s m a) (own_to : IsTrackerOf s m b) where
    pub arrives_exactly : ((a ≡ b) ⊎ IsQueryOf s m b ⊎ (n ≤ room_of s.trackers b)) ↔ (move_refusal n a b s.trackers ≡ None)
    arrives_exactly = elim (same_or_other a b) [
      | inl same ↦
          let itself : OwnMoves s.trackers n a = moves_to_itself s.trackers n a in
          (λ _. subst (λ (t : ℕ). move_refusal n a t s.trackers ≡ None) same itself.refused, λ _. inl same)
      | inr other ↦ elim own_to [
        | inl q ↦ elim own [
          | inl p ↦ absurd (other (same_query a b p q))
          | inr c ↦
              let l : IsLow s.trackers a b = below a b c q in
              let moves : QueryMoves s.trackers n a b = queries_move s.trackers n a b l.under in
              (λ _. moves.up_refused, λ _. inr (inl q))
        ]
        | inr d ↦ limited d (elim own [
          | inl p ↦
              let l : IsLow s.trackers b a = below b a d p in
              let moves : QueryMoves s.trackers n b a = queries_move s.trackers n b a l.under in
              moves.down_refused
          | inr c ↦
              let l : IsLow s.trackers a c.session.query = low s sound m a c in
              let k : IsLow s.trackers b c.session.query = beside a b c d in
              let moves : ClientMoves s.trackers n a b = clients_move s.trackers n a b c.session.query l.under k.under other in
              moves.refused
        ]) other
      ]
    ]
      where
        limited : IsClientOf s m b → move_refusal n a b s.trackers ≡ over s.trackers n b → a ≢ b → ((a ≡ b) ⊎ IsQueryOf s m b ⊎ (n ≤ room_of s.trackers b)) ↔ (move_refusal n a b s.trackers ≡ None)
        limited client is other = (
          λ arrives. elim arrives [
            | inl same ↦ absurd (other same)
            | inr more ↦ elim more [
              | inl q ↦ absurd (not_both b client q)
              | inr few ↦ is ∙ not_over s.trackers n b few
            ]
          ],
          λ none. inr (inr (room_for s.trackers n b (sym is ∙ none))),
        )

    pub move_exactly : (lose arrive : Bool) → IsTrue lose ↔ IsSpare s a n → IsTrue arrive ↔ ((a ≡ b) ⊎ IsQueryOf s m b ⊎ (n ≤ room_of s.trackers b))
        → IsTrue lose → IsTrue arrive ↔ MayMoveReservation s m a b n
    move_exactly lose arrive loses arrives is =
        let spare : IsSpare s a n ↔ CanLose s a n = spare_exactly s sound m a own n in (
          λ it. record { own = own; own_to = own_to; spare = spare.0 (loses.0 is); fits = arrives_exactly.0 (arrives.0 it) },
          λ may. let k : MayMoveReservation s m a b n = may in arrives.1 (arrives_exactly.1 k.fits),
        )

    module _ (v w u : Follower) (shows : ShowsTrackers v.trackers v.unders s.trackers) (spare : CanLose s a n) (other : a ≢ b) where
      pub moved_up : IsQueryOf s m b → Lowers v w n a → ShowsTrackers w.trackers w.unders (move_to n a b s.trackers)
      moved_up q step = elim own [
        | inl p ↦ absurd (other (same_query a b p q))
        | inr c ↦
            let l : IsLow s.trackers a b = below a b c q in
            let moves : QueryMoves s.trackers n a b = queries_move s.trackers n a b l.under in
            subst (ShowsTrackers w.trackers w.unders) (sym moves.up) (step s.trackers shows (live_low s.trackers a b l) (lost_reserved s a n spare))
      ]

      pub moved_down : IsQueryOf s m a → Raises v w n b → ShowsTrackers w.trackers w.unders (move_to n a b s.trackers)
      moved_down p step = elim own_to [
        | inl q ↦ absurd (other (same_query a b p q))
        | inr d ↦
            let l : IsLow s.trackers b a = below b a d p in
            let moves : QueryMoves s.trackers n b a = queries_move s.trackers n b a l.under in
            subst (ShowsTrackers w.trackers w.unders) (sym moves.down) (step s.trackers shows (live_low s.trackers b a l))
      ]

      pub moved_over : (IsQueryOf s m a → ⊥) → (IsQueryOf s m b → ⊥) → Lowers v w n a → Raises w u n b → ShowsTrackers u.trackers u.unders (move_to n a b s.trackers)
      moved_over no_query no_target first second = elim own [
        | inl p ↦ absurd (no_query p)
        | inr c ↦ elim own_to [
          | inl q ↦ absurd (no_target q)
          | inr d ↦
              let l : IsLow s.trackers a c.session.query = low s sound m a c in
              let k : IsLow s.trackers b c.session.query = beside a b c d in
              let moves : ClientMoves s.trackers n a b = clients_move s.trackers n a b c.session.query l.under k.under other in
              subst (ShowsTrackers u.trackers u.unders) (sym moves.moves)
              (second (lower n a s.trackers) (first s.trackers shows (live_low s.trackers a c.session.query l) (lost_reserved s a n spare)) (live_set s.trackers _ a b (live_low s.trackers b c.session.query k)))
        ]
      ]

-- a move to the tracker itself
pub moved_nowhere : (s : State) (v : Follower) (n a b : ℕ) → a ≡ b → ShowsTrackers v.trackers v.unders s.trackers → ShowsTrackers v.trackers v.unders (move_to n a b s.trackers)
moved_nowhere s v n a b same shows =
    let itself : OwnMoves s.trackers n a = moves_to_itself s.trackers n a in
    subst (ShowsTrackers v.trackers v.unders) (sym (ap (λ (t : ℕ). move_to n a t s.trackers) (sym same) ∙ itself.moves)) shows
