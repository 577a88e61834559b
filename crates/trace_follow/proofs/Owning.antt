-- Whose trackers these are, as rows tell it.
use Rattle.std.proofs.Common.{◌≡◌, ℕ, ◌==◌, ◌↔◌, IsTrue, Some, ap, sym, ◌∙◌, eq-eqb, eqb-true}
use Rattle.std.specs.FinMap.{get}
use Rattle.reservation_tree.specs.Tracker.{Tracker}
use Rattle.pool_model.specs.State.{Session, State}
use Rattle.pool_model.specs.Owning.{IsQueryOf, IsClientOf}
use Rattle.pool_model.proofs.Seats.{some_is}
use Rattle.trace_follow.specs.declared.rows.TrackerRow.{TrackerRow}
use Rattle.trace_follow.specs.declared.rows.SessionRow.{SessionRow}
use Rattle.trace_follow.specs.declared.follower.Follower.{Follower}
use Rattle.trace_follow.specs.Rows.{tracker_row, session_row}
use Rattle.trace_follow.specs.Showing.{Shows}
use Rattle.trace_follow.proofs.Mirrored.{HasRow, row_of}

module _ (v : Follower) (s : State) (shows : Shows v s) (m : ℕ) (session : SessionRow) (there : get v.sessions m ≡ Some session) where
  pub seated : HasRow session_row (get s.sessions m) session
  seated = row_of session_row s.sessions v.sessions shows.sessions.rows m session there

  query_is : (x : Session) → get s.sessions m ≡ Some x → session.query ≡ x.query
  query_is x lives = ap (λ (r : SessionRow). r.query) seated.is ∙ ap (λ (y : Session). y.query) (some_is seated.of x (sym seated.lives ∙ lives))

  pub query_exactly : (t : ℕ) → IsTrue (session.query == t) ↔ IsQueryOf s m t
  query_exactly t = (
    λ is. record { session = seated.of; lives = seated.lives; is = sym (query_is seated.of seated.lives) ∙ eqb-true session.query t is },
    λ own. let q : IsQueryOf s m t = own in eq-eqb session.query t (query_is q.session q.lives ∙ q.is),
  )

  module _ (c : ℕ) (row : TrackerRow) (lives : get v.trackers c ≡ Some row) (p : ℕ) (under : row.parent ≡ Some p) where
    stands : HasRow tracker_row (get s.trackers c) row
    stands = row_of tracker_row s.trackers v.trackers shows.trackers.rows c row lives

    parent_was : (x : Tracker) → get s.trackers c ≡ Some x → x.parent ≡ Some p
    parent_was x is = sym (ap (λ (y : Tracker). y.parent) (some_is stands.of x (sym stands.lives ∙ is))) ∙ sym (ap (λ (r : TrackerRow). r.parent) stands.is) ∙ under

    pub client_exactly : IsTrue (p == session.query) ↔ IsClientOf s m c
    client_exactly = (
      λ is. record {
        session = seated.of;
        opened = seated.lives;
        tracker = stands.of;
        lives = stands.lives;
        under = parent_was stands.of stands.lives ∙ ap (λ (n : ℕ). Some n) (eqb-true p session.query is ∙ query_is seated.of seated.lives);
      },
      λ own.
          let k : IsClientOf s m c = own in
          let same : p ≡ k.session.query = some_is p k.session.query (sym (parent_was k.tracker k.lives) ∙ k.under) in
          eq-eqb p session.query (same ∙ sym (query_is k.session k.opened)),
    )
