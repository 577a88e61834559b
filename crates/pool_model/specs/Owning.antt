-- Whose trackers and pages these are.
use Rattle.std.specs.Prelude.{◌≡◌, ℕ, ◌⊎◌, Some}
use Rattle.std.specs.FinMap.{get}
use Rattle.reservation_tree.specs.Tracker.{Tracker}
use Rattle.pool_model.specs.State.{Page, Session, State}

-- the session is live, and this is its query tracker
pub record IsQueryOf (s : State) (maker t : ℕ) : Type 0 where
  pub session : Session
  pub lives : get s.sessions maker ≡ Some session
  pub is : session.query ≡ t

-- a live client tracker under the session's query tracker
pub record IsClientOf (s : State) (maker c : ℕ) : Type 0 where
  pub session : Session
  pub opened : get s.sessions maker ≡ Some session
  pub tracker : Tracker
  pub lives : get s.trackers c ≡ Some tracker
  pub under : tracker.parent ≡ Some session.query

-- a tracker of the session: its query's, or a client's
abbrev pub IsTrackerOf : State → ℕ → ℕ → Type 0
IsTrackerOf s maker t = IsQueryOf s maker t ⊎ IsClientOf s maker t

-- a live page of the session
pub record IsPageOf (s : State) (maker p : ℕ) (page : Page) : Type 0 where
  pub lives : get s.pages p ≡ Some page
  pub own : page.session ≡ maker
