-- When trackers may come, change and go. Each row is what its event needs.
use Rattle.std.specs.Prelude.{◌≡◌, ◌≢◌, ℕ, ◌≤◌, Some, None}
use Rattle.std.specs.FinMap.{get}
use Rattle.reservation_tree.specs.Tracker.{reservation_of, unused, HasNoChild}
use Rattle.reservation_tree.specs.Change.{grow_refusal, lacking, move_refusal}
use Rattle.pool_model.specs.State.{Page, Buffer, Session, State}
use Rattle.pool_model.specs.Sums.{charge_of, HasRoom, IsClient}
use Rattle.pool_model.specs.Owning.{IsTrackerOf}

-- a session's query tracker comes under the root
pub record MayOpenSession (s : State) (maker t parent : ℕ) : Type 0 where
  pub fresh : get s.trackers t ≡ None
  pub root : parent ≡ 0
  pub none : get s.sessions maker ≡ None

-- a client's tracker comes under the session's query tracker
pub record MayAddClient (s : State) (maker t parent : ℕ) : Type 0 where
  pub fresh : get s.trackers t ≡ None
  pub session : Session
  pub opened : get s.sessions maker ≡ Some session
  pub query : parent ≡ session.query

-- a tracker that has nothing ends
pub record MayCloseTracker (s : State) (maker t : ℕ) : Type 0 where
  pub own : IsTrackerOf s maker t
  pub empty : reservation_of s.trackers t ≡ 0
  pub no_child : HasNoChild s.trackers t
  pub no_page : (p : ℕ) (x : Page) → get s.pages p ≡ Some x → x.client ≢ t
  pub no_buffer : (f : ℕ) (x : Buffer) → get s.buffers f ≡ Some x → x.client ≢ t

pub record MayIncrease (s : State) (maker t bytes : ℕ) : Type 0 where
  pub own : IsTrackerOf s maker t
  pub fits : grow_refusal (charge_of s) bytes t s.trackers ≡ None

-- a growth by nothing, where enough is unused, is never refused
pub record MayIncreaseToFit (s : State) (maker t bytes : ℕ) : Type 0 where
  pub own : IsTrackerOf s maker t
  pub fits : grow_refusal (charge_of s) (lacking (charge_of s) bytes t s.trackers) t s.trackers ≡ None

-- the tracker doesn't need so many bytes: they are unused, and what a client holds fits without them
pub record CanLose (s : State) (t bytes : ℕ) : Type 0 where
  pub unused : bytes ≤ unused (charge_of s) s.trackers t
  pub held : IsClient s.trackers t → HasRoom s t bytes

pub record MayDecrease (s : State) (maker t bytes : ℕ) : Type 0 where
  pub own : IsTrackerOf s maker t
  pub spare : CanLose s t bytes

pub record MayMoveReservation (s : State) (maker from to bytes : ℕ) : Type 0 where
  pub own : IsTrackerOf s maker from
  pub own_to : IsTrackerOf s maker to
  pub spare : CanLose s from bytes
  pub fits : move_refusal bytes from to s.trackers ≡ None
