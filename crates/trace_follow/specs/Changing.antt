-- How trackers' rows change, step by step, and what they show then.
use Rattle.std.specs.Prelude.{◌≡◌, ◌≤◌, ℕ, List, None}
use Rattle.std.specs.FinMap.{get, insert, remove}
use Rattle.reservation_tree.specs.Tracker.{Trackers, IsLive, reservation_of}
use Rattle.reservation_tree.specs.Change.{raise, lower, grow, shrink, move_to, with_child}
use Rattle.pool_model.specs.declared.entry.Entry.{Entry}
use Rattle.pool_model.specs.State.{Opening, State}
use Rattle.pool_model.specs.Sums.{charge_of}
use Rattle.pool_model.specs.Owning.{IsTrackerOf}
use Rattle.pool_model.specs.TrackerRows.{MayCloseTracker, MayMoveReservation}
use Rattle.pool_model.specs.Legal.{state_after}
use Rattle.pool_model.specs.Sound.{IsSound}
use Rattle.trace_follow.specs.declared.rows.TrackerRow.{TrackerRow}
use Rattle.trace_follow.specs.declared.rows.Under.{Under}
use Rattle.trace_follow.specs.declared.follower.Follower.{Follower}
use Rattle.trace_follow.specs.Showing.{ShowsTrackers, Shows}
use Rattle.trace_follow.specs.Following.{StandsFor}

-- a tracker has this row, and this stands under one
abbrev pub set_tracker : ℕ → TrackerRow → Follower → Follower
set_tracker t row v = record v { trackers = insert v.trackers t row }

abbrev pub set_under : ℕ → Under → Follower → Follower
set_under p under v = record v { unders = insert v.unders p under }

-- a session has come, and has made no call
abbrev pub seated : ℕ → ℕ → ℕ → Follower → Follower
seated maker query quota v = record v { sessions = insert v.sessions maker (record { query = query; quota = quota }); asked = remove v.asked maker }

-- whatever trackers the rows showed, they show them with this one's reservation raised, or lowered, or with a new child
abbrev pub Raises : Follower → Follower → ℕ → ℕ → Type 0
Raises old new n t = (ts : Trackers) → ShowsTrackers old.trackers old.unders ts → IsLive ts t → ShowsTrackers new.trackers new.unders (raise n t ts)

abbrev pub Lowers : Follower → Follower → ℕ → ℕ → Type 0
Lowers old new n t = (ts : Trackers) → ShowsTrackers old.trackers old.unders ts → IsLive ts t → n ≤ reservation_of ts t → ShowsTrackers new.trackers new.unders (lower n t ts)

abbrev pub Adds : Follower → Follower → ℕ → ℕ → ℕ → Type 0
Adds old new t parent limit = (ts : Trackers) → ShowsTrackers old.trackers old.unders ts → get ts t ≡ None → ShowsTrackers new.trackers new.unders (with_child t parent limit ts)

-- whatever state was shown, the rows show its trackers after a growth, a fall, a move, or without one that may end
abbrev pub Grows : Follower → Follower → ℕ → ℕ → Type 0
Grows old new n t = (s : State) (maker : ℕ) → Shows old s → IsSound s → IsTrackerOf s maker t → ShowsTrackers new.trackers new.unders (grow (charge_of s) n t s.trackers)

abbrev pub Shrinks : Follower → Follower → ℕ → ℕ → Type 0
Shrinks old new n t = (s : State) (maker : ℕ) → Shows old s → IsSound s → IsTrackerOf s maker t → n ≤ reservation_of s.trackers t → ShowsTrackers new.trackers new.unders (shrink n t s.trackers)

abbrev pub Carries : Follower → Follower → ℕ → ℕ → ℕ → ℕ → Type 0
Carries old new maker n from to = (s : State) → Shows old s → IsSound s → MayMoveReservation s maker from to n → ShowsTrackers new.trackers new.unders (move_to n from to s.trackers)

abbrev pub Drops : Follower → Follower → ℕ → Type 0
Drops old new t = (s : State) (maker : ℕ) → Shows old s → IsSound s → MayCloseTracker s maker t → ShowsTrackers new.trackers new.unders (remove s.trackers t)

-- after each history for which the follower stands
abbrev pub AfterAll : Follower → (List Entry → State → Type 0) → Type 0
AfterAll v holds = (o : Opening) (h : List Entry) → StandsFor v o h → IsSound (state_after o h) → holds h (state_after o h)
