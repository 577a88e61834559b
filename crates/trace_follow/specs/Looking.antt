-- What an event asks of what is live, read from rows.
use Rattle.std.specs.Prelude.{◌≡◌, ◌≢◌, ℕ, ◌+◌, ◌-◌, ◌≤◌, ◌⊎◌, ◌==◌, option_map, Bool, false, Option, Some, None, if◌then◌else◌}
use Rattle.std.specs.Ordering.{nat_cmp}
use Rattle.std.specs.FinMap.{FinMap, get, remove}
use Rattle.reservation_tree.specs.Tracker.{Trackers, reservation_of, room_of, parent_of, unused}
use Rattle.reservation_tree.specs.Change.{lacking}
use Rattle.pool_model.specs.State.{State}
use Rattle.pool_model.specs.Sums.{charge_of, held_by}
use Rattle.trace_follow.specs.declared.rows.Asked.{Asked}
use Rattle.trace_follow.specs.declared.rows.TrackerRow.{TrackerRow}
use Rattle.trace_follow.specs.declared.rows.SessionRow.{SessionRow}
use Rattle.trace_follow.specs.declared.rows.PageRow.{PageRow}
use Rattle.trace_follow.specs.Rows.{kids_of, pages_on, buffers_on}

-- the page, where it is this session's
abbrev pub own_row : ℕ → Option PageRow → Option PageRow
own_row maker None = None
own_row maker (Some row) = if row.session == maker then Some row else None

-- whether the tracker above is this one
abbrev pub is_above : ℕ → Option ℕ → Bool
is_above t None = false
is_above t (Some parent) = parent == t

-- whether the tracker stands right under the session's query tracker
abbrev pub stands_under : Option SessionRow → Option TrackerRow → Bool
stands_under (Some session) (Some row) = is_above session.query row.parent
stands_under _ _ = false

abbrev pub is_query : ℕ → Option SessionRow → Bool
is_query t None = false
is_query t (Some session) = session.query == t

abbrev pub quota_in : Option SessionRow → ℕ
quota_in None = 0
quota_in (Some session) = session.quota

-- a tracker with no reservation, no tracker under it, no page and no buffer
pub record HasNothing (s : State) (t : ℕ) : Type 0 where
  pub empty : reservation_of s.trackers t ≡ 0
  pub kids : kids_of s.trackers t ≡ 0
  pub things : pages_on s.pages t + buffers_on s.buffers t ≡ 0

-- the session keeps no failure of the client any more
pub record ForgetsClient (old new : FinMap nat_cmp Asked) (maker c : ℕ) : Type 0 where
  pub here : get new maker ≡ option_map {T = Asked} (λ since. record since { failures = remove since.failures c }) (get old maker)
  pub there : (k : ℕ) → k ≢ maker → get new k ≡ get old k

-- a growth passes no limit: its own, that above by what is lacking there, and the root's by what is lacking then
pub record GrowsWithin (charge : ℕ → ℕ) (ts : Trackers) (t bytes : ℕ) : Type 0 where
  pub own : bytes ≤ room_of ts t
  pub above : lacking charge bytes (parent_of ts t) ts ≤ room_of ts (parent_of ts t)
  pub top : (parent_of ts t ≡ 0) ⊎ (lacking charge (lacking charge bytes (parent_of ts t) ts) 0 ts ≤ room_of ts 0)

-- so many bytes are unused, and what is held fits without them
pub record IsSpare (s : State) (t bytes : ℕ) : Type 0 where
  pub free : bytes ≤ unused (charge_of s) s.trackers t
  pub over : bytes ≤ reservation_of s.trackers t - held_by s t

abbrev pub reserved_in : Option TrackerRow → ℕ
reserved_in None = 0
reserved_in (Some row) = row.reservation
