-- Pages in jobs, and the quotas of sessions.
use Rattle.std.specs.Prelude.{◌≡◌, ℕ, List, Bool, true, false, if◌then◌else◌, Option, Some, option_map}
use Rattle.std.specs.FinMap.{get}
use Rattle.std.specs.List.{AllByRecursion}
use Rattle.reservation_tree.specs.Total.{total}
use Rattle.pool_model.specs.declared.event.Event.{Event}
use Rattle.pool_model.specs.declared.event.Event.TheVariants.{AddTracker, CloseTracker, PinLoad, ReadOk, ReadFailed, ReadStale, StartWrite, WriteOk, WriteFailed}
use Rattle.pool_model.specs.LookingBack.{opens}
use Rattle.pool_model.specs.State.{Place, Flying, Loading, Page, Pages, State}

-- the page is written, or loaded
abbrev pub is_moving : Place → Bool
is_moving (Flying writer) = true
is_moving Loading = true
is_moving _ = false

-- the slots of a page in a job are out with it
abbrev pub out_with : Page → ℕ
out_with x = if is_moving x.place then x.blocks else 0

-- how many slots are out with jobs
abbrev pub slots_out : Pages → ℕ
slots_out pages = total (λ p x. out_with x) pages

-- the quota of the session of this number, where it is live
abbrev pub quota_at : State → ℕ → Option ℕ
quota_at s k = option_map (λ x. x.quota) (get s.sessions k)

-- no session comes or goes with the event
abbrev pub keeps_seats : Event → Bool
keeps_seats (AddTracker t parent limit (Some quota)) = false
keeps_seats (CloseTracker t) = false
keeps_seats _ = true

-- no session comes with these
abbrev pub NoneOpens : List Event → Type 0
NoneOpens events = AllByRecursion (λ e. opens e ≡ false) events

-- no page goes into a job with the event, and none comes back from one
abbrev pub rests : Event → Bool
rests (PinLoad p) = false
rests (ReadOk p) = false
rests (ReadFailed p before now) = false
rests (ReadStale p wanted found) = false
rests (StartWrite p) = false
rests (WriteOk p) = false
rests (WriteFailed p before now) = false
rests _ = true
