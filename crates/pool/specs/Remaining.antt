-- What is left for sessions, and which of them are refused.
use Rattle.std.specs.Prelude.{ℕ, zero, suc, ◌+◌, ◌-◌, ◌*◌, ◌==◌, nat_lt, if◌then◌else◌, List, [], ◌∷◌, Option, Some, None, is_some}
use Rattle.std.specs.FinMap.{get}
use Rattle.reservation_tree.specs.Tracker.{room_of}
use Rattle.reservation_tree.specs.declared.errors.PoolErr.{PoolErr}
use Rattle.reservation_tree.specs.declared.errors.PoolErr.TheVariants.{NoReservation, TooManyTrackers}
use Rattle.pool_model.specs.Bytes.{bytes_of}
use Rattle.pool_model.specs.State.{Opening, Sessions, State}
use Rattle.pool.specs.declared.ask.Ask.{Ask}
use Rattle.pool.specs.declared.left.Left.{Left}

-- how many of the numbers below n have no session
unfoldable pub vacancies : Sessions → ℕ → ℕ
vacancies sessions zero = 0
vacancies sessions (suc n) = vacancies sessions n + (if is_some (get sessions n) then 0 else 1)

-- what is left for sessions
abbrev pub left_in : State → Left
left_in s = record { numbers = vacancies s.sessions 240; bytes = room_of s.trackers 0 }

-- what is left where no session is live
abbrev pub all_left : Opening → Left
all_left o = record { numbers = 240; bytes = bytes_of o.block_len o.blocks }

-- why a session is refused, if it is: no number is left, its least reservation passes its own limit, or it passes what
-- is left
abbrev pub refusal_of : Ask → Left → Option PoolErr
refusal_of ask left =
    if left.numbers == 0 then Some (TooManyTrackers 240)
    else (if nat_lt ask.limit ask.least then Some (NoReservation 4294967295 ask.least ask.limit)
    else (if nat_lt left.bytes ask.least then Some (NoReservation 0 ask.least left.bytes) else None))

-- what is left behind one session, and behind so many
abbrev pub less : Ask → Left → Left
less ask left = record { numbers = left.numbers - 1; bytes = left.bytes - ask.least }

abbrev pub left_behind : ℕ → Ask → Left → Left
left_behind zero ask left = left
left_behind (suc n) ask left = left_behind n ask (less ask left)

-- of so many sessions one after the other, why the first is refused that is, if one is
abbrev pub first_refusal : ℕ → Ask → Left → Option PoolErr
first_refusal zero ask left = None
first_refusal (suc n) ask left = if is_some (refusal_of ask left) then refusal_of ask left else first_refusal n ask (less ask left)

-- behind an ask: its sessions came, or none of them did
abbrev pub left_by : Ask → Left → Left
left_by ask left = if is_some (first_refusal ask.count ask left) then left else left_behind ask.count ask left

-- why each ask is refused, if it is, one ask after the other
abbrev pub refusals : List Ask → Left → List (Option PoolErr)
refusals [] left = []
refusals (ask ∷ asks) left = first_refusal ask.count ask left ∷ refusals asks (left_by ask left)

-- the quotas of all sessions that are asked for
abbrev pub quotas_of : List Ask → ℕ
quotas_of [] = 0
quotas_of (ask ∷ asks) = ask.count * ask.quota + quotas_of asks
