-- The sessions of a pool, as a caller sees them: by their numbers, and each with its clients, the one
-- that came first in front.
use Rattle.std.specs.Prelude.{ℕ, ◌≡◌, ◌+◌, ◌≤◌, ◌++◌, ◌==◌, if◌then◌else◌, List, [], ◌∷◌, Option, None, Some, length, map, not, eqb, replicate, filter, find, slice_index_or, slice_set, is_none, option_map, unwrap_or, option_and_then}
use Rattle.std.specs.List.{IsDistinct, sum_by, position}
use Rattle.session_table.specs.declared.member.Member.{Member}

-- a session: its query tracker, how many slots are its quota, and its clients
pub record Seat : Type 0 where
  pub query : ℕ
  pub quota : ℕ
  pub members : List Member

-- by its number a session, or none
abbrev pub Seats : Type 0
Seats = List (Option Seat)

-- the session of that number
abbrev pub seat_of : Seats → ℕ → Option Seat
seat_of seats s = slice_index_or seats s None

-- no number has a session
abbrev pub vacant : Seats
vacant = replicate 240 None

-- the lowest number without a session
abbrev pub lowest_vacant : Seats → Option ℕ
lowest_vacant seats = position is_none seats

-- the clients of a session
abbrev pub members_in : Option Seat → List Member
members_in None = []
members_in (Some x) = x.members

abbrev pub members_of : Seats → ℕ → List Member
members_of seats s = members_in (seat_of seats s)

-- the trackers of clients
abbrev pub trackers_of : List Member → List ℕ
trackers_of members = map (λ m. m.tracker) members

-- the first failure that is noted of a client
abbrev pub first_of : List Member → ℕ → Option ℕ
first_of members t = option_and_then (λ m. m.failed) (find (λ m. m.tracker == t) members)

-- a session is as f makes it
abbrev pub changed : ℕ → (Seat → Seat) → Seats → Seats
changed s f seats = slice_set seats s (option_map f (seat_of seats s))

-- a session without clients has come
abbrev pub with_seat : ℕ → ℕ → ℕ → Seats → Seats
with_seat s query quota seats = slice_set seats s (Some (record { query = query; quota = quota; members = [] }))

-- a session has ended
abbrev pub without_seat : ℕ → Seats → Seats
without_seat s seats = slice_set seats s None

-- a client has come, and no failure is noted of it
abbrev pub with_member : ℕ → Seat → Seat
with_member t x = record x { members = x.members ++ record { tracker = t; failed = None } ∷ [] }

-- a client has left
abbrev pub without_member : ℕ → Seat → Seat
without_member t x = record x { members = filter (λ m. not (m.tracker == t)) x.members }

-- the failure that is noted of a client, or else this one
abbrev pub noting : ℕ → ℕ → Member → Member
noting t entry m = if m.tracker == t then record m { failed = Some (unwrap_or m.failed entry) } else m

-- a failure is noted of a client, unless there was one already
abbrev pub noted : ℕ → ℕ → Seat → Seat
noted t entry x = record x { members = map (noting t entry) x.members }

-- no failure is noted of the client any more
abbrev pub forgetting : Member → Member
forgetting m = record m { failed = None }

-- no failure is noted of any client
abbrev pub forgotten : Seat → Seat
forgotten x = record x { members = map forgetting x.members }

-- at most 16 clients, and none of them twice
pub record IsProper (x : Seat) : Type 0 where
  pub few : length x.members ≤ 16
  pub distinct : IsDistinct eqb (trackers_of x.members)

-- what holds of the sessions at all times
pub record AreProper (seats : Seats) : Type 0 where
  pub counted : length seats ≡ 240
  pub each : (s : ℕ) (x : Seat) → seat_of seats s ≡ Some x → IsProper x

-- the trackers of a session: one for its query, and one for each client
abbrev pub trackers_in : Option Seat → ℕ
trackers_in None = 0
trackers_in (Some x) = 1 + length x.members

-- the trackers of all sessions
abbrev pub tracker_count : Seats → ℕ
tracker_count seats = sum_by trackers_in seats
