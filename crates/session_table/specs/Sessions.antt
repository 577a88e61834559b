-- The sessions as the model of a pool has them.
use Rattle.std.specs.Prelude.{ℕ, ◌+◌, List, [], ◌∷◌, Option, None, Some}
use Rattle.std.specs.Ordering.{nat_cmp}
use Rattle.std.specs.FinMap.{FinMap, empty, insert}
use Rattle.pool_model.specs.State.{Session, Sessions}
use Rattle.session_table.specs.declared.member.Member.{Member}
use Rattle.session_table.specs.Seats.{Seat, Seats}

-- with the failure of a client, if there is one
abbrev pub with_first : ℕ → Option ℕ → FinMap nat_cmp ℕ → FinMap nat_cmp ℕ
with_first t None failures = failures
with_first t (Some entry) failures = insert failures t entry

-- the failures that are noted, by the trackers of the clients
abbrev pub failures_in : List Member → FinMap nat_cmp ℕ
failures_in [] = empty
failures_in (m ∷ rest) = with_first m.tracker m.failed (failures_in rest)

abbrev pub session_in : Seat → Session
session_in x = record { query = x.query; quota = x.quota; failures = failures_in x.members }

-- the sessions by their numbers, where the first has the number s
abbrev pub sessions_from : ℕ → List (Option Seat) → Sessions
sessions_from s [] = empty
sessions_from s (None ∷ rest) = sessions_from (s + 1) rest
sessions_from s (Some x ∷ rest) = insert (sessions_from (s + 1) rest) s (session_in x)

unfoldable pub sessions_in : Seats → Sessions
sessions_in seats = sessions_from 0 seats
