-- Refusals as errors.
use Rattle.std.specs.Prelude.{◌≡◌, Option, Some, None, Result, Ok, Err}
use Rattle.reservation_tree.specs.declared.errors.PoolErr.{PoolErr}
use Rattle.reservation_tree.specs.declared.errors.PoolErr.TheVariants.{NoReservation}
use Rattle.reservation_tree.specs.Change.{Refusal}

-- the error that names the tracker, its growth and its room
abbrev pub no_reservation : Refusal → PoolErr
no_reservation r = NoReservation r.tracker r.wanted r.room

-- the error is this refusal's
abbrev pub IsFrom : Option Refusal → PoolErr → Type 0
IsFrom None e = ⊥
IsFrom (Some r) e = e ≡ no_reservation r

-- `Ok` where nothing is refused, and else the refusal's error
abbrev pub answer : Option Refusal → Result (Unit {0}) PoolErr
answer None = Ok tt
answer (Some r) = Err (no_reservation r)
