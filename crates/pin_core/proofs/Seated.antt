-- The sessions that the table has, as the state has them.
use Rattle.std.proofs.Common.{◌≡◌, ℕ, Option, Some, None, IsSome, unwrap_or, option_map, refl, ap, sym, ◌∙◌}
use Rattle.std.specs.FinMap.{get}
use Rattle.std.specs.Option.{option_and_then}
use Rattle.reservation_tree.proofs.Maps.{is_there}
use Rattle.session_table.specs.Seats.{Seat, Seats, AreProper, members_in, seat_of, members_of, first_of}
use Rattle.session_table.specs.Sessions.{session_in, sessions_in}
use Rattle.session_table.proofs.Failures.{first_is}
use Rattle.session_table.proofs.Found.{get_sessions}
use Rattle.pool_model.specs.State.{Session}
use Rattle.pin_core.specs.declared.parts.Parts.{Parts}
use Rattle.pin_core.specs.StateOf.{state_of}
use Rattle.pin_core.specs.calls.Turns.{failure_of}

-- a session of the state has its seat
pub record HasSeat (seats : Seats) (s : ℕ) (y : Session) : Type 0 where
  pub seat : Seat
  pub there : seat_of seats s ≡ Some seat
  pub is : session_in seat ≡ y

from_option : (o : Option Seat) (y : Session) → option_map session_in o ≡ Some y → (x : Seat) × (o ≡ Some x) × (session_in x ≡ y)
from_option None y is = cc
from_option (Some x) y is = (x, refl, ap (λ (o : Option Session). unwrap_or o y) is)

pub has_seat : (seats : Seats) (s : ℕ) (y : Session) → get (sessions_in seats) s ≡ Some y → HasSeat seats s y
has_seat seats s y is =
    let w = from_option (seat_of seats s) y (sym (get_sessions seats s) ∙ is) in
    record { seat = w.0; there = w.1; is = w.2 }

pub seat_there : (seats : Seats) (s : ℕ) (y : Session) → get (sessions_in seats) s ≡ Some y → IsSome (seat_of seats s)
seat_there seats s y is = let h : HasSeat seats s y = has_seat seats s y is in is_there (seat_of seats s) h.seat h.there

-- the failure that the table tells is the one that stands in the state
pub failure_is : {D : Type 0} (v : Parts D) → AreProper v.seats → (s c : ℕ) → first_of (members_of v.seats s) c ≡ failure_of (state_of v) s c
failure_is v proper s c =
    elim (seat_of v.seats s) as (λ o. seat_of v.seats s ≡ o → first_of (members_in o) c ≡ option_and_then (λ (x : Session). get x.failures c) (option_map session_in o)) [
      | None ↦ λ is. refl
      | Some x ↦ λ is. first_is x.members c (proper.each s x is).distinct
    ] refl
    ∙ ap (λ (o : Option Session). option_and_then (λ (x : Session). get x.failures c) o) (sym (get_sessions v.seats s))
