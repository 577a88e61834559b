-- What a change of one session leaves of the table.
use Rattle.std.proofs.Common.{◌≡◌, ℕ, ◌<◌, ◌≢◌, length, [], None, Some, IsSome, option_map, ap, sym, ◌∙◌, inl, inr, arith}
use Rattle.std.proofs.lemmas.Bool.{cases_lt}
use Rattle.std.proofs.lemmas.List.{get_or-set_same, get_or-set_other, get_or_past, length-set}
use Rattle.reservation_tree.proofs.Maps.{found}
use Rattle.session_table.specs.Seats.{Seat, Seats, seat_of, members_in, members_of, changed, with_seat, without_seat}

-- a number with a session is one of the table's
pub seat_within : (seats : Seats) (s : ℕ) (x : Seat) → seat_of seats s ≡ Some x → s < length seats
seat_within seats s x is = elim (cases_lt s (length seats)) [
  | inl within ↦ within
  | inr past ↦ let both : None ≡ Some x = sym (get_or_past seats s None past) ∙ is in absurd (cc)
]

pub some_within : (seats : Seats) (s : ℕ) → IsSome (seat_of seats s) → s < length seats
some_within seats s there = let x = found (seat_of seats s) there in seat_within seats s x.0 x.1

pub changed_at : (seats : Seats) (s : ℕ) (f : Seat → Seat) → seat_of (changed s f seats) s ≡ option_map f (seat_of seats s)
changed_at seats s f = elim (cases_lt s (length seats)) [
  | inl within ↦ get_or-set_same seats s (option_map f (seat_of seats s)) None within
  | inr past ↦
      let size : length (changed s f seats) ≡ length seats = length-set seats s (option_map f (seat_of seats s)) in
      get_or_past (changed s f seats) s None (omega (arith, size, past)) ∙ sym (ap (option_map f) (get_or_past seats s None past))
]

pub changed_seat : (seats : Seats) (s : ℕ) (f : Seat → Seat) (x : Seat) → seat_of seats s ≡ Some x → seat_of (changed s f seats) s ≡ Some (f x)
changed_seat seats s f x is = changed_at seats s f ∙ ap (option_map f) is

pub changed_other : (seats : Seats) (s : ℕ) (f : Seat → Seat) (q : ℕ) → q ≢ s → seat_of (changed s f seats) q ≡ seat_of seats q
changed_other seats s f q apart = get_or-set_other seats s q (option_map f (seat_of seats s)) None apart

pub changed_length : (seats : Seats) (s : ℕ) (f : Seat → Seat) → length (changed s f seats) ≡ length seats
changed_length seats s f = length-set seats s (option_map f (seat_of seats s))

pub opened_seat : (seats : Seats) (s query quota : ℕ) → s < length seats → seat_of (with_seat s query quota seats) s ≡ Some (record { query = query; quota = quota; members = [] })
opened_seat seats s query quota within = get_or-set_same seats s (Some (record { query = query; quota = quota; members = [] })) None within

pub opened_other : (seats : Seats) (s query quota q : ℕ) → q ≢ s → seat_of (with_seat s query quota seats) q ≡ seat_of seats q
opened_other seats s query quota q apart = get_or-set_other seats s q (Some (record { query = query; quota = quota; members = [] })) None apart

pub opened_length : (seats : Seats) (s query quota : ℕ) → length (with_seat s query quota seats) ≡ length seats
opened_length seats s query quota = length-set seats s (Some (record { query = query; quota = quota; members = [] }))

pub closed_seat : (seats : Seats) (s : ℕ) → seat_of (without_seat s seats) s ≡ None
closed_seat seats s = elim (cases_lt s (length seats)) [
  | inl within ↦ get_or-set_same seats s None None within
  | inr past ↦
      let size : length (without_seat s seats) ≡ length seats = length-set seats s None in
      get_or_past (without_seat s seats) s None (omega (arith, size, past))
]

pub closed_other : (seats : Seats) (s q : ℕ) → q ≢ s → seat_of (without_seat s seats) q ≡ seat_of seats q
closed_other seats s q apart = get_or-set_other seats s q None None apart

pub closed_length : (seats : Seats) (s : ℕ) → length (without_seat s seats) ≡ length seats
closed_length seats s = length-set seats s None

-- the clients of a session that is there
pub members_are : (seats : Seats) (s : ℕ) (x : Seat) → seat_of seats s ≡ Some x → members_of seats s ≡ x.members
members_are seats s x is = ap members_in is
