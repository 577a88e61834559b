-- How many trackers the sessions have, after each change.
use Rattle.std.proofs.Common.{◌≡◌, ℕ, ◌+◌, ◌*◌, ◌<◌, ◌≤◌, eqb, true, [], length, set, Option, Some, None, option_map, refl, ap, ◌∙◌, subst, arith, get_or}
use Rattle.std.specs.List.{IsDistinct, All}
use Rattle.std.proofs.lemmas.List.{get_or_default}
use Rattle.std.proofs.lemmas.List.Sums.{sum_by-set, sum_by-le}
use Rattle.index_list.specs.Listing.{stands_in}
use Rattle.session_table.specs.Seats.{Seat, Seats, AreProper, seat_of, trackers_of, trackers_in, tracker_count, changed, with_seat, without_seat, with_member, without_member, noted, forgotten}
use Rattle.session_table.proofs.Changes.{seat_within}
use Rattle.session_table.proofs.Trackers.{joined_length, left_length, noted_length, forgotten_length}

few_in : (o : Option Seat) → ((x : Seat) → o ≡ Some x → length x.members ≤ 16) → trackers_in o ≤ 17
few_in None few = omega arith
few_in (Some x) few = let short : length x.members ≤ 16 = few x refl in omega (arith, short)

-- at most 17 trackers a session, and 240 sessions
pub count_le : (seats : Seats) → AreProper seats → tracker_count seats ≤ 240 * 17
count_le seats proper =
    let each : All (λ (o : Option Seat). trackers_in o ≤ 17) seats = λ s d within. at s d within in
    let bound : tracker_count seats ≤ length seats * 17 = sum_by-le trackers_in 17 seats each in
    omega (arith, bound, proper.counted)
  where
    at : (s : ℕ) (d : Option Seat) → s < length seats → trackers_in (get_or seats s d) ≤ 17
    at s d within = subst (λ (o : Option Seat). trackers_in o ≤ 17) (get_or_default seats s None d within) (few_in (seat_of seats s) (λ x is. (proper.each s x is).few))

module _ (seats : Seats) (s : ℕ) where
  changed_count : (new : Option Seat) → s < length seats → tracker_count (set seats s new) + trackers_in (seat_of seats s) ≡ tracker_count seats + trackers_in new
  changed_count new within = sum_by-set trackers_in seats s new None within

  pub count_opened : (query quota : ℕ) → s < length seats → seat_of seats s ≡ None → tracker_count (with_seat s query quota seats) ≡ tracker_count seats + 1
  count_opened query quota within vacant =
      let sum = changed_count (Some (record { query = query; quota = quota; members = [] })) within in
      let none : trackers_in (seat_of seats s) ≡ 0 = ap trackers_in vacant in
      omega (arith, sum, none)

  module _ (x : Seat) (is : seat_of seats s ≡ Some x) where
    had : trackers_in (seat_of seats s) ≡ 1 + length x.members
    had = ap trackers_in is

    has : (f : Seat → Seat) → tracker_count (changed s f seats) + trackers_in (seat_of seats s) ≡ tracker_count seats + (1 + length (f x).members)
    has f = changed_count (option_map f (seat_of seats s)) (seat_within seats s x is) ∙ ap (λ (o : Option Seat). tracker_count seats + trackers_in (option_map f o)) is

    pub count_closed : x.members ≡ [] → tracker_count (without_seat s seats) + 1 ≡ tracker_count seats
    count_closed empty =
        let sum = changed_count None (seat_within seats s x is) in
        let none : length x.members ≡ 0 = ap length empty in
        omega (arith, sum, had, none)

    pub count_joined : (t : ℕ) → tracker_count (changed s (with_member t) seats) ≡ tracker_count seats + 1
    count_joined t = omega (arith, has (with_member t), had, joined_length x t)

    pub count_left : (t : ℕ) → IsDistinct eqb (trackers_of x.members) → stands_in t (trackers_of x.members) ≡ true → tracker_count (changed s (without_member t) seats) + 1 ≡ tracker_count seats
    count_left t distinct there = omega (arith, has (without_member t), had, left_length x t distinct there)

    pub count_noted : (t entry : ℕ) → tracker_count (changed s (noted t entry) seats) ≡ tracker_count seats
    count_noted t entry = omega (arith, has (noted t entry), had, noted_length x t entry)

    pub count_forgotten : tracker_count (changed s forgotten seats) ≡ tracker_count seats
    count_forgotten = omega (arith, has forgotten, had, forgotten_length x)
