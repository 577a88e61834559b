-- Each change leaves the table proper.
use Rattle.std.proofs.Common.{◌≡◌, ℕ, ◌<◌, false, [], length, set, Option, None, Some, option_map, get_or, refl, ap, sym, ◌∙◌, subst, inl, inr, arith}
use Rattle.std.proofs.lemmas.Bool.{cases_lt}
use Rattle.std.proofs.lemmas.List.{get_or-set_same, get_or-set_other, get_or_past, get_or-replicate, get_or_default, length-set, length-replicate}
use Rattle.std.specs.List.{IsDistinct}
use Rattle.reservation_tree.proofs.Maps.{same_or_other}
use Rattle.pool_model.proofs.Seats.{some_is}
use Rattle.index_list.specs.Listing.{stands_in}
use Rattle.session_table.specs.Seats.{Seat, Seats, IsProper, AreProper, seat_of, vacant, trackers_of, members_of, changed, with_seat, without_seat, with_member, without_member, noted, forgotten}
use Rattle.session_table.proofs.Changes.{members_are}
use Rattle.session_table.proofs.Trackers.{proper_joined, proper_left, proper_noted, proper_forgotten}

not_both : {X : Type 0} (o : Option X) (x : X) → o ≡ None → o ≡ Some x → ⊥
not_both None x a b = cc
not_both (Some y) x a b = cc

no_seat : (s : ℕ) → seat_of vacant s ≡ None
no_seat s = elim (cases_lt s 240) [
  | inl within ↦ get_or-replicate {A = Option Seat} 240 s None None within
  | inr past ↦
      let size = length-replicate {A = Option Seat} 240 None in
      get_or_past vacant s None (omega (arith, size, past))
]

pub proper_vacant : AreProper vacant
proper_vacant = record {
  counted = length-replicate {A = Option Seat} 240 None;
  each = λ s x is. absurd (not_both (seat_of vacant s) x (no_seat s) is);
}

proper_bare : (query quota : ℕ) → IsProper (record { query = query; quota = quota; members = [] })
unfolding IsDistinct
proper_bare query quota = record { few = omega arith; distinct = tt }

-- one seat is another, which is proper if it is there
pub proper_put : (seats : Seats) (s : ℕ) (new : Option Seat) → AreProper seats → ((x : Seat) → new ≡ Some x → IsProper x) → AreProper (set seats s new)
proper_put seats s new proper good = record {
  counted = length-set seats s new ∙ proper.counted;
  each = λ q x is. elim (same_or_other q s) [
    | inl here ↦ elim (cases_lt s (length seats)) [
      | inl within ↦ good x (sym (get_or-set_same seats s new None within) ∙ ap (seat_of (set seats s new)) (sym here) ∙ is)
      | inr past ↦
          let size : length (set seats s new) ≡ length seats = length-set seats s new in
          absurd (not_both (seat_of (set seats s new) q) x (get_or_past (set seats s new) q None (omega (arith, size, past, here))) is)
    ]
    | inr there ↦ proper.each q x (sym (get_or-set_other seats s q new None there) ∙ is)
  ];
}

module _ (seats : Seats) (s : ℕ) (proper : AreProper seats) where
  proper_changed : (f : Seat → Seat) → ((x : Seat) → seat_of seats s ≡ Some x → IsProper (f x)) → AreProper (changed s f seats)
  proper_changed f good = proper_put seats s (option_map f (seat_of seats s)) proper (λ x is. made (seat_of seats s) good x is)
    where
      made : (o : Option Seat) → ((y : Seat) → o ≡ Some y → IsProper (f y)) → (x : Seat) → option_map f o ≡ Some x → IsProper x
      made None good x is = absurd (not_both None x refl is)
      made (Some y) good x is = subst IsProper (some_is (f y) x is) (good y refl)

  pub proper_opened : (query quota : ℕ) → AreProper (with_seat s query quota seats)
  proper_opened query quota = proper_put seats s (Some (record { query = query; quota = quota; members = [] })) proper (λ x is. subst IsProper (some_is (record { query = query; quota = quota; members = [] }) x is) (proper_bare query quota))

  pub proper_closed : AreProper (without_seat s seats)
  proper_closed = proper_put seats s None proper (λ x is. absurd (not_both None x refl is))

  pub proper_with : (t : ℕ) → length (members_of seats s) < 16 → stands_in t (trackers_of (members_of seats s)) ≡ false → AreProper (changed s (with_member t) seats)
  proper_with t room apart = proper_changed (with_member t) (λ x is.
      let members = members_are seats s x is in
      proper_joined x t (proper.each s x is) (rw (← members) room) (rw (← members) apart))

  pub proper_without : (t : ℕ) → AreProper (changed s (without_member t) seats)
  proper_without t = proper_changed (without_member t) (λ x is. proper_left x t (proper.each s x is))

  pub proper_noting : (t entry : ℕ) → AreProper (changed s (noted t entry) seats)
  proper_noting t entry = proper_changed (noted t entry) (λ x is. proper_noted x t entry (proper.each s x is))

  pub proper_forgetting : AreProper (changed s forgotten seats)
  proper_forgetting = proper_changed forgotten (λ x is. proper_forgotten x (proper.each s x is))

-- a row is written, that was read as `row` and is now `new`
module _ (seats : Seats) (s : ℕ) (row new : Option Seat) (within : s < length seats) (read : row ≡ get_or seats s row) where
  row_is : row ≡ seat_of seats s
  row_is = read ∙ get_or_default seats s row None within

  pub proper_written : (f : Seat → Seat) → new ≡ option_map f row → AreProper (changed s f seats) → AreProper (set seats s new)
  proper_written f is proper = subst (λ (o : Option Seat). AreProper (set seats s o)) (sym (is ∙ ap (option_map f) row_is)) proper
