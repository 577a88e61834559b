-- The sessions of the model follow the table.
use Rattle.std.proofs.Common.{◌≡◌, ℕ, zero, suc, ◌+◌, ◌<◌, ◌≢◌, eqb, true, List, [], ◌∷◌, length, Option, Some, None, option_map, slice_index_or, refl, ap, sym, ◌∙◌, subst, inl, inr, arith}
use Rattle.std.specs.List.{IsDistinct}
use Rattle.std.specs.Ordering.{nat_cmp}
use Rattle.std.specs.FinMap.{FinMap, get, insert, remove, empty, get-empty}
use Rattle.reservation_tree.proofs.Maps.{get_same, get_other, removed_same, removed_other, alike, same_or_other}
use Rattle.index_list.specs.Listing.{stands_in}
use Rattle.pool_model.specs.State.{Session}
use Rattle.pool_model.specs.Parts.{with_failures, keep_first}
use Rattle.session_table.specs.Seats.{Seat, Seats, seat_of, trackers_of, changed, with_seat, without_seat, with_member, without_member, noted, forgotten}
use Rattle.session_table.specs.Sessions.{failures_in, session_in, sessions_from, sessions_in}
use Rattle.session_table.proofs.Changes.{changed_at, changed_seat, changed_other, opened_seat, opened_other, closed_seat, closed_other}
use Rattle.session_table.proofs.Failures.{failures_joined, failures_left, failures_noted, failures_forgotten}

before : (s : ℕ) (seats : List (Option Seat)) (q : ℕ) → q < s → get (sessions_from s seats) q ≡ None
before s [] q low = get-empty nat_cmp q
before s (None ∷ rest) q low = before (s + 1) rest q (omega (arith, low))
before s (Some x ∷ rest) q low =
    let apart : q ≢ s = λ same. omega (arith, same, low) in
    get_other (sessions_from (s + 1) rest) s (session_in x) q apart ∙ before (s + 1) rest q (omega (arith, low))

later : (s i : ℕ) (rest : List (Option Seat)) → get (sessions_from (s + 1) rest) ((s + 1) + i) ≡ option_map session_in (slice_index_or rest i None) → get (sessions_from (s + 1) rest) (s + suc i) ≡ option_map session_in (slice_index_or rest i None)
later s i rest is =
    let same : (s + 1) + i ≡ s + suc i = omega arith in
    subst (λ (q : ℕ). get (sessions_from (s + 1) rest) q ≡ option_map session_in (slice_index_or rest i None)) same is

at_number : (s : ℕ) (seats : List (Option Seat)) (i : ℕ) → get (sessions_from s seats) (s + i) ≡ option_map session_in (slice_index_or seats i None)
at_number s [] i = get-empty nat_cmp (s + i)
at_number s (None ∷ rest) zero = before (s + 1) rest (s + zero) (omega arith)
at_number s (None ∷ rest) (suc i) = later s i rest (at_number (s + 1) rest i)
at_number s (Some x ∷ rest) zero =
    let here : s + zero ≡ s = omega arith in
    ap (get (insert (sessions_from (s + 1) rest) s (session_in x))) here ∙ get_same (sessions_from (s + 1) rest) s (session_in x)
at_number s (Some x ∷ rest) (suc i) =
    let apart : s + suc i ≢ s = λ same. omega (arith, same) in
    get_other (sessions_from (s + 1) rest) s (session_in x) (s + suc i) apart ∙ later s i rest (at_number (s + 1) rest i)

-- a number has the session of its seat
pub get_sessions : (seats : Seats) (s : ℕ) → get (sessions_in seats) s ≡ option_map session_in (seat_of seats s)
unfolding sessions_in
get_sessions seats s =
    let from_start : zero + s ≡ s = omega arith in
    subst (λ (q : ℕ). get (sessions_from 0 seats) q ≡ option_map session_in (seat_of seats s)) from_start (at_number 0 seats s)

-- a seat that one number got is a session that it got, where no other number's changed
put_at : (old new : Seats) (s : ℕ) (x : Seat) → seat_of new s ≡ Some x → ((q : ℕ) → q ≢ s → seat_of new q ≡ seat_of old q) → sessions_in new ≡ insert (sessions_in old) s (session_in x)
put_at old new s x own others = alike _ _ (λ q. elim (same_or_other q s) [
  | inl here ↦
      ap (get (sessions_in new)) here ∙ get_sessions new s ∙ ap (option_map session_in) own
      ∙ sym (get_same (sessions_in old) s (session_in x)) ∙ ap (get (insert (sessions_in old) s (session_in x))) (sym here)
  | inr there ↦
      get_sessions new q ∙ ap (option_map session_in) (others q there) ∙ sym (get_sessions old q)
      ∙ sym (get_other (sessions_in old) s (session_in x) q there)
])

module _ (seats : Seats) (s : ℕ) where
  pub sessions_changed : (f : Seat → Seat) (x : Seat) → seat_of seats s ≡ Some x → sessions_in (changed s f seats) ≡ insert (sessions_in seats) s (session_in (f x))
  sessions_changed f x is = put_at seats (changed s f seats) s (f x) (changed_seat seats s f x is) (changed_other seats s f)

  -- what the model says of a session that is there
  pub failures_changed : (change : FinMap nat_cmp ℕ → FinMap nat_cmp ℕ) (x : Seat) → seat_of seats s ≡ Some x → with_failures change s (sessions_in seats) ≡ insert (sessions_in seats) s (record (session_in x) { failures = change (failures_in x.members) })
  failures_changed change x is =
      ap (λ (o : Option Session). elim o [ None ↦ sessions_in seats | Some y ↦ insert (sessions_in seats) s (record y { failures = change y.failures }) ])
      (get_sessions seats s ∙ ap (option_map session_in) is)

  put_failures : (x : Seat) (a b : FinMap nat_cmp ℕ) → a ≡ b → insert (sessions_in seats) s (record (session_in x) { failures = a }) ≡ insert (sessions_in seats) s (record (session_in x) { failures = b })
  put_failures x a b is = ap (λ (failures : FinMap nat_cmp ℕ). insert (sessions_in seats) s (record (session_in x) { failures = failures })) is

  pub sessions_noted : (t entry : ℕ) (x : Seat) → seat_of seats s ≡ Some x → IsDistinct eqb (trackers_of x.members) → stands_in t (trackers_of x.members) ≡ true → sessions_in (changed s (noted t entry) seats) ≡ with_failures (keep_first t entry) s (sessions_in seats)
  sessions_noted t entry x is distinct there =
      sessions_changed (noted t entry) x is
      ∙ put_failures x (failures_in (noted t entry x).members) (keep_first t entry (failures_in x.members)) (failures_noted x t entry distinct there)
      ∙ sym (failures_changed (keep_first t entry) x is)

  pub sessions_forgotten : (x : Seat) → seat_of seats s ≡ Some x → sessions_in (changed s forgotten seats) ≡ with_failures (λ _. empty) s (sessions_in seats)
  sessions_forgotten x is =
      sessions_changed forgotten x is
      ∙ put_failures x (failures_in (forgotten x).members) empty (failures_forgotten x)
      ∙ sym (failures_changed (λ _. empty) x is)

  pub sessions_left : (t : ℕ) (x : Seat) → seat_of seats s ≡ Some x → sessions_in (changed s (without_member t) seats) ≡ insert (sessions_in seats) s (record (session_in x) { failures = remove (failures_in x.members) t })
  sessions_left t x is =
      sessions_changed (without_member t) x is
      ∙ put_failures x (failures_in (without_member t x).members) (remove (failures_in x.members) t) (failures_left x t)

  joined_in : (t : ℕ) (o : Option Seat) → option_map session_in (option_map (with_member t) o) ≡ option_map session_in o
  joined_in t None = refl
  joined_in t (Some x) = ap (λ (failures : FinMap nat_cmp ℕ). Some (record (session_in x) { failures = failures })) (failures_joined x t)

  -- a client that has come changes nothing for the model
  pub sessions_joined : (t : ℕ) → sessions_in (changed s (with_member t) seats) ≡ sessions_in seats
  sessions_joined t = alike _ _ (λ q. elim (same_or_other q s) [
    | inl here ↦
        ap (get (sessions_in (changed s (with_member t) seats))) here ∙ get_sessions (changed s (with_member t) seats) s
        ∙ ap (option_map session_in) (changed_at seats s (with_member t)) ∙ joined_in t (seat_of seats s)
        ∙ sym (get_sessions seats s) ∙ ap (get (sessions_in seats)) (sym here)
    | inr there ↦
        get_sessions (changed s (with_member t) seats) q ∙ ap (option_map session_in) (changed_other seats s (with_member t) q there)
        ∙ sym (get_sessions seats q)
  ])

  pub sessions_opened : (query quota : ℕ) → s < length seats → sessions_in (with_seat s query quota seats) ≡ insert (sessions_in seats) s (record { query = query; quota = quota; failures = empty })
  sessions_opened query quota within =
      put_at seats (with_seat s query quota seats) s (record { query = query; quota = quota; members = [] }) (opened_seat seats s query quota within) (opened_other seats s query quota)

  pub sessions_closed : sessions_in (without_seat s seats) ≡ remove (sessions_in seats) s
  sessions_closed = alike _ _ (λ q. elim (same_or_other q s) [
    | inl here ↦
        ap (get (sessions_in (without_seat s seats))) here ∙ get_sessions (without_seat s seats) s ∙ ap (option_map session_in) (closed_seat seats s)
        ∙ sym (removed_same (sessions_in seats) s) ∙ ap (get (remove (sessions_in seats) s)) (sym here)
    | inr there ↦
        get_sessions (without_seat s seats) q ∙ ap (option_map session_in) (closed_other seats s q there) ∙ sym (get_sessions seats q)
        ∙ sym (removed_other (sessions_in seats) s q there)
  ])
