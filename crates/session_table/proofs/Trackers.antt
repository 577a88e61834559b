-- The trackers of a session's clients after each change, and that none comes twice.
use Rattle.std.proofs.Common.{◌≡◌, ℕ, ◌+◌, ◌<◌, ◌≤◌, Bool, true, false, not, eqb, List, [], ◌∷◌, ◌++◌, map, length, filter, refl, ap, sym, ◌∙◌, subst, inl, inr, arith, None}
use Rattle.std.specs.List.{IsDistinct, AllByRecursion}
use Rattle.std.proofs.lemmas.Bool.{cases_Bool}
use Rattle.std.proofs.lemmas.List.{map-append, length-map, length-append}
use Rattle.std.proofs.lemmas.Map.Keys.{IsDistinct-push}
use Rattle.std.specs.Cmp.{nat_eq_equiv}
use Rattle.index_list.specs.Listing.{stands_in, others}
use Rattle.index_list.proofs.Places.{cut}
use Rattle.session_table.specs.declared.member.Member.{Member}
use Rattle.session_table.specs.Seats.{Seat, IsProper, trackers_of, noting, forgetting, with_member, without_member, noted, forgotten}

-- a client that has come is the last
pub joined_trackers : (x : Seat) (t : ℕ) → trackers_of (with_member t x).members ≡ trackers_of x.members ++ t ∷ []
joined_trackers x t = map-append (λ (m : Member). m.tracker) x.members (record { tracker = t; failed = None } ∷ [])

others_of : (members : List Member) (t : ℕ) → trackers_of (filter (λ m. not (eqb m.tracker t)) members) ≡ others t (trackers_of members)
others_of [] t = refl
others_of (m ∷ rest) t =
    let flip : eqb t m.tracker ≡ eqb m.tracker t = nat_eq_equiv.symm t m.tracker in
    elim (cases_Bool (eqb m.tracker t)) [
      | inl is ↦ rw (flip, is) (others_of rest t)
      | inr is ↦ rw (flip, is) (ap (λ (ts : List ℕ). m.tracker ∷ ts) (others_of rest t))
    ]

-- the others are left where a client has left
pub left_trackers : (x : Seat) (t : ℕ) → trackers_of (without_member t x).members ≡ others t (trackers_of x.members)
left_trackers x t = others_of x.members t

noting_tracker : (t entry : ℕ) (m : Member) → (noting t entry m).tracker ≡ m.tracker
noting_tracker t entry m = elim (cases_Bool (eqb m.tracker t)) [ inl is ↦ rw is refl | inr is ↦ rw is refl ]

noted_of : (members : List Member) (t entry : ℕ) → trackers_of (map (noting t entry) members) ≡ trackers_of members
noted_of [] t entry = refl
noted_of (m ∷ rest) t entry =
    ap (λ (q : ℕ). q ∷ trackers_of (map (noting t entry) rest)) (noting_tracker t entry m)
    ∙ ap (λ (ts : List ℕ). m.tracker ∷ ts) (noted_of rest t entry)

pub noted_trackers : (x : Seat) (t entry : ℕ) → trackers_of (noted t entry x).members ≡ trackers_of x.members
noted_trackers x t entry = noted_of x.members t entry

forgotten_of : (members : List Member) → trackers_of (map forgetting members) ≡ trackers_of members
forgotten_of [] = refl
forgotten_of (m ∷ rest) = ap (λ (ts : List ℕ). m.tracker ∷ ts) (forgotten_of rest)

pub forgotten_trackers : (x : Seat) → trackers_of (forgotten x).members ≡ trackers_of x.members
forgotten_trackers x = forgotten_of x.members

-- there are as many trackers as clients
pub trackers_length : (members : List Member) → length (trackers_of members) ≡ length members
trackers_length members = length-map members (λ (m : Member). m.tracker)

pub joined_length : (x : Seat) (t : ℕ) → length (with_member t x).members ≡ length x.members + 1
joined_length x t = length-append x.members (record { tracker = t; failed = None } ∷ [])

others_length : (t : ℕ) (ts : List ℕ) → IsDistinct eqb ts → stands_in t ts ≡ true → length (others t ts) + 1 ≡ length ts
others_length t ts distinct there =
    let parts = cut t ts distinct there in
    let was = ap length parts.was ∙ length-append parts.before (t ∷ parts.rest) in
    let left = ap length parts.left ∙ length-append parts.before parts.rest in
    omega arith

-- one client fewer, where it was there
pub left_length : (x : Seat) (t : ℕ) → IsDistinct eqb (trackers_of x.members) → stands_in t (trackers_of x.members) ≡ true → length (without_member t x).members + 1 ≡ length x.members
left_length x t distinct there =
    let one = others_length t (trackers_of x.members) distinct there in
    let left = ap length (left_trackers x t) in
    omega (arith, one, left, trackers_length x.members, trackers_length (without_member t x).members)

pub noted_length : (x : Seat) (t entry : ℕ) → length (noted t entry x).members ≡ length x.members
noted_length x t entry = length-map x.members (noting t entry)

pub forgotten_length : (x : Seat) → length (forgotten x).members ≡ length x.members
forgotten_length x = length-map x.members forgetting

all_left : (P : ℕ → Type 0) (test : ℕ → Bool) (ts : List ℕ) → AllByRecursion P ts → AllByRecursion P (filter test ts)
all_left P test [] all = tt
all_left P test (t ∷ ts) all = elim (cases_Bool (test t)) [
  | inl is ↦ rw is (all.0, all_left P test ts all.1)
  | inr is ↦ rw is (all_left P test ts all.1)
]

distinct_left : (test : ℕ → Bool) (ts : List ℕ) → IsDistinct eqb ts → IsDistinct eqb (filter test ts)
unfolding IsDistinct
distinct_left test [] distinct = tt
distinct_left test (t ∷ ts) distinct = elim (cases_Bool (test t)) [
  | inl is ↦ rw is (all_left (λ q. eqb t q ≡ false) test ts distinct.0, distinct_left test ts distinct.1)
  | inr is ↦ rw is (distinct_left test ts distinct.1)
]

fewer_left : (test : Member → Bool) (members : List Member) → length (filter test members) ≤ length members
fewer_left test [] = omega arith
fewer_left test (m ∷ rest) =
    let fewer = fewer_left test rest in
    elim (cases_Bool (test m)) [ inl is ↦ rw is (omega (arith, fewer)) | inr is ↦ rw is (omega (arith, fewer)) ]

-- each change leaves a session proper
pub proper_joined : (x : Seat) (t : ℕ) → IsProper x → length x.members < 16 → stands_in t (trackers_of x.members) ≡ false → IsProper (with_member t x)
proper_joined x t proper room apart = record {
  few = omega (arith, joined_length x t, room);
  distinct = subst (λ (ts : List ℕ). IsDistinct eqb ts) (sym (joined_trackers x t)) (IsDistinct-push nat_eq_equiv (trackers_of x.members) t proper.distinct apart);
}

pub proper_left : (x : Seat) (t : ℕ) → IsProper x → IsProper (without_member t x)
proper_left x t proper = record {
  few = omega (arith, fewer_left (λ m. not (eqb m.tracker t)) x.members, proper.few);
  distinct = subst (λ (ts : List ℕ). IsDistinct eqb ts) (sym (left_trackers x t)) (distinct_left (λ q. not (eqb t q)) (trackers_of x.members) proper.distinct);
}

pub proper_noted : (x : Seat) (t entry : ℕ) → IsProper x → IsProper (noted t entry x)
proper_noted x t entry proper = record {
  few = omega (arith, noted_length x t entry, proper.few);
  distinct = subst (λ (ts : List ℕ). IsDistinct eqb ts) (sym (noted_trackers x t entry)) proper.distinct;
}

pub proper_forgotten : (x : Seat) → IsProper x → IsProper (forgotten x)
proper_forgotten x proper = record {
  few = omega (arith, forgotten_length x, proper.few);
  distinct = subst (λ (ts : List ℕ). IsDistinct eqb ts) (sym (forgotten_trackers x)) proper.distinct;
}
