-- How many numbers have no session.
use Rattle.std.proofs.Common.{◌≡◌, ◌↔◌, ℕ, zero, suc, ◌+◌, ◌<◌, ◌≤◌, Bool, true, false, if◌then◌else◌, Option, Some, None, IsSome, is_some, option_map, inl, inr, refl, sym, ap, ◌∙◌, subst, arith}
use Rattle.std.proofs.lemmas.Bool.{false≢true}
use Rattle.std.specs.FinMap.{get, insert}
use Rattle.reservation_tree.proofs.Maps.{get_same, get_other, same_or_other}
use Rattle.session_table.specs.Seats.{Seat, Seats, seat_of}
use Rattle.session_table.specs.Sessions.{session_in, sessions_in}
use Rattle.session_table.proofs.Found.{get_sessions}
use Rattle.pool_model.specs.State.{Session, Sessions}
use Rattle.pool.specs.Remaining.{vacancies}

-- the next number
abbrev one : Sessions → ℕ → ℕ
one sessions n = if is_some (get sessions n) then 0 else 1

more : (sessions : Sessions) (n : ℕ) → vacancies sessions (suc n) ≡ vacancies sessions n + one sessions n
unfolding vacancies
more sessions n = refl

nothing : (sessions : Sessions) → vacancies sessions zero ≡ 0
unfolding vacancies
nothing sessions = refl

pub at_most : (sessions : Sessions) (n : ℕ) → vacancies sessions n ≤ n
at_most sessions zero = let is = nothing sessions in omega (arith, is)
at_most sessions (suc n) =
    let rest = at_most sessions n in
    let is = more sessions n in
    let few : one sessions n ≤ 1 = elim (is_some (get sessions n)) as (λ b. (if b then 0 else 1) ≤ 1) [ true ↦ omega arith | false ↦ omega arith ] in
    omega (arith, rest, is, few)

-- where none is left each number below has a session
pub all_seated : (sessions : Sessions) (n : ℕ) → vacancies sessions n ≡ 0 → (m : ℕ) → m < n → IsSome (get sessions m)
all_seated sessions zero none m low = absurd (omega (arith, low))
all_seated sessions (suc n) none m low =
    let is = more sessions n in
    let rest : vacancies sessions n ≡ 0 = omega (arith, none, is) in
    let last : one sessions n ≡ 0 = omega (arith, none, is) in
    elim (same_or_other m n) [
      | inl here ↦ subst (λ (k : ℕ). IsSome (get sessions k)) (sym here) (taken (is_some (get sessions n)) last)
      | inr other ↦ all_seated sessions n rest m (omega (arith, low, other))
    ]
  where
    taken : (b : Bool) → ◌≡◌ {A = ℕ} (if b then 0 else 1) 0 → b ≡ true
    taken true none = refl
    taken false none = absurd (omega (arith, none))

-- where one is left some number has none
pub not_all : (sessions : Sessions) (n : ℕ) → 0 < vacancies sessions n → ((m : ℕ) → m < n → IsSome (get sessions m)) → ⊥
not_all sessions zero some all = let is = nothing sessions in omega (arith, some, is)
not_all sessions (suc n) some all =
    let is = more sessions n in
    let last : one sessions n ≡ 0 = ap (λ (b : Bool). if b then 0 else 1) (all n (omega arith)) in
    not_all sessions n (omega (arith, some, is, last)) (λ m low. all m (omega (arith, low)))

-- where no number has one all are left
pub none_seated : (sessions : Sessions) (n : ℕ) → ((m : ℕ) → get sessions m ≡ None) → vacancies sessions n ≡ n
none_seated sessions zero none = nothing sessions
none_seated sessions (suc n) none =
    let is = more sessions n in
    let rest = none_seated sessions n none in
    let last : one sessions n ≡ 1 = ap (λ (o : Option Session). if is_some o then 0 else 1) (none n) in
    omega (arith, is, rest, last)

-- a session comes
module _ (sessions : Sessions) (m : ℕ) (x : Session) where
  same_below : (n : ℕ) → n ≤ m → vacancies (insert sessions m x) n ≡ vacancies sessions n
  same_below zero low = nothing (insert sessions m x) ∙ sym (nothing sessions)
  same_below (suc n) low =
      let now = more (insert sessions m x) n in
      let was = more sessions n in
      let rest = same_below n (omega (arith, low)) in
      let last : one (insert sessions m x) n ≡ one sessions n = ap (λ (o : Option Session). if is_some o then 0 else 1) (get_other sessions m x n (λ is. omega (arith, is, low))) in
      omega (arith, now, was, rest, last)

  pub one_fewer : get sessions m ≡ None → (n : ℕ) → m < n → vacancies (insert sessions m x) n + 1 ≡ vacancies sessions n
  one_fewer none zero low = absurd (omega (arith, low))
  one_fewer none (suc n) low =
      let now = more (insert sessions m x) n in
      let was = more sessions n in
      elim (same_or_other n m) [
        | inl here ↦
            let rest = same_below n (omega (arith, here)) in
            let one_now : one (insert sessions m x) n ≡ 0 = ap (λ (k : ℕ). one (insert sessions m x) k) here ∙ ap (λ (o : Option Session). if is_some o then 0 else 1) (get_same sessions m x) in
            let one_was : one sessions n ≡ 1 = ap (one sessions) here ∙ ap (λ (o : Option Session). if is_some o then 0 else 1) none in
            omega (arith, now, was, rest, one_now, one_was)
        | inr other ↦
            let rest = one_fewer none n (omega (arith, low, other)) in
            let last : one (insert sessions m x) n ≡ one sessions n = ap (λ (o : Option Session). if is_some o then 0 else 1) (get_other sessions m x n other) in
            omega (arith, now, was, rest, last)
      ]

-- the numbers are counted one after the other
pub counted : (sessions : Sessions) (n k : ℕ) → k ≡ n + 1 → IsSome (get sessions n) → vacancies sessions k ≡ vacancies sessions n
counted sessions n k is there =
    let next = more sessions n in
    let last : one sessions n ≡ 0 = ap (λ (b : Bool). if b then 0 else 1) there in
    let same : k ≡ suc n = omega (arith, is) in
    ap (vacancies sessions) same ∙ omega (arith, next, last)

pub counted_vacant : (sessions : Sessions) (n k : ℕ) → k ≡ n + 1 → (IsSome (get sessions n) → ⊥) → vacancies sessions k ≡ vacancies sessions n + 1
counted_vacant sessions n k is none =
    let next = more sessions n in
    let last : one sessions n ≡ 1 = vacant (is_some (get sessions n)) none in
    let same : k ≡ suc n = omega (arith, is) in
    ap (vacancies sessions) same ∙ omega (arith, next, last)
  where
    vacant : (b : Bool) → (b ≡ true → ⊥) → ◌≡◌ {A = ℕ} (if b then 0 else 1) 1
    vacant true none = absurd (none refl)
    vacant false none = refl

-- whether a seat has a session
pub seat_session : (seats : Seats) (s : ℕ) → is_some (get (sessions_in seats) s) ≡ is_some (seat_of seats s)
seat_session seats s = ap is_some (get_sessions seats s) ∙ mapped (seat_of seats s)
  where
    mapped : (o : Option Seat) → is_some (option_map session_in o) ≡ is_some o
    mapped None = refl
    mapped (Some x) = refl

-- one more number was looked at
pub looked_vacant : (seats : Seats) (s count : ℕ) → (count ≡ vacancies (sessions_in seats) s) × (count ≤ s) → (seated : Bool) → (seated ≡ true) ↔ IsSome (seat_of seats s) → seated ≡ false
    → (count + 1 ≡ vacancies (sessions_in seats) (s + 1)) × (count + 1 ≤ s + 1)
looked_vacant seats s count was seated means is =
    let next = counted_vacant (sessions_in seats) s (s + 1) refl (λ there. false≢true (sym is ∙ means.1 (sym (seat_session seats s) ∙ there))) in
    let before = was.0 in
    let few = was.1 in
    (omega (arith, next, before), omega (arith, few))

pub looked_seated : (seats : Seats) (s count : ℕ) → (count ≡ vacancies (sessions_in seats) s) × (count ≤ s) → (seated : Bool) → (seated ≡ true) ↔ IsSome (seat_of seats s) → seated ≡ true
    → (count ≡ vacancies (sessions_in seats) (s + 1)) × (count ≤ s + 1)
looked_seated seats s count was seated means is =
    let next = counted (sessions_in seats) s (s + 1) refl (seat_session seats s ∙ means.0 is) in
    let before = was.0 in
    let few = was.1 in
    (omega (arith, next, before), omega (arith, few))

pub looked_none : (seats : Seats) → (0 ≡ vacancies (sessions_in seats) 0) × (0 ≤ 0)
looked_none seats = (sym (nothing (sessions_in seats)), omega arith)
