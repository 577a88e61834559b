-- Whether the sessions of an ask are refused, one after the other.
use Rattle.std.proofs.Common.{◌≡◌, ℕ, zero, suc, ◌-◌, ◌<◌, ◌≤◌, Bool, true, false, if◌then◌else◌, Option, Some, None, is_some, inl, inr, refl, sym, ap, ◌∙◌, arith, eq-eqb, ne_eqb, nat_lt}
use Rattle.std.proofs.lemmas.Bool.{cases_lt, le-ltb, lt-ltb}
use Rattle.reservation_tree.specs.declared.errors.PoolErr.{PoolErr}
use Rattle.reservation_tree.specs.declared.errors.PoolErr.TheVariants.{NoReservation, TooManyTrackers}
use Rattle.pool.specs.declared.ask.Ask.{Ask}
use Rattle.pool.specs.declared.left.Left.{Left}
use Rattle.pool.specs.Remaining.{first_refusal, less, refusal_of}

module _ (ask : Ask) (left : Left) where
  abbrev by_tests : Bool → Bool → Bool → Option PoolErr
  by_tests full own root =
      if full then Some (TooManyTrackers 240)
      else (if own then Some (NoReservation 4294967295 ask.least ask.limit)
      else (if root then Some (NoReservation 0 ask.least left.bytes) else None))

  none_left : left.numbers ≡ 0 → refusal_of ask left ≡ Some (TooManyTrackers 240)
  none_left full = ap (λ (t : Bool). by_tests t (nat_lt ask.limit ask.least) (nat_lt left.bytes ask.least)) (eq-eqb left.numbers 0 full)

  one_left : 0 < left.numbers → refusal_of ask left ≡ by_tests false (nat_lt ask.limit ask.least) (nat_lt left.bytes ask.least)
  one_left some = ap (λ (t : Bool). by_tests t (nat_lt ask.limit ask.least) (nat_lt left.bytes ask.least)) (ne_eqb left.numbers 0 (λ none. omega (arith, none, some)))

  own_less : 0 < left.numbers → ask.limit < ask.least → refusal_of ask left ≡ Some (NoReservation 4294967295 ask.least ask.limit)
  own_less some own = one_left some ∙ ap (λ (t : Bool). by_tests false t (nat_lt left.bytes ask.least)) (lt-ltb ask.limit ask.least own)

  own_enough : 0 < left.numbers → ask.least ≤ ask.limit → refusal_of ask left ≡ by_tests false false (nat_lt left.bytes ask.least)
  own_enough some own = one_left some ∙ ap (λ (t : Bool). by_tests false t (nat_lt left.bytes ask.least)) (le-ltb ask.limit ask.least own)

  root_less : 0 < left.numbers → ask.least ≤ ask.limit → left.bytes < ask.least → refusal_of ask left ≡ Some (NoReservation 0 ask.least left.bytes)
  root_less some own root = own_enough some own ∙ ap (λ (t : Bool). by_tests false false t) (lt-ltb left.bytes ask.least root)

  all_enough : 0 < left.numbers → ask.least ≤ ask.limit → ask.least ≤ left.bytes → refusal_of ask left ≡ None
  all_enough some own root = own_enough some own ∙ ap (λ (t : Bool). by_tests false false t) (le-ltb left.bytes ask.least root)

  first_of : (n : ℕ) → 0 < n → (r : Option PoolErr) → refusal_of ask left ≡ r → is_some r ≡ true → first_refusal n ask left ≡ r
  first_of zero some r is there = absurd (omega (arith, some))
  first_of (suc n) some r is there =
      ap (λ (o : Option PoolErr). if is_some o then o else first_refusal n ask (less ask left)) is
      ∙ ap (λ (t : Bool). if t then r else first_refusal n ask (less ask left)) there

  pub full : (n : ℕ) → 0 < n → left.numbers ≡ 0 → first_refusal n ask left ≡ Some (TooManyTrackers 240)
  full n some none = first_of n some (Some (TooManyTrackers 240)) (none_left none) refl

  pub own : (n : ℕ) → 0 < n → 0 < left.numbers → ask.limit < ask.least → first_refusal n ask left ≡ Some (NoReservation 4294967295 ask.least ask.limit)
  own n some one less_than = first_of n some (Some (NoReservation 4294967295 ask.least ask.limit)) (own_less one less_than) refl

  pub root : (n : ℕ) → 0 < n → 0 < left.numbers → ask.least ≤ ask.limit → left.bytes < ask.least → first_refusal n ask left ≡ Some (NoReservation 0 ask.least left.bytes)
  root n some one fits less_than = first_of n some (Some (NoReservation 0 ask.least left.bytes)) (root_less one fits less_than) refl

  pub later : (n : ℕ) → refusal_of ask left ≡ None → first_refusal (suc n) ask left ≡ first_refusal n ask (less ask left)
  later n none = ap (λ (o : Option PoolErr). if is_some o then o else first_refusal n ask (less ask left)) none

  pub goes_on : (n k : ℕ) → n ≡ suc k → 0 < left.numbers → ask.least ≤ ask.limit → ask.least ≤ left.bytes → first_refusal n ask left ≡ first_refusal k ask (less ask left)
  goes_on n k is some fits enough = ap (λ (m : ℕ). first_refusal m ask left) is ∙ later k (all_enough some fits enough)

  -- nothing is against the first of them, and nothing against the others behind it
  pub record Granted (n : ℕ) : Type 0 where
    pub some : 0 < left.numbers
    pub own : ask.least ≤ ask.limit
    pub root : ask.least ≤ left.bytes
    pub rest : first_refusal n ask (less ask left) ≡ None

  some_none : (e : PoolErr) → Some e ≡ None → ⊥
  some_none e is = cc

  pub granted : (n : ℕ) → first_refusal (suc n) ask left ≡ None → Granted n
  granted n none = elim (cases_lt 0 left.numbers) [
    | inr no_one ↦ absurd (some_none _ (sym (full (suc n) (omega arith) (omega (arith, no_one))) ∙ none))
    | inl some ↦ elim (cases_lt ask.limit ask.least) [
      | inl few ↦ absurd (some_none _ (sym (own (suc n) (omega arith) some few) ∙ none))
      | inr fits ↦ elim (cases_lt left.bytes ask.least) [
        | inl few ↦ absurd (some_none _ (sym (root (suc n) (omega arith) some fits few) ∙ none))
        | inr enough ↦ record { some = some; own = fits; root = enough; rest = sym (later n (all_enough some fits enough)) ∙ none }
      ]
    ]
  ]

-- as many numbers are left as sessions are granted
pub few_granted : (n : ℕ) (ask : Ask) (left : Left) → first_refusal n ask left ≡ None → n ≤ left.numbers
few_granted zero ask left none = omega arith
few_granted (suc n) ask left none =
    let one : Granted ask left n = granted ask left n none in
    let rest : n ≤ left.numbers - 1 = few_granted n ask (less ask left) one.rest in
    let some = one.some in
    omega (arith, rest, some)
