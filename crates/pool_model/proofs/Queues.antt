-- Lists of names: one comes to the end, or one goes.
use Rattle.std.proofs.Common.{◌≡◌, ◌≢◌, ℕ, ◌==◌, Bool, true, false, cond, not, ◌||◌, Option, IsSome, List, [], ◌∷◌, ◌++◌, refl, ap, sym, ◌∙◌, subst, eq-eqb, ne_eqb, eqb-true}
use Rattle.std.proofs.Math.Bool.{or_assoc}
use Rattle.std.specs.List.{AllByRecursion}
use Rattle.pool_model.specs.Parts.{without}
use Rattle.pool_model.specs.Orders.{IsBefore, InOrder, stands_in}

or_nothing : (b : Bool) → (b || false) ≡ b
or_nothing true = refl
or_nothing false = refl

or_true : (b : Bool) → (b || true) ≡ true
or_true true = refl
or_true false = refl

pub stands_last : (names : List ℕ) (p q : ℕ) → stands_in (names ++ p ∷ []) q ≡ (stands_in names q || (p == q))
stands_last [] p q = or_nothing (p == q)
stands_last (n ∷ names) p q = ap (λ b. (n == q) || b) (stands_last names p q) ∙ sym (or_assoc (n == q) (stands_in names q) (p == q))

pub stands_gone : (names : List ℕ) (p : ℕ) → stands_in (without p names) p ≡ false
stands_gone [] p = refl
stands_gone (n ∷ names) p = elim (n == p) as (λ b. n == p ≡ b → stands_in (cond (not b) (n ∷ without p names) (without p names)) p ≡ false) [
  | true ↦ λ is. stands_gone names p
  | false ↦ λ is. ap (λ b. b || stands_in (without p names) p) is ∙ stands_gone names p
] refl

pub stands_other : (names : List ℕ) (p q : ℕ) → q ≢ p → stands_in (without p names) q ≡ stands_in names q
stands_other [] p q apart = refl
stands_other (n ∷ names) p q apart = elim (n == p) as (λ b. n == p ≡ b → stands_in (cond (not b) (n ∷ without p names) (without p names)) q ≡ ((n == q) || stands_in names q)) [
  | true ↦ λ is. stands_other names p q apart ∙ sym (ap (λ b. b || stands_in names q) (ne_eqb n q (λ same. apart (sym same ∙ eqb-true n p is))))
  | false ↦ λ is. ap (λ b. (n == q) || b) (stands_other names p q apart)
] refl

-- what holds of each holds of those that are left
each_left : (P : ℕ → Type 0) (names : List ℕ) (p : ℕ) → AllByRecursion P names → AllByRecursion P (without p names)
each_left P [] p all = tt
each_left P (n ∷ names) p all = elim (n == p) as (λ b. AllByRecursion P (cond (not b) (n ∷ without p names) (without p names))) [
  | true ↦ each_left P names p all.1
  | false ↦ (all.0, each_left P names p all.1)
]

pub order_left : (time : ℕ → Option ℕ) (names : List ℕ) (p : ℕ) → InOrder time names → InOrder time (without p names)
order_left time [] p order = tt
order_left time (n ∷ names) p order = elim (n == p) as (λ b. InOrder time (cond (not b) (n ∷ without p names) (without p names))) [
  | true ↦ order_left time names p order.2
  | false ↦ (order.0, each_left (λ q. IsBefore (time n) (time q)) names p order.1, order_left time names p order.2)
]

first_stands : (n : ℕ) (names : List ℕ) → stands_in (n ∷ names) n ≡ true
first_stands n names = ap (λ b. b || stands_in names n) (eq-eqb n n refl)

later_stands : (n q : ℕ) (names : List ℕ) → stands_in names q ≡ true → stands_in (n ∷ names) q ≡ true
later_stands n q names is = ap (λ b. (n == q) || b) is ∙ or_true (n == q)

-- what holds of each that stands in the list
pub each_one : (P : ℕ → Type 0) (names : List ℕ) → ((q : ℕ) → stands_in names q ≡ true → P q) → AllByRecursion P names
each_one P [] all = tt
each_one P (n ∷ names) all = (all n (first_stands n names), each_one P names (λ q is. all q (later_stands n q names is)))

each_same : (P Q : ℕ → Type 0) (names : List ℕ) → ((q : ℕ) → stands_in names q ≡ true → P q → Q q) → AllByRecursion P names → AllByRecursion Q names
each_same P Q [] same all = tt
each_same P Q (n ∷ names) same all = (same n (first_stands n names) all.0, each_same P Q names (λ q is. same q (later_stands n q names is)) all.1)

-- other times that agree on the list
pub order_same : (old new : ℕ → Option ℕ) (names : List ℕ) → ((q : ℕ) → stands_in names q ≡ true → new q ≡ old q) → InOrder old names → InOrder new names
order_same old new [] same order = tt
order_same old new (n ∷ names) same order =
    let here : new n ≡ old n = same n (first_stands n names) in (
      subst IsSome (sym here) order.0,
      each_same (λ q. IsBefore (old n) (old q)) (λ q. IsBefore (new n) (new q)) names
          (λ q is before. subst (λ (o : Option ℕ). IsBefore o (new q)) (sym here) (subst (λ (o : Option ℕ). IsBefore (old n) o) (sym (same q (later_stands n q names is))) before)) order.1,
      order_same old new names (λ q is. same q (later_stands n q names is)) order.2,
    )

each_last : (P : ℕ → Type 0) (names : List ℕ) (p : ℕ) → AllByRecursion P names → P p → AllByRecursion P (names ++ p ∷ [])
each_last P [] p all last = (last, tt)
each_last P (n ∷ names) p all last = (all.0, each_last P names p all.1 last)

-- one that is behind all others
pub order_last : (time : ℕ → Option ℕ) (names : List ℕ) (p : ℕ) → InOrder time names → IsSome (time p) → ((q : ℕ) → stands_in names q ≡ true → IsBefore (time q) (time p)) → InOrder time (names ++ p ∷ [])
order_last time [] p order has last = (has, tt, tt)
order_last time (n ∷ names) p order has last = (
  order.0,
  each_last (λ q. IsBefore (time n) (time q)) names p order.1 (last n (first_stands n names)),
  order_last time names p order.2 has (λ q is. last q (later_stands n q names is)),
)

-- what stands in an ordered list has a time
pub has_time : (time : ℕ → Option ℕ) (names : List ℕ) → InOrder time names → (q : ℕ) → stands_in names q ≡ true → IsSome (time q)
has_time time [] order q is = let none : false ≡ true = is in cc
has_time time (n ∷ names) order q is = elim (n == q) as (λ b. n == q ≡ b → (b || stands_in names q) ≡ true → IsSome (time q)) [
  | true ↦ λ here there. subst (λ (r : ℕ). IsSome (time r)) (eqb-true n q here) order.0
  | false ↦ λ away there. has_time time names order.2 q there
] refl is

pub stands_new : (names : List ℕ) (p : ℕ) → stands_in (names ++ p ∷ []) p ≡ true
stands_new names p = stands_last names p p ∙ ap (λ b. stands_in names p || b) (eq-eqb p p refl) ∙ or_true (stands_in names p)

pub stands_old : (names : List ℕ) (p q : ℕ) → q ≢ p → stands_in (names ++ p ∷ []) q ≡ stands_in names q
stands_old names p q apart = stands_last names p q ∙ ap (λ b. stands_in names q || b) (ne_eqb p q (λ same. apart (sym same))) ∙ or_nothing (stands_in names q)
