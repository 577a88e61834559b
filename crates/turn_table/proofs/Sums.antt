-- Sums over views, and lists of rights.
use Rattle.std.proofs.Common.{◌≡◌, ℕ, zero, suc, ◌+◌, ◌<◌, ◌≤◌, ◌≢◌, ◌⊎◌, inl, inr, ⊎_elim, Bool, true, false, cond, eqb, List, [], ◌∷◌, ◌++◌, length, set, sym, refl, ap, arith, eqb-true, eq-eqb, ne_eqb, Option, None, Some}
use mathlib.Core.Option.{some, some-injective, some-ne-none}
use lib.ListN.{get_elem?}
use Rattle.turn_table.specs.Lists.{total, same, times, without, left_of, handed, IsAmong}

module _ {A : Type 0} where
  -- one summand is exchanged
  pub total_set : (f : A → ℕ) (l : List A) (i : ℕ) (v w : A) → get_elem? l i ≡ some v → total f (set l i w) + f v ≡ total f l + f w
  total_set f [] i v w e = absurd (some-ne-none v (sym e))
  total_set f (x ∷ xs) zero v w e = let q : f x ≡ f v = ap f (some-injective x v e) in omega arith
  total_set f (x ∷ xs) (suc i) v w e = let r = total_set f xs i v w e in omega arith

  pub total_kept : (f : A → ℕ) (l : List A) (i : ℕ) (v w : A) → get_elem? l i ≡ some v → f v ≡ f w → total f (set l i w) ≡ total f l
  total_kept f l i v w e q = let r = total_set f l i v w e in omega arith

  pub total-append : (f : A → ℕ) (l m : List A) → total f (l ++ m) ≡ total f l + total f m
  total-append f [] m = omega arith
  total-append f (x ∷ xs) m = let r = total-append f xs m in omega arith

  pub total_snoc : (f : A → ℕ) (l : List A) (w : A) → total f (l ++ w ∷ []) ≡ total f l + f w
  total_snoc f l w = let r = total-append f l (w ∷ []) in omega arith

  pub one_of : (f : A → ℕ) (l : List A) (i : ℕ) (v : A) → get_elem? l i ≡ some v → f v ≤ total f l
  one_of f [] i v e = absurd (some-ne-none v (sym e))
  one_of f (x ∷ xs) zero v e = let q : f x ≡ f v = ap f (some-injective x v e) in omega arith
  one_of f (x ∷ xs) (suc i) v e = let r = one_of f xs i v e in omega arith

  pub two_of : (f : A → ℕ) (l : List A) (i j : ℕ) (v w : A) → i ≢ j → get_elem? l i ≡ some v → get_elem? l j ≡ some w → f v + f w ≤ total f l
  two_of f [] i j v w n e d = absurd (some-ne-none v (sym e))
  two_of f (x ∷ xs) zero zero v w n e d = absurd (n refl)
  two_of f (x ∷ xs) zero (suc j) v w n e d = let q : f x ≡ f v = ap f (some-injective x v e) in let r = one_of f xs j w d in omega arith
  two_of f (x ∷ xs) (suc i) zero v w n e d = let q : f x ≡ f w = ap f (some-injective x w d) in let r = one_of f xs i v e in omega arith
  two_of f (x ∷ xs) (suc i) (suc j) v w n e d = let r = two_of f xs i j v w (λ q. n (ap suc q)) e d in omega arith

  total_le : (f g : A → ℕ) (l : List A) → ((j : ℕ) (u : A) → get_elem? l j ≡ some u → f u ≤ g u) → total f l ≤ total g l
  total_le f g [] h = omega arith
  total_le f g (x ∷ xs) h = let r = total_le f g xs (λ j. h (suc j)) in let q = h zero x refl in omega arith

  -- where each summand of the one sum is at most that of the other, and falls short by k at one place, the sums differ by k at least
  pub gap : (f g : A → ℕ) (k : ℕ) (l : List A) (i : ℕ) (v : A) → ((j : ℕ) (u : A) → get_elem? l j ≡ some u → f u ≤ g u) → get_elem? l i ≡ some v → f v + k ≤ g v → total f l + k ≤ total g l
  gap f g k [] i v h e b = absurd (some-ne-none v (sym e))
  gap f g k (x ∷ xs) zero v h e b = let qf : f x ≡ f v = ap f (some-injective x v e) in let qg : g x ≡ g v = ap g (some-injective x v e) in
      let r = total_le f g xs (λ j. h (suc j)) in omega arith
  gap f g k (x ∷ xs) (suc i) v h e b = let q = h zero x refl in let r = gap f g k xs i v (λ j. h (suc j)) e b in omega arith

  nowhere : (f g : A → ℕ) (l : List A) → ((u : A) → g u ≡ 0 → f u ≡ 0) → total g l ≡ 0 → total f l ≡ 0
  nowhere f g [] h z = refl
  nowhere f g (x ∷ xs) h z = let q = h x (omega arith) in let r = nowhere f g xs h (omega arith) in omega arith

  -- where g counts v alone, and f is 0 wherever g is, f sums to what it is at v
  pub alone : (f g : A → ℕ) (l : List A) (i : ℕ) (v : A) → ((u : A) → g u ≡ 0 → f u ≡ 0) → total g l ≡ 1 → get_elem? l i ≡ some v → g v ≡ 1 → total f l ≡ f v
  alone f g [] i v h one e here = absurd (some-ne-none v (sym e))
  alone f g (x ∷ xs) zero v h one e here = let qf : f x ≡ f v = ap f (some-injective x v e) in let qg : g x ≡ g v = ap g (some-injective x v e) in
      let r = nowhere f g xs h (omega arith) in omega arith
  alone f g (x ∷ xs) (suc i) v h one e here = let p = one_of g xs i v e in let q = h x (omega arith) in let r = alone f g xs i v h (omega arith) e here in omega arith

  -- an element behind a list is there, or it is the last
  pub at_new : (l : List A) (w u : A) (j : ℕ) → get_elem? (l ++ w ∷ []) j ≡ some u → (get_elem? l j ≡ some u) ⊎ ((j ≡ length l) × (w ≡ u))
  at_new [] w u zero e = inr (refl, some-injective w u e)
  at_new [] w u (suc j) e = absurd (some-ne-none u (sym e))
  at_new (x ∷ xs) w u zero e = inl e
  at_new (x ∷ xs) w u (suc j) e = ⊎_elim (λ h. inl h) (λ h. inr (ap suc h.0, h.1)) (at_new xs w u j e)

pub same_self : (t : ℕ) → same t t ≡ 1
same_self t = ap (λ b. cond b 1 0) (eq-eqb t t refl)

pub same_is : (t u : ℕ) → t ≡ u → same t u ≡ 1
same_is t u e = ap (λ b. cond b 1 0) (eq-eqb t u e)

pub same_not : (t u : ℕ) → t ≢ u → same t u ≡ 0
same_not t u n = ap (λ b. cond b 1 0) (ne_eqb t u n)

-- taking one right out
without_at : (q r x : ℕ) (rest : List ℕ) (b : Bool) → eqb r x ≡ b → (b ≡ false → times q (without r rest) + same q r ≡ times q rest)
    → times q (cond b rest (x ∷ without r rest)) + same q r ≡ same q x + times q rest
without_at q r x rest true e more = let h : same q r ≡ same q x = ap (same q) (eqb-true r x e) in omega arith
without_at q r x rest false e more = let h = more refl in omega arith

times_without : (q r : ℕ) (rights : List ℕ) → 0 < times r rights → times q (without r rights) + same q r ≡ times q rights
times_without q r [] h = absurd (omega arith)
times_without q r (x ∷ rest) h = without_at q r x rest (eqb r x) refl (λ no. times_without q r rest (let z : same r x ≡ 0 = ap (λ b. cond b 1 0) no in omega arith))

-- what is left and what is handed out are the rights
pub parts : (right : Option ℕ) (rights : List ℕ) → IsAmong right rights → (q : ℕ) → times q (left_of right rights) + times q (handed right) ≡ times q rights
parts None rights h q = omega arith
parts (Some r) rights h q = let w = times_without q r rights h in omega arith
