-- Each move keeps the balance of a queue.
use Rattle.std.proofs.Common.{◌≡◌, ◌≢◌, ℕ, zero, suc, ◌+◌, ◌-◌, ◌<◌, ◌≤◌, List, [], ◌∷◌, ◌++◌, length, set, sum_by, sym, refl, ap, ◌∙◌, ⊎_elim, arith}
use Rattle.std.proofs.lemmas.List.Sums.{sum_by-append, sum_by-cons, sum_by_push}
use Rattle.std.proofs.lemmas.List.Elements.{All-push}
use mathlib.Core.Option.{some, some-injective, some-ne-none}
use lib.ListN.{get_elem?}
use Rattle.crossbeam_queue.specs.Fifo.{Pushes, Pops, Forks, Merges, Learns}
use Rattle.crossbeam_queue.proofs.Lists.{at_set, at_snoc}
use Rattle.fragments.specs.declared.rule.Tally.{Tally}
use Rattle.fragments.specs.Balance.{Balanced, IdleIsEmpty, IsFair, IsEven, Leaves, tally, has_put, has_taken}

-- a sum after a change at one place
pub sum_set : {V : Type 0} (f : V → ℕ) (xs : List V) (port : ℕ) (v w : V) → get_elem? xs port ≡ some v → sum_by f (set xs port w) + f v ≡ sum_by f xs + f w
sum_set f [] port v w at = absurd (some-ne-none v (sym at))
sum_set f (x ∷ xs) zero v w at = let same : f x ≡ f v = ap f (some-injective x v at) in omega (arith, sum_by-cons f x xs, sum_by-cons f w xs)
sum_set f (x ∷ xs) (suc port) v w at = let rest = sum_set f xs port v w at in omega (arith, sum_by-cons f x xs, sum_by-cons f x (set xs port w))

-- no place has more than the sum
pub part_of_sum : {V : Type 0} (f : V → ℕ) (xs : List V) (port : ℕ) (v : V) → get_elem? xs port ≡ some v → f v ≤ sum_by f xs
part_of_sum f [] port v at = absurd (some-ne-none v (sym at))
part_of_sum f (x ∷ xs) zero v at = let same : f x ≡ f v = ap f (some-injective x v at) in omega (arith, sum_by-cons f x xs)
part_of_sum f (x ∷ xs) (suc port) v at = let rest = part_of_sum f xs port v at in omega (arith, sum_by-cons f x xs)

-- what is 0 at each place adds up to 0
pub sum_none : {V : Type 0} (f : V → ℕ) (xs : List V) → ((port : ℕ) (v : V) → get_elem? xs port ≡ some v → f v ≡ 0) → sum_by f xs ≡ 0
sum_none f [] none = refl
sum_none f (x ∷ xs) none = let here = none 0 x refl in let rest = sum_none f xs (λ port v at. none (suc port) v at) in omega (arith, sum_by-cons f x xs)

-- where f is all of its sum at one place, and g is 0 wherever f is, so is g
pub sum_alone : {V : Type 0} (f g : V → ℕ) (xs : List V) (port : ℕ) (v : V) → get_elem? xs port ≡ some v → f v ≡ sum_by f xs
    → ((port : ℕ) (u : V) → get_elem? xs port ≡ some u → f u ≡ 0 → g u ≡ 0) → sum_by g xs ≡ g v
sum_alone f g [] port v at all none = absurd (some-ne-none v (sym at))
sum_alone f g (x ∷ xs) zero v at all none =
    let same : f x ≡ f v = ap f (some-injective x v at) in
    let here : g x ≡ g v = ap g (some-injective x v at) in
    let none_left : sum_by f xs ≡ 0 = omega (arith, sum_by-cons f x xs) in
    let rest = sum_none g xs (λ p u at'. none (suc p) u at' (let most = part_of_sum f xs p u at' in omega arith)) in
    omega (arith, sum_by-cons g x xs)
sum_alone f g (x ∷ xs) (suc port) v at all none =
    let most = part_of_sum f xs port v at in
    let none_here : f x ≡ 0 = omega (arith, sum_by-cons f x xs) in
    let here = none 0 x refl none_here in
    let all' : f v ≡ sum_by f xs = omega (arith, sum_by-cons f x xs) in
    let rest = sum_alone f g xs port v at all' (λ p u at'. none (suc p) u at') in
    omega (arith, sum_by-cons g x xs)

module _ {T : Type 0} where
  idle_set : (views : List (Tally T)) (port : ℕ) (w : Tally T) → (w.parts ≡ 0 → (w.put ≡ []) × (w.taken ≡ [])) → IdleIsEmpty views → IdleIsEmpty (set views port w)
  idle_set views port w mine others j u at none = ⊎_elim
      (λ (x : (j ≡ port) × (w ≡ u)). let same = x.1 in let empty = mine (ap (λ (y : Tally T). y.parts) same ∙ none) in (ap (λ (y : Tally T). y.put) (sym same) ∙ empty.0, ap (λ (y : Tally T). y.taken) (sym same) ∙ empty.1))
      (λ (x : (j ≢ port) × (get_elem? views j ≡ some u)). others j u x.1 none) (at_set views port j w u at)

  idle_snoc : (views : List (Tally T)) (w : Tally T) → (w.parts ≡ 0 → (w.put ≡ []) × (w.taken ≡ [])) → IdleIsEmpty views → IdleIsEmpty (views ++ w ∷ [])
  idle_snoc views w mine others j u at none = ⊎_elim
      (λ (x : get_elem? views j ≡ some u). others j u x none)
      (λ (same : w ≡ u). let empty = mine (ap (λ (y : Tally T). y.parts) same ∙ none) in (ap (λ (y : Tally T). y.put) (sym same) ∙ empty.0, ap (λ (y : Tally T). y.taken) (sym same) ∙ empty.1)) (at_snoc views w u j at)

  idle_first : (w : Tally T) → 0 < w.parts → IdleIsEmpty (w ∷ [])
  idle_first w some_part zero u at none = let same : w.parts ≡ u.parts = ap (λ (y : Tally T). y.parts) (some-injective w u at) in absurd (omega arith)
  idle_first w some_part (suc j) u at none = absurd (some-ne-none u (sym at))

  pub begins : Balanced {T = T} [] (tally 1024 [] [] ∷ [])
  begins = let w : Tally T = tally 1024 [] [] in (refl, (λ (h : T → ℕ). refl), idle_first w (omega arith))

  pub puts : (n port : ℕ) (v : Tally T) (x : T) → 0 < v.parts → Pushes Balanced n port v x (λ w. w ≡ tally v.parts (v.put ++ x ∷ []) v.taken)
  puts n port v x some_part items views room b at =
      let w = tally v.parts (v.put ++ x ∷ []) v.taken in (
        w,
        (
          (let s = sum_set (λ (u : Tally T). u.parts) views port v w at in let p = b.0 in omega arith),
          (λ h.
              let s = sum_set (λ (u : Tally T). sum_by h u.put) views port v w at in
              let t = sum_set (λ (u : Tally T). sum_by h u.taken) views port v w at in
              let p = b.1 h in
              omega (arith, sum_by_push h v.put x, sum_by_push h items x)),
          idle_set views port w (λ none. absurd (omega arith)) b.2,
        ),
        refl,
      )

  pub takes : (port : ℕ) (v : Tally T) → 0 < v.parts → Pops Balanced port v (λ x w. w ≡ tally v.parts v.put (v.taken ++ x ∷ []))
  takes port v some_part x items views b at =
      let w = tally v.parts v.put (v.taken ++ x ∷ []) in (
        w,
        (
          (let s = sum_set (λ (u : Tally T). u.parts) views port v w at in let p = b.0 in omega arith),
          (λ h.
              let s = sum_set (λ (u : Tally T). sum_by h u.put) views port v w at in
              let t = sum_set (λ (u : Tally T). sum_by h u.taken) views port v w at in
              let p = b.1 h in
              omega (arith, sum_by_push h v.taken x, sum_by-cons h x items)),
          idle_set views port w (λ none. absurd (omega arith)) b.2,
        ),
        refl,
      )

  pub forks : (port : ℕ) (v : Tally T) → 1 < v.parts → Forks Balanced port v (tally (v.parts - 1) v.put v.taken) (tally 1 [] [])
  forks port v some_part items views b at =
      let w = tally (v.parts - 1) v.put v.taken in
      let new : Tally T = tally 1 [] [] in (
        (let s = sum_set (λ (u : Tally T). u.parts) views port v w at in let p = b.0 in omega (arith, sum_by_push (λ (u : Tally T). u.parts) (set views port w) new)),
        (λ h.
            let s = sum_set (λ (u : Tally T). sum_by h u.put) views port v w at in
            let t = sum_set (λ (u : Tally T). sum_by h u.taken) views port v w at in
            let p = b.1 h in
            omega (arith, sum_by_push (λ (u : Tally T). sum_by h u.put) (set views port w) new, sum_by_push (λ (u : Tally T). sum_by h u.taken) (set views port w) new)),
        idle_snoc (set views port w) new (λ none. absurd (omega arith)) (idle_set views port w (λ none. absurd (omega arith)) b.2),
      )

  pub merges : (port : ℕ) (v : Tally T) (other : ℕ) (u : Tally T) → 0 < v.parts → Merges Balanced port v other u (tally (v.parts + u.parts) (v.put ++ u.put) (v.taken ++ u.taken)) (tally 0 [] [])
  merges port v other u some_part items views b at apart at' =
      let both = tally (v.parts + u.parts) (v.put ++ u.put) (v.taken ++ u.taken) in
      let spent : Tally T = tally 0 [] [] in
      let now = set views port both in (
        (let s = sum_set (λ (y : Tally T). y.parts) views port v both at in let t = sum_set (λ (y : Tally T). y.parts) now other u spent at' in let p = b.0 in omega arith),
        (λ h.
            let s = sum_set (λ (y : Tally T). sum_by h y.put) views port v both at in
            let s' = sum_set (λ (y : Tally T). sum_by h y.put) now other u spent at' in
            let t = sum_set (λ (y : Tally T). sum_by h y.taken) views port v both at in
            let t' = sum_set (λ (y : Tally T). sum_by h y.taken) now other u spent at' in
            let p = b.1 h in
            omega (arith, sum_by-append h v.put u.put, sum_by-append h v.taken u.taken)),
        idle_set now other spent (λ none. (refl, refl)) (idle_set views port both (λ none. absurd (omega arith)) b.2),
      )

  pub learns : (port : ℕ) (v : Tally T) → Learns Balanced port v (Leaves v)
  learns port v items views b at all h =
      let parts : v.parts ≡ sum_by (λ (u : Tally T). u.parts) views = all ∙ sym b.0 in
      let put = sum_alone (λ (u : Tally T). u.parts) (λ (u : Tally T). sum_by h u.put) views port v at parts (λ p u at' none. ap (sum_by h) (b.2 p u at' none).0) in
      let taken = sum_alone (λ (u : Tally T). u.parts) (λ (u : Tally T). sum_by h u.taken) views port v at parts (λ p u at' none. ap (sum_by h) (b.2 p u at' none).1) in
      let p = b.1 h in
      omega arith

  -- the same of a queue that admits some items alone
  module _ (admits : T → Type 0) where
    pub begins_fair : IsFair admits [] (tally 1024 [] [] ∷ [])
    begins_fair = (begins, λ k d below. absurd (omega arith))

    pub puts_fair : (n port : ℕ) (v : Tally T) (x : T) → 0 < v.parts → admits x → Pushes (IsFair admits) n port v x (λ w. w ≡ has_put v x)
    puts_fair n port v x some_part may items views room b at = let w = puts n port v x some_part items views room b.0 at in (w.0, (w.1, All-push admits items x b.1 may), w.2)

    pub takes_fair : (port : ℕ) (v : Tally T) → 0 < v.parts → Pops (IsFair admits) port v (λ x w. (w ≡ has_taken v x) × admits x)
    takes_fair port v some_part x items views b at = let w = takes port v some_part x items views b.0 at in (w.0, (w.1, λ k d below. b.1 (suc k) d (omega arith)), (w.2, b.1 0 x (omega arith)))

    pub forks_fair : (port : ℕ) (v : Tally T) → 1 < v.parts → Forks (IsFair admits) port v (tally (v.parts - 1) v.put v.taken) (tally 1 [] [])
    forks_fair port v some_part items views b at = (forks port v some_part items views b.0 at, b.1)

    pub merges_fair : (port : ℕ) (v : Tally T) (other : ℕ) (u : Tally T) → 0 < v.parts → Merges (IsFair admits) port v other u (tally (v.parts + u.parts) (v.put ++ u.put) (v.taken ++ u.taken)) (tally 0 [] [])
    merges_fair port v other u some_part items views b at apart at' = (merges port v other u some_part items views b.0 at apart at', b.1)

    pub learns_fair : (port : ℕ) (v : Tally T) → Learns (IsFair admits) port v (Leaves v)
    learns_fair port v items views b at = learns port v items views b.0 at

  -- what is learned of an empty queue
  pub even : (v : Tally T) (items : List T) → length items ≡ 0 → Leaves v items → v.parts ≡ 1024 → IsEven v
  even v [] none leaves all h = let same = leaves all h in omega arith
  even v (x ∷ items) none leaves all h = absurd (omega arith)
