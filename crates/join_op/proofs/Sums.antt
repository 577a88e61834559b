-- Sums of what the elements of lists count.
use Rattle.std.proofs.Common.{◌≡◌, ◌≢◌, ℕ, zero, suc, ◌+◌, ◌<◌, ◌≤◌, ◌==◌, Bool, true, false, cond, List, [], ◌∷◌, ◌⊎◌, inl, inr, refl, ap, ap₂, sym, ◌∙◌, arith}
use Rattle.std.specs.Prelude.{filter, flat_map, map}
use Rattle.std.specs.List.{range_with_len, sum_by}
use Rattle.std.proofs.lemmas.Bool.{ne_eqb}
use Rattle.std.proofs.lemmas.Bool.Decides.{eqb_tells}
use Rattle.std.proofs.lemmas.List.Sums.{sum_by-append, sum_by-cons}

-- a number where something is so, else nothing
abbrev pub when : Bool → ℕ → ℕ
when b n = cond b n 0

lt_apart : (p a : ℕ) → p < a → p ≡ a → ⊥
lt_apart p a below is = omega (arith, below, is)

behind_of : (p a : ℕ) → a ≤ p → p ≢ a → a + 1 ≤ p
behind_of p a low other = omega (arith, low, other)

pub sum_alike : {X : Type 0} (f g : X → ℕ) (xs : List X) → ((x : X) → f x ≡ g x) → sum_by f xs ≡ sum_by g xs
sum_alike f g [] same = refl
sum_alike f g (x ∷ xs) same = sum_by-cons f x xs ∙ ap₂ (λ (a b : ℕ). a + b) (same x) (sum_alike f g xs same) ∙ sym (sum_by-cons g x xs)

pub sum_map : {X Y : Type 0} (f : Y → ℕ) (g : X → Y) (xs : List X) → sum_by f (map g xs) ≡ sum_by (λ x. f (g x)) xs
sum_map f g [] = refl
sum_map f g (x ∷ xs) = sum_by-cons f (g x) (map g xs) ∙ ap (λ (n : ℕ). f (g x) + n) (sum_map f g xs) ∙ sym (sum_by-cons (λ y. f (g y)) x xs)

pub sum_flat : {X Y : Type 0} (f : Y → ℕ) (g : X → List Y) (xs : List X) → sum_by f (flat_map g xs) ≡ sum_by (λ x. sum_by f (g x)) xs
sum_flat f g [] = refl
sum_flat f g (x ∷ xs) =
    sum_by-append f (g x) (flat_map g xs)
    ∙ ap (λ (n : ℕ). sum_by f (g x) + n) (sum_flat f g xs)
    ∙ sym (sum_by-cons (λ y. sum_by f (g y)) x xs)

sum_cond : {X : Type 0} (f : X → ℕ) (x : X) (xs : List X) (b : Bool) → sum_by f (cond b (x ∷ xs) xs) ≡ cond b (f x) 0 + sum_by f xs
sum_cond f x xs true = sum_by-cons f x xs
sum_cond f x xs false = omega arith

pub sum_filter : {X : Type 0} (f : X → ℕ) (p : X → Bool) (xs : List X) → sum_by f (filter p xs) ≡ sum_by (λ x. cond (p x) (f x) 0) xs
sum_filter f p [] = refl
sum_filter f p (x ∷ xs) =
    sum_cond f x (filter p xs) (p x)
    ∙ ap (λ (n : ℕ). cond (p x) (f x) 0 + n) (sum_filter f p xs)
    ∙ sym (sum_by-cons (λ y. cond (p y) (f y) 0) x xs)

pub sum_zero : {X : Type 0} (xs : List X) → sum_by (λ x. 0) xs ≡ 0
sum_zero [] = refl
sum_zero {X} (x ∷ xs) = let head : sum_by (λ (y : X). 0) (x ∷ xs) ≡ 0 + sum_by (λ y. 0) xs = sum_by-cons (λ y. 0) x xs in let rest : sum_by (λ (y : X). 0) xs ≡ 0 = sum_zero xs in omega (arith, head, rest)

pub sum_plus : {X : Type 0} (f g : X → ℕ) (xs : List X) → sum_by (λ x. f x + g x) xs ≡ sum_by f xs + sum_by g xs
sum_plus f g [] = refl
sum_plus f g (x ∷ xs) =
    let both : sum_by (λ y. f y + g y) (x ∷ xs) ≡ (f x + g x) + sum_by (λ y. f y + g y) xs = sum_by-cons (λ y. f y + g y) x xs in
    let one : sum_by f (x ∷ xs) ≡ f x + sum_by f xs = sum_by-cons f x xs in
    let other : sum_by g (x ∷ xs) ≡ g x + sum_by g xs = sum_by-cons g x xs in
    let rest : sum_by (λ y. f y + g y) xs ≡ sum_by f xs + sum_by g xs = sum_plus f g xs in
    omega (arith, both, one, other, rest)

-- a sum of sums may be taken the other way round
pub sum_turned : {X Y : Type 0} (w : X → Y → ℕ) (xs : List X) (ys : List Y) → sum_by (λ x. sum_by (w x) ys) xs ≡ sum_by (λ y. sum_by (λ x. w x y) xs) ys
sum_turned w [] ys = sym (sum_zero ys)
sum_turned w (x ∷ xs) ys =
    sum_by-cons (λ z. sum_by (w z) ys) x xs
    ∙ ap (λ (n : ℕ). sum_by (w x) ys + n) (sum_turned w xs ys)
    ∙ sym (sum_plus (w x) (λ y. sum_by (λ z. w z y) xs) ys)
    ∙ sum_alike (λ y. w x y + sum_by (λ z. w z y) xs) (λ y. sum_by (λ z. w z y) (x ∷ xs)) ys (λ y. sym (sum_by-cons (λ z. w z y) x xs))

-- of a range of numbers one counts, where it is in it
none_above : (p a n v : ℕ) → p < a → sum_by (λ i. cond (p == i) v 0) (range_with_len a n) ≡ 0
none_above p a zero v below = refl
none_above p a (suc n) v below =
    let head : sum_by (λ i. cond (p == i) v 0) (a ∷ range_with_len (a + 1) n) ≡ cond (p == a) v 0 + sum_by (λ i. cond (p == i) v 0) (range_with_len (a + 1) n) = sum_by-cons (λ i. cond (p == i) v 0) a (range_with_len (a + 1) n) in
    let rest : sum_by (λ i. cond (p == i) v 0) (range_with_len (a + 1) n) ≡ 0 = none_above p (a + 1) n v (omega (arith, below)) in
    let none : cond (p == a) v 0 ≡ 0 = ap (λ (b : Bool). cond b v 0) (ne_eqb p a (λ is. lt_apart p a below is)) in
    omega (arith, head, rest, none)

in_range : (p a n v : ℕ) → ((p == a) ≡ true) × (p ≡ a) ⊎ ((p == a) ≡ false) × (p ≢ a) → p < a + suc n
    → (p ≡ a → sum_by (λ i. cond (p == i) v 0) (range_with_len (a + 1) n) ≡ 0)
    → (p ≢ a → sum_by (λ i. cond (p == i) v 0) (range_with_len (a + 1) n) ≡ v)
    → sum_by (λ i. cond (p == i) v 0) (range_with_len a (suc n)) ≡ v
in_range p a n v (inl (is, same)) high none rest =
    let head : sum_by (λ i. cond (p == i) v 0) (a ∷ range_with_len (a + 1) n) ≡ cond (p == a) v 0 + sum_by (λ i. cond (p == i) v 0) (range_with_len (a + 1) n) = sum_by-cons (λ i. cond (p == i) v 0) a (range_with_len (a + 1) n) in
    let here : cond (p == a) v 0 ≡ v = ap (λ (b : Bool). cond b v 0) is in
    let behind : sum_by (λ i. cond (p == i) v 0) (range_with_len (a + 1) n) ≡ 0 = none same in
    omega (arith, head, here, behind)
in_range p a n v (inr (isnt, other)) high none rest =
    let head : sum_by (λ i. cond (p == i) v 0) (a ∷ range_with_len (a + 1) n) ≡ cond (p == a) v 0 + sum_by (λ i. cond (p == i) v 0) (range_with_len (a + 1) n) = sum_by-cons (λ i. cond (p == i) v 0) a (range_with_len (a + 1) n) in
    let here : cond (p == a) v 0 ≡ 0 = ap (λ (b : Bool). cond b v 0) isnt in
    let behind : sum_by (λ i. cond (p == i) v 0) (range_with_len (a + 1) n) ≡ v = rest other in
    omega (arith, head, here, behind)

pub one_of_range : (p a n v : ℕ) → a ≤ p → p < a + n → sum_by (λ i. cond (p == i) v 0) (range_with_len a n) ≡ v
one_of_range p a zero v low high = absurd (omega (arith, low, high))
one_of_range p a (suc n) v low high =
    in_range p a n v (eqb_tells p a) high
    (λ same. none_above p (a + 1) n v (omega (arith, same)))
    (λ other. one_of_range p (a + 1) n v (behind_of p a low other) (omega (arith, high)))
