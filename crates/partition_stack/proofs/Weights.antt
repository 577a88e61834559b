-- What is left to do grows less with each step.
use Rattle.std.proofs.Common.{◌≡◌, ◌∙◌, ℕ, zero, suc, ◌+◌, ◌-◌, ◌*◌, ◌^◌, ◌<◌, List, [], ◌∷◌, ◌++◌, length, replicate, set, get_or, take, Some, refl, ap, sym, subst, arith, lit<}
use Rattle.std.specs.Prelude.{slice_get, sum_by}
use Rattle.std.proofs.Math.Nat.{pow-suc}
use Rattle.std.proofs.lemmas.List.Folds.{sum_by-replicate}
use Rattle.std.proofs.lemmas.List.Sums.{sum_by-append, sum_by-cons, sum_by-set}
use Rattle.std.proofs.lemmas.Option.{get_or_from_slice_get, none-some, slice_get_within}

some_power : (n : ℕ) → 0 < 18 ^ n
some_power zero = lit< tt
some_power (suc n) = let more : 18 ^ suc n ≡ 18 ^ n * 18 = pow-suc 18 n in let some = some_power n in omega (arith, more, some)

-- sixteen partitions of the next level, and an empty one
pub less_divided : (levels now : List ℕ) (at level : ℕ) → slice_get levels at ≡ Some level → level < 16 → now ≡ set levels at (level + 1) ++ replicate 16 (level + 1) → sum_by (λ l. 18 ^ (16 - l)) now < sum_by (λ l. 18 ^ (16 - l)) levels
less_divided levels now at level there few now_is =
    let f : ℕ → ℕ = λ l. 18 ^ (16 - l) in
    let inside : at < length levels = slice_get_within levels at level there in
    let is : get_or levels at 0 ≡ level = get_or_from_slice_get levels at level 0 there in
    let whole : sum_by (λ l. 18 ^ (16 - l)) now ≡ sum_by (λ l. 18 ^ (16 - l)) (set levels at (level + 1)) + sum_by (λ l. 18 ^ (16 - l)) (replicate 16 (level + 1)) = ap (sum_by (λ l. 18 ^ (16 - l))) now_is ∙ sum_by-append (λ l. 18 ^ (16 - l)) (set levels at (level + 1)) (replicate 16 (level + 1)) in
    let sixteen : sum_by (λ l. 18 ^ (16 - l)) (replicate 16 (level + 1)) ≡ 16 * 18 ^ (16 - (level + 1)) = sum_by-replicate (λ l. 18 ^ (16 - l)) 16 (level + 1) in
    let one = sum_by-set (λ l. 18 ^ (16 - l)) levels at (level + 1) 0 inside in
    let was : 18 ^ (16 - get_or levels at 0) ≡ 18 ^ (16 - level) = ap (λ (l : ℕ). 18 ^ (16 - l)) is in
    let step : 18 ^ (16 - level) ≡ 18 ^ (16 - (level + 1)) * 18 = ap (λ (n : ℕ). 18 ^ n) (let next : 16 - level ≡ suc (16 - (level + 1)) = omega (arith, few) in next) ∙ pow-suc 18 (16 - (level + 1)) in
    let some : 0 < 18 ^ (16 - (level + 1)) = some_power (16 - (level + 1)) in
    omega (arith, whole, sixteen, one, was, step, some)

-- the top one went
pub less_popped : (levels now : List ℕ) (at level : ℕ) → slice_get levels at ≡ Some level → now ≡ take at levels → sum_by (λ l. 18 ^ (16 - l)) now < sum_by (λ l. 18 ^ (16 - l)) levels
less_popped levels now at level there is = subst (λ (ls : List ℕ). sum_by (λ l. 18 ^ (16 - l)) ls < sum_by (λ l. 18 ^ (16 - l)) levels) (sym is) (go levels at level there)
  where
    go : (ls : List ℕ) (i l : ℕ) → slice_get ls i ≡ Some l → sum_by (λ l. 18 ^ (16 - l)) (take i ls) < sum_by (λ l. 18 ^ (16 - l)) ls
    go [] i l at = absurd (none-some l at)
    go (x ∷ ls) zero l at = let some = some_power (16 - x) in let one = sum_by-cons (λ l. 18 ^ (16 - l)) x ls in let none : sum_by (λ l. 18 ^ (16 - l)) [] ≡ 0 = refl in omega (arith, some, one, none)
    go (x ∷ ls) (suc i) l at =
        let rest = go ls i l at in
        let one = sum_by-cons (λ l. 18 ^ (16 - l)) x ls in
        let two = sum_by-cons (λ l. 18 ^ (16 - l)) x (take i ls) in
        omega (arith, rest, one, two)
