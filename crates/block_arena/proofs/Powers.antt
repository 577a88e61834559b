-- Powers of two.
use Rattle.std.proofs.Common.{◌≡◌, ℕ, ◌*◌, ◌^◌, ◌<◌, ◌≤◌, suc, sym, ap, IsTrue, List, [], ◌∷◌, map, ◌==◌, ◌∙◌, arith, inl, inr, lit<}
use Rattle.std.proofs.Math.Pow.{pow-lt}
use Rattle.std.proofs.Math.Nat.{pow-le-pow_right, pow-suc}
use Rattle.std.specs.Int.{IsPowerOfTwo}
use Rattle.std.specs.List.{list_any}
use Rattle.std.proofs.lemmas.Bool.{cases_lt, false≢true}
use Rattle.std.proofs.lemmas.Bool.Decides.{eqb_tells}
use Rattle.block_arena.specs.Blocks.{IsBlockLen}

-- a power of two from 2 ^ r on and below the next one is that one
pub same_power : (k r n : ℕ) → n ≡ 2 ^ k → 2 ^ r ≤ n → n < 2 * 2 ^ r → 2 ^ r ≡ n
same_power k r n is low high =
    elim (cases_lt r k) [
      | inl above ↦ let next : 2 ^ suc r ≤ 2 ^ k = pow-le-pow_right (lit< tt) above in let twice : 2 ^ suc r ≡ 2 ^ r * 2 = pow-suc 2 r in omega arith
      | inr most ↦ elim (cases_lt k r) [
        | inl below ↦ let less : 2 ^ k < 2 ^ r = pow-lt below in omega arith
        | inr least ↦ ap (λ e. 2 ^ e) (let same : r ≡ k = omega arith in same) ∙ sym is
      ]
    ]

-- what stands in a list of powers of two is one
any_power : (powers : List ℕ) (n : ℕ) → IsTrue (list_any (λ len. len == n) (map (λ k. 2 ^ k) powers)) → IsPowerOfTwo n
any_power [] n is = absurd (false≢true is)
any_power (k ∷ ks) n is =
    elim (eqb_tells (2 ^ k) n) [
      | inl this ↦ (k, sym this.1)
      | inr other ↦ any_power ks n (let rest : IsTrue (list_any (λ len. len == n) (map (λ k. 2 ^ k) ks)) = rw other.0 at is in rest)
    ]

pub power_of_two : (n : ℕ) → IsBlockLen n → IsPowerOfTwo n
power_of_two n is = any_power (6 ∷ 7 ∷ 8 ∷ 9 ∷ 10 ∷ 11 ∷ 12 ∷ 13 ∷ 14 ∷ 15 ∷ 16 ∷ []) n is
