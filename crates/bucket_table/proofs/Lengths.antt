-- The lengths of blocks and of buffers are powers of two.
use Rattle.std.proofs.Common.{ℕ, ◌+◌, ◌*◌, ◌^◌, ◌==◌, List, [], ◌∷◌, map, IsTrue, ap, sym, ◌∙◌, inl, inr}
use Rattle.std.proofs.lemmas.Nat.{pow-add}
use Rattle.std.specs.Int.{IsPowerOfTwo}
use Rattle.std.specs.List.{list_any}
use Rattle.std.proofs.lemmas.Bool.{false≢true}
use Rattle.std.proofs.lemmas.Bool.Decides.{eqb_tells}
use Rattle.block_arena.specs.Blocks.{IsBlockLen}
use Rattle.block_arena.proofs.Powers.{power_of_two}
use Rattle.store_api.specs.Conditions.{IsBlockCount}

any_power : (powers : List ℕ) (n : ℕ) → IsTrue (list_any (λ k. k == n) (map (λ k. 2 ^ k) powers)) → IsPowerOfTwo n
any_power [] n is = absurd (false≢true is)
any_power (k ∷ ks) n is =
    elim (eqb_tells (2 ^ k) n) [
      | inl this ↦ (k, sym this.1)
      | inr other ↦ any_power ks n (let rest : IsTrue (list_any (λ k. k == n) (map (λ k. 2 ^ k) ks)) = rw other.0 at is in rest)
    ]

count_power : (blocks : ℕ) → IsBlockCount blocks → IsPowerOfTwo blocks
count_power blocks is = any_power (0 ∷ 1 ∷ 2 ∷ 3 ∷ 4 ∷ 5 ∷ 6 ∷ 7 ∷ 8 ∷ []) blocks is

pub block_power : (len : ℕ) → IsBlockLen len → IsPowerOfTwo len
block_power len is = power_of_two len is

-- a buffer of so many blocks
pub buffer_power : (blocks len : ℕ) → IsBlockCount blocks → IsBlockLen len → IsPowerOfTwo (blocks * len)
buffer_power blocks len sized is =
    let many = count_power blocks sized in
    let each = power_of_two len is in (
      many.0 + each.0,
      ap (λ (n : ℕ). n * len) many.1 ∙ ap (λ (n : ℕ). 2 ^ many.0 * n) each.1 ∙ sym (pow-add 2 many.0 each.0),
    )
