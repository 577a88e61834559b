-- The blocks of a buffer, while one of them after the other is written.
use Rattle.std.proofs.Common.{◌≡◌, ℕ, suc, zero, ◌+◌, ◌*◌, ◌-◌, ◌<◌, ◌≤◌, List, ◌++◌, length, take, drop, sym, ap, ◌∙◌, arith, slice_range}
use Rattle.std.proofs.Math.Nat.{mul-le-mul_right}
use Rattle.std.proofs.lemmas.List.{length-take, length-drop, length-take-le, drop-take, take-take, take-append-le, drop_at}
use Rattle.block_arena.specs.Bytes.{written}
use Rattle.block_arena.specs.Memory.{Buffer, block_of, with_block}
use Rattle.block_arena.proofs.Walks.{lent_is, lent_more, length_lent}

-- a block that has its whole length lies within the bytes
pub lies_within : (len i : ℕ) (bytes : List ℕ) → length (slice_range bytes (i * len) (i * len + len)) ≡ len → i * len + len ≤ length bytes
lies_within zero i bytes whole = omega arith
lies_within (suc n) i bytes whole =
    omega (arith, length-take (i * suc n + suc n - i * suc n) (drop (i * suc n) bytes), length-drop (i * suc n) bytes)

module _ (buf : Buffer) (i : ℕ) (new : List ℕ) (whole : length (block_of buf i) ≡ buf.block_len) (fits : length new ≡ buf.block_len) where
  inside : i * buf.block_len + buf.block_len ≤ length buf.bytes
  inside = lies_within buf.block_len i buf.bytes whole

  after : (with_block buf i new).bytes ≡ written (i * buf.block_len) new buf.bytes
  after = lent_is buf.block_len i buf.bytes inside new fits

  -- up to this block: the blocks before it, as they were, and the new bytes
  front : take (i * buf.block_len + buf.block_len) (with_block buf i new).bytes ≡ take (i * buf.block_len) buf.bytes ++ new
  front = ap (take (i * buf.block_len + buf.block_len)) after ∙ lent_more buf.block_len i buf.bytes inside new fits

  before : length (take (i * buf.block_len) buf.bytes) ≡ i * buf.block_len
  before = length-take-le (i * buf.block_len) buf.bytes (omega (arith, inside))

  pub shows_new : block_of (with_block buf i new) i ≡ new
  shows_new =
      let width : i * buf.block_len + buf.block_len - i * buf.block_len ≡ buf.block_len = omega arith in
      ap (λ n. take n (drop (i * buf.block_len) (with_block buf i new).bytes)) width
      ∙ sym (drop-take (i * buf.block_len) buf.block_len (with_block buf i new).bytes)
      ∙ ap (drop (i * buf.block_len)) front
      ∙ drop_at (take (i * buf.block_len) buf.bytes) new (i * buf.block_len) before

  pub shows_old : (k : ℕ) → k < i → block_of (with_block buf i new) k ≡ block_of buf k
  shows_old k earlier =
      let step : suc k * buf.block_len ≤ i * buf.block_len = mul-le-mul_right buf.block_len (omega arith) in
      let ends : k * buf.block_len + buf.block_len ≤ i * buf.block_len = omega arith in
      let width : k * buf.block_len + buf.block_len - k * buf.block_len ≡ buf.block_len = omega arith in
      let part : take (k * buf.block_len + buf.block_len) (with_block buf i new).bytes ≡ take (k * buf.block_len + buf.block_len) buf.bytes =
      sym (take-take (k * buf.block_len + buf.block_len) (i * buf.block_len + buf.block_len) (with_block buf i new).bytes (omega arith))
      ∙ ap (take (k * buf.block_len + buf.block_len)) front
      ∙ take-append-le (k * buf.block_len + buf.block_len) (take (i * buf.block_len) buf.bytes) new (omega (arith, before))
      ∙ take-take (k * buf.block_len + buf.block_len) (i * buf.block_len) buf.bytes ends in
      ap (λ n. take n (drop (k * buf.block_len) (with_block buf i new).bytes)) width
      ∙ sym (drop-take (k * buf.block_len) buf.block_len (with_block buf i new).bytes)
      ∙ ap (drop (k * buf.block_len)) part
      ∙ drop-take (k * buf.block_len) buf.block_len buf.bytes
      ∙ ap (λ n. take n (drop (k * buf.block_len) buf.bytes)) (sym width)

  pub as_long : length (with_block buf i new).bytes ≡ length buf.bytes
  as_long = length_lent buf.block_len i buf.bytes inside new
