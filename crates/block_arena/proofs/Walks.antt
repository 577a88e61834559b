-- A walk over the blocks of a buffer, first block first, for callers: what is read, and what is left where a block was lent.
use Rattle.std.proofs.Common.{◌≡◌, ℕ, ◌+◌, ◌-◌, ◌*◌, ◌≤◌, List, ◌++◌, length, take, drop, sym, ap, ◌∙◌, arith, slice_range, append_assoc, length-append}
use Rattle.std.proofs.Math.Seq.{take-add}
use Rattle.std.proofs.lemmas.List.{take_at, drop_at, length-take-le, length-drop}
use Rattle.block_arena.specs.Bytes.{fitted, written}
use Rattle.block_arena.proofs.Copies.{length-written}
use Rattle.block_arena.proofs.Pieces.{fitted_whole, length-fitted}

module _ (len i : ℕ) (bytes : List ℕ) (inside : i * len + len ≤ length bytes) where
  width : i * len + len - i * len ≡ len
  width = omega arith

  size : length (slice_range bytes (i * len) (i * len + len)) ≡ len
  size = ap (λ n. length (take n (drop (i * len) bytes))) width ∙ length-take-le len (drop (i * len) bytes) (omega (arith, length-drop (i * len) bytes))

  -- the blocks up to this one, and this one
  pub block_more : take (i * len + len) bytes ≡ take (i * len) bytes ++ slice_range bytes (i * len) (i * len + len)
  block_more = take-add (i * len) len bytes ∙ ap (λ n. take (i * len) bytes ++ take n (drop (i * len) bytes)) (sym width)

  -- what a block that was lent leaves of the whole: as many bytes
  pub length_lent : (new : List ℕ) → length (written (i * len) (fitted (slice_range bytes (i * len) (i * len + len)) new) bytes) ≡ length bytes
  length_lent new =
      let same : length (fitted (slice_range bytes (i * len) (i * len + len)) new) ≡ len = length-fitted (slice_range bytes (i * len) (i * len + len)) new ∙ size in
      length-written (i * len) (fitted (slice_range bytes (i * len) (i * len + len)) new) bytes (omega arith)

  module _ (new : List ℕ) (whole : length new ≡ len) where
    -- a list of the block's length is taken as it is
    pub lent_is : written (i * len) (fitted (slice_range bytes (i * len) (i * len + len)) new) bytes ≡ written (i * len) new bytes
    lent_is = ap (λ piece. written (i * len) piece bytes) (fitted_whole (slice_range bytes (i * len) (i * len + len)) new (whole ∙ sym size))

    -- the blocks before it are as they were, and it has the new bytes
    pub lent_more : take (i * len + len) (written (i * len) new bytes) ≡ take (i * len) bytes ++ new
    lent_more =
        let front : length (take (i * len) bytes) ≡ i * len = length-take-le (i * len) bytes (omega arith) in
        ap (take (i * len + len)) (sym (append_assoc (take (i * len) bytes) new (drop (i * len + length new) bytes)))
        ∙ take_at (take (i * len) bytes ++ new) (drop (i * len + length new) bytes) (i * len + len) (omega (arith, length-append (take (i * len) bytes) new))

    pub lent_rest : drop (i * len + len) (written (i * len) new bytes) ≡ drop (i * len + len) bytes
    lent_rest =
        let front : length (take (i * len) bytes) ≡ i * len = length-take-le (i * len) bytes (omega arith) in
        ap (drop (i * len + len)) (sym (append_assoc (take (i * len) bytes) new (drop (i * len + length new) bytes)))
        ∙ drop_at (take (i * len) bytes ++ new) (drop (i * len + length new) bytes) (i * len + len) (omega (arith, length-append (take (i * len) bytes) new))
        ∙ ap (λ n. drop (i * len + n) bytes) whole
