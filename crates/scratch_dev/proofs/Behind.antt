-- Blocks with their marks in front, as they go into slots and come out.
use Rattle.std.proofs.Common.{◌≡◌, ◌≢◌, ℕ, ◌+◌, ◌*◌, ◌-◌, ◌<◌, ◌≤◌, List, ◌++◌, Result, Ok, Err, length, take, drop, refl, sym, ap, ◌∙◌, subst, arith, slice_range, append_assoc, length-append}
use Rattle.std.proofs.lemmas.List.{take-append-drop, length-take-le, length-drop, drop-drop}
use Rattle.outside.specs.declared.slot.Slot.{Ghosts}
use Rattle.block_arena.specs.Bytes.{written}
use Rattle.block_arena.specs.Memory.{Buffer, block_of, with_block, with_bytes}
use Rattle.block_arena.proofs.Walks.{lent_is, block_more}
use Rattle.reservation_tree.specs.declared.mark.Mark.{Mark}
use Rattle.reservation_tree.specs.Marks.{IsMark, mark_bytes}
use Rattle.scratch_dev.specs.Rows.{IsLoaded, IsLoadedUnder, GaveOther}
use Rattle.scratch_dev.proofs.Shown.{lies_within}

-- a block that is left as it was leaves the buffer as it was
pub same_block : (buf : Buffer) (i : ℕ) (new : List ℕ) → length (block_of buf i) ≡ buf.block_len → new ≡ block_of buf i → with_block buf i new ≡ buf
same_block buf i new whole is =
    let inside : i * buf.block_len + buf.block_len ≤ length buf.bytes = lies_within buf.block_len i buf.bytes whole in
    let after : (with_block buf i new).bytes ≡ written (i * buf.block_len) new buf.bytes = lent_is buf.block_len i buf.bytes inside new (ap length is ∙ whole) in
    let size : length new ≡ buf.block_len = ap length is ∙ whole in
    let rest : drop (i * buf.block_len + length new) buf.bytes ≡ drop (i * buf.block_len + buf.block_len) buf.bytes = ap (λ (n : ℕ). drop (i * buf.block_len + n) buf.bytes) size in
    let front : take (i * buf.block_len) buf.bytes ++ new ≡ take (i * buf.block_len + buf.block_len) buf.bytes =
    ap (λ (b : List ℕ). take (i * buf.block_len) buf.bytes ++ b) is ∙ sym (block_more buf.block_len i buf.bytes inside) in
    ap (λ (b : List ℕ). with_bytes buf b)
    (after
    ∙ ap (λ (r : List ℕ). take (i * buf.block_len) buf.bytes ++ (new ++ r)) rest
    ∙ sym (append_assoc (take (i * buf.block_len) buf.bytes) new (drop (i * buf.block_len + buf.block_len) buf.bytes))
    ∙ ap (λ (f : List ℕ). f ++ drop (i * buf.block_len + buf.block_len) buf.bytes) front
    ∙ take-append-drop (i * buf.block_len + buf.block_len) buf.bytes)

-- bytes that begin with a mark are the mark and what stands behind it
pub behind_mark : (m n : Mark) (given : List ℕ) → mark_bytes n ≡ take 20 given → n ≡ m → mark_bytes m ++ drop 20 given ≡ given
behind_mark m n given front same =
    ap (λ (k : Mark). mark_bytes k ++ drop 20 given) (sym same) ∙ ap (λ (f : List ℕ). f ++ drop 20 given) front ∙ take-append-drop 20 given

module _ {D : Type 0} (slot : Ghosts D) (m n : Mark) (given : List ℕ) (before now : D) (loaded : IsLoaded slot given (Ok tt) before now) (front : mark_bytes n ≡ take 20 given) where
  pub found_wanted : n ≡ m → IsLoadedUnder slot m (drop 20 given) (Ok tt) before now
  found_wanted same = subst (λ (b : List ℕ). IsLoaded slot b (Ok tt) before now) (sym (behind_mark m n given front same)) loaded

  pub found_other : 20 ≤ length given → n ≢ m → IsMark n → IsMark m → GaveOther slot (length (drop 20 given)) m n before now
  found_other long other found_is wanted_is = record { given = given; loaded = loaded; long = omega (arith, long, length-drop 20 given); front = sym front; other = other; found_is = found_is; wanted_is = wanted_is }
