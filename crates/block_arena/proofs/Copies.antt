-- A copy that is done piece by piece.
use Rattle.std.proofs.Common.{◌≡◌, ℕ, ◌+◌, ◌-◌, ◌≤◌, List, ◌++◌, length, take, drop, sym, ap, ◌∙◌, refl, arith, slice_range, length-append}
use Rattle.std.proofs.Math.Seq.{take-add}
use Rattle.std.proofs.lemmas.List.{drop-drop, length-take, length-drop, length-take-le}
use Rattle.std.proofs.lemmas.List.Edits.{paste_all, paste-paste}
use lib.Seq.{paste}
use borrow.Rule.Slice.PartMut.{put_mid}
use Rattle.block_arena.specs.Bytes.{written}

-- what is written after one more piece
pub written_more : (bytes piece : List ℕ) (at done count : ℕ) → done + count ≤ length piece → at ≤ length bytes → written (at + done) (slice_range piece done (done + count)) (written at (take done piece) bytes) ≡ written at (take (done + count) piece) bytes
written_more bytes piece at done count inside within =
    let front : List ℕ = take done piece in
    let next : List ℕ = slice_range piece done (done + count) in
    let front_len : length front ≡ done = length-take-le done piece (omega arith) in
    let width : done + count - done ≡ count = omega arith in
    let next_is : next ≡ take count (drop done piece) = ap (λ n. take n (drop done piece)) width in
    let next_len : length next ≡ count = ap length next_is ∙ length-take-le count (drop done piece) (omega (arith, length-drop done piece)) in
    let both : front ++ next ≡ take (done + count) piece = ap (λ rest. front ++ rest) next_is ∙ sym (take-add done count piece) in
    let first : paste bytes at front (length front) ≡ written at front bytes = paste_all bytes at front (length front) refl in
    let twice : paste (paste bytes at front (length front)) (at + length front) next (length next) ≡ paste bytes at (front ++ next) (length front + length next) =
    paste-paste bytes at front next (length front) (length next) refl refl within
    in
    ap (λ k. written (at + k) next (written at front bytes)) (sym front_len)
    ∙ ap (written (at + length front) next) (sym first)
    ∙ sym (paste_all (paste bytes at front (length front)) (at + length front) next (length next) refl)
    ∙ twice
    ∙ paste_all bytes at (front ++ next) (length front + length next) (sym (length-append front next))
    ∙ ap (λ k. take at bytes ++ ((front ++ next) ++ drop (at + k) bytes)) (sym (length-append front next))
    ∙ ap (λ piece_so_far. written at piece_so_far bytes) both

pub length-written : (at : ℕ) (piece bytes : List ℕ) → at + length piece ≤ length bytes → length (written at piece bytes) ≡ length bytes
length-written at piece bytes inside = simp (length-append, length-take, length-drop) (omega arith)

-- what a copy into a part of a block leaves, as a call shows it
pub put_is_written : (block now piece copied : List ℕ) (from k : ℕ) → now ≡ block → copied ≡ piece → k ≡ length piece → put_mid from k now copied ≡ written from piece block
put_is_written block now piece copied from k same copy width =
    ap (λ one. put_mid from k one copied) same ∙ ap (put_mid from k block) copy
    ∙ ap (λ rest. take from block ++ (piece ++ rest)) (ap (λ n. drop n (drop from block)) width ∙ drop-drop (length piece) from block)
