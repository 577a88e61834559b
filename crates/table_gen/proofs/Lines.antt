-- A line that is given piece by piece, and the line after it.
use Rattle.std.proofs.Common.{◌≡◌, ◌∙◌, ◌+◌, ◌*◌, ◌%◌, ◌-◌, ◌≤◌, ◌<◌, ◌++◌, suc, ℕ, List, [], take, drop, length, sym, refl, ap, arith}
use Rattle.std.proofs.lemmas.Grind.{common_steps}
use Rattle.std.proofs.lemmas.List.{take-append-drop, take-append-le, length-take-le, append_assoc, length-append}
use Rattle.std.proofs.Math.Seq.{take-append-add, drop-drop}
use borrow.Rule.Slice.PartMut.{put_mid, post_of}
use Rattle.std.proofs.Math.ListN.{drop_of_length-le}
use Rattle.table_gen.specs.Table.{lines_from, line_of}

-- where a line is all given, the lines to come are the next one and those behind it
pub line_made : (start groups row rows at from : ℕ) (line new : List ℕ)
    → length line ≤ at → row < rows → drop from new ≡ line_of ((7 * row + start) % groups) row
    → drop from new ++ lines_from start groups (row + 1) (rows - (row + 1)) ≡ drop at line ++ lines_from start groups row (rows - row)
unfolding lines_from
line_made start groups row rows at from line new given some written =
    let count : rows - row ≡ suc (rows - (row + 1)) = omega arith in
    let none : drop at line ≡ [] = drop_of_length-le line given in
    rw (count, none, written) refl

-- where a line is all given and no row is left, nothing is to come
pub none_to_come : (start groups row rows at : ℕ) (line : List ℕ)
    → length line ≤ at → rows ≤ row → drop at line ++ lines_from start groups row (rows - row) ≡ []
unfolding lines_from
none_to_come start groups row rows at line given all =
    let count : rows - row ≡ 0 = omega arith in
    let none : drop at line ≡ [] = drop_of_length-le line given in
    rw (count, none) refl

-- what was to come is the piece that was given and what is to come now
pub piece_given : (line piece behind lines : List ℕ) (at size : ℕ)
    → piece ≡ take size (drop at line) → size ≤ length (drop at line)
    → drop at line ++ lines ≡ take size (piece ++ behind) ++ (drop (at + size) line ++ lines)
piece_given line piece behind lines at size same fits =
    let long : length piece ≡ size = ap length same ∙ length-take-le size (drop at line) fits in
    let inside : size ≤ length piece = omega arith in
    let shown : take size (piece ++ behind) ≡ take size piece = take-append-le size piece behind inside in
    let whole : take size piece ≡ piece = grind (arith, common_steps) in
    let left : drop at line ≡ take size (piece ++ behind) ++ drop (at + size) line =
    rw (shown ∙ whole ∙ same, sym (drop-drop size at line)) (sym (take-append-drop size (drop at line))) in
    ap (λ (xs : List ℕ). xs ++ lines) left ∙ append_assoc (take size (piece ++ behind)) (drop (at + size) line) lines

-- a buffer of which the middle was written is as long as what stands before that and was written
pub filled_fits : (a k count : ℕ) (buf piece : List ℕ)
    → a ≤ length buf → count ≤ length piece → a + count ≤ length (put_mid a k buf piece)
filled_fits a k count buf piece inside fits =
    omega (arith, length-append (take a buf) (piece ++ post_of a k buf), length-append piece (post_of a k buf), length-take-le a buf inside)

-- the front of a buffer after a piece was written behind what was written before
pub more_filled : (a k count : ℕ) (buf piece : List ℕ)
    → a ≤ length buf → count ≤ length piece → take (a + count) (put_mid a k buf piece) ≡ take a buf ++ take count piece
more_filled a k count buf piece inside fits =
    let long : length (take a buf) ≡ a = length-take-le a buf inside in
    ap (λ (n : ℕ). take (n + count) (put_mid a k buf piece)) (sym long)
    ∙ take-append-add (take a buf) (piece ++ post_of a k buf) count
    ∙ ap (λ (xs : List ℕ). take a buf ++ xs) (take-append-le count piece (post_of a k buf) fits)
