-- A piece that is taken from the front of a list of bytes.
use Rattle.std.proofs.Common.{◌≡◌, ◌∙◌, ◌+◌, ◌≤◌, ◌++◌, ◌∷◌, zero, suc, ℕ, List, [], take, drop, length, sym, refl, ap, arith, zero-add}
use Rattle.std.proofs.lemmas.Grind.{common_steps}
use Rattle.std.proofs.lemmas.List.{take-append-drop, take-append-le, length-take-le}
use Rattle.std.proofs.Math.Seq.{drop-nil}

-- what was left is the piece that was shown and what is left now
pub front_shown : (left piece rest : List ℕ) (size : ℕ)
    → piece ≡ take size left → size ≤ length left
    → left ≡ take size (piece ++ rest) ++ drop size left
front_shown left piece rest size same fits =
    let long : length piece ≡ size = ap length same ∙ length-take-le size left fits in
    let inside : size ≤ length piece = omega arith in
    let shown : take size (piece ++ rest) ≡ take size piece = take-append-le size piece rest inside in
    let whole : take size piece ≡ piece = grind (arith, common_steps) in
    rw (shown ∙ whole ∙ same) (sym (take-append-drop size left))

-- what is left after two pieces
pub drop_more : (i j : ℕ) (items : List ℕ) → drop (i + j) items ≡ drop j (drop i items)
drop_more zero j items = rw (zero-add j) refl
drop_more (suc i) j [] = let e : suc i + j ≡ suc (i + j) = omega arith in rw e (sym (drop-nil j))
drop_more (suc i) j (x ∷ items) = let e : suc i + j ≡ suc (i + j) = omega arith in rw e (drop_more i j items)
