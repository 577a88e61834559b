-- A block's own bytes stand behind some others: what is left of them where a part or the whole was lent.
use Rattle.std.proofs.Common.{◌≡◌, ℕ, zero, suc, ◌+◌, ◌-◌, ◌<◌, ◌≤◌, List, [], ◌∷◌, ◌++◌, length, take, drop, refl, sym, ap, ◌∙◌, arith, length-append}
use Rattle.std.proofs.lemmas.List.{take-append-le, take_all, length-drop, length-take}
use Rattle.std.proofs.Math.Seq.{drop-nil}
use Rattle.block_arena.specs.Bytes.{fitted}

filled : (items w : List ℕ) → length items ≤ length (w ++ drop (length w) items)
filled items w = omega (arith, length-append w (drop (length w) items), length-drop (length w) items)

-- what is behind the first k was lent
part_lent : (k : ℕ) (items w : List ℕ) → k ≤ length items
    → drop k (take (length items) ((take k items ++ (w ++ drop (length w) (drop k items))) ++ drop (length (take k items ++ (w ++ drop (length w) (drop k items)))) items)) ≡ fitted (drop k items) w
part_lent zero items w inside = take-append-le (length items) (w ++ drop (length w) items) _ (filled items w)
part_lent (suc k) [] w inside = absurd (let none : ⊥ = omega (arith, inside) in none)
part_lent (suc k) (x ∷ items) w inside = part_lent k items w (let less : k ≤ length items = omega (arith, inside) in less)

pub behind_lent : (k n : ℕ) (items w : List ℕ) → n ≡ length items → k ≤ length items
    → drop k (take n ((take k items ++ (w ++ drop (length w) (drop k items))) ++ drop (length (take k items ++ (w ++ drop (length w) (drop k items)))) items)) ≡ fitted (drop k items) w
behind_lent k n items w is inside =
    ap (λ (m : ℕ). drop k (take m ((take k items ++ (w ++ drop (length w) (drop k items))) ++ drop (length (take k items ++ (w ++ drop (length w) (drop k items)))) items))) is
    ∙ part_lent k items w inside

-- all was lent
whole_cut : (k : ℕ) (items w : List ℕ) → drop k (fitted items w) ≡ fitted (drop k items) (drop k w)
whole_cut zero items w = refl
whole_cut (suc k) [] w = refl
whole_cut (suc k) (x ∷ items) [] =
    let one : drop k (fitted items []) ≡ fitted (drop k items) (drop k []) = whole_cut k items [] in
    one ∙ ap (fitted (drop k items)) (drop-nil k)
whole_cut (suc k) (x ∷ items) (y ∷ w) = whole_cut k items w

pub whole_lent : (k n : ℕ) (items w : List ℕ) → n ≡ length items → drop k (take n (w ++ drop (length w) items)) ≡ fitted (drop k items) (drop k w)
whole_lent k n items w is = ap (λ (m : ℕ). drop k (take m (w ++ drop (length w) items))) is ∙ whole_cut k items w
