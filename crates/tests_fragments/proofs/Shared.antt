-- Numbers that were shared.
use Rattle.std.proofs.Common.{◌≡◌, ◌<◌, ◌+◌, ℕ, zero, suc, All, List, [], ◌∷◌, ◌++◌, length, slice_index_or, sum_by, sym, refl, ap, ◌∙◌, arith, Result, Ok, Err, OnOk}
use Rattle.fragments.specs.Dealing.{IsDealt}
use Rattle.std.proofs.lemmas.List.Sums.{sum_by-cons}
use Rattle.tests_fragments.specs.declared.sharing.Kept.{Kept}

-- where each of these lists is what the same place holds, both weigh the same
pub same_weight : (h : ℕ → ℕ) (kept : List Kept) (lists : List (List ℕ)) → length lists ≡ length kept
    → ((k : ℕ) (d : Kept) → k < length kept → (slice_index_or kept k d).items.items ≡ slice_index_or lists k []) → sum_by (λ k. sum_by h k.items.items) kept ≡ sum_by (sum_by h) lists
same_weight h [] [] len each = refl
same_weight h [] (l ∷ ls) len each = absurd (omega arith)
same_weight h (x ∷ xs) [] len each = absurd (omega arith)
same_weight h (x ∷ xs) (l ∷ ls) len each =
    let here : sum_by h x.items.items ≡ sum_by h l = ap (sum_by h) (each 0 x (omega arith)) in
    let rest = same_weight h xs ls (omega arith) (λ k d below. each (suc k) d (omega arith)) in
    omega (arith, sum_by-cons (λ (k : Kept). sum_by h k.items.items) x xs, sum_by-cons (sum_by h) l ls)

abbrev TookKept : Kept → Unit {0} → Kept → Unit {0} → List ℕ → Type 0
TookKept f c g d items = g.items.items ≡ f.items.items ++ items

pub shared : {S E : Type 0} (ended : S → S → List ℕ → Type 0) (giver giver' : S) (kept kept' : List Kept) (besides besides' : List (Unit {0})) (all : List ℕ)
    → ((items : List ℕ) → ended giver giver' items → all ≡ items) → All (λ (k : Kept). k.items.items ≡ []) kept
    → (r : Result (Unit {0}) E) → OnOk r (IsDealt TookKept ended giver kept besides giver' kept' besides')
    → OnOk r ((h : ℕ → ℕ) → sum_by h all ≡ sum_by (λ (k : Kept). sum_by h k.items.items) kept')
shared ended giver giver' kept kept' besides besides' all given nones (Ok u) d = λ h.
    let e1 : sum_by h all ≡ sum_by h d.all = ap (sum_by h) (given d.all d.given) in
    let e2 = d.even h in
    let e4 = same_weight h kept' d.lists (d.len ∙ sym d.ops_len) (λ k x below.
    let below' : k < length kept = (let l = d.ops_len in omega arith) in
    d.each k x tt below' ∙ ap (λ l. l ++ slice_index_or d.lists k []) (nones k x below')) in
    omega arith
shared ended giver giver' kept kept' besides besides' all given nones (Err e) d = tt
