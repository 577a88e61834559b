-- One batch more.
use Rattle.std.proofs.Common.{◌≡◌, ◌<◌, ◌+◌, ℕ, zero, suc, eqb, All, List, [], ◌∷◌, ◌++◌, length, slice_index_or, sum_by, append-nil, append_assoc, sym, refl, ap, ap₂, ◌∙◌, subst, arith, eq-eqb, Result, Ok, Err, OnOk}
use Rattle.std.specs.List.{flat_map}
use Rattle.std.specs.List.Sorted.{IsPermutation}
use Rattle.std.proofs.lemmas.Grind.{flat_map-append}
use Rattle.std.proofs.lemmas.List.Concat.{flat_map-cons}
use Rattle.std.proofs.lemmas.List.{nil_from_length}
use Rattle.std.proofs.lemmas.Bool.{eqb-true}
use Rattle.tests_fragments.specs.declared.batches.Batch.{Batch}
use Rattle.tests_fragments.specs.declared.sharing.Kept.{Kept}
use Rattle.tests_fragments.specs.InBatches.{EndedRows, GaveRows, TookRows, rows_of}
use Rattle.fragments.specs.Dealing.{IsDealt}
use Rattle.fragments.proofs.Bags.{rows_permuted}

one_more : (items : List Batch) (x : Batch) → flat_map rows_of (items ++ x ∷ []) ≡ flat_map rows_of items ++ rows_of x
one_more items x = flat_map-append rows_of items (x ∷ []) ∙ ap (λ l. flat_map rows_of items ++ l) (flat_map-cons rows_of x [] ∙ append-nil (rows_of x))

pub took_more : (f g g' : Kept) (items : List Batch) (x : Batch) → g'.items.items ≡ g.items.items ++ rows_of x → TookRows f g items → TookRows f g' (items ++ x ∷ [])
took_more f g g' items x is took = record {
  behind = is ∙ ap (λ l. l ++ rows_of x) took.behind ∙ append_assoc f.items.items (flat_map rows_of items) (rows_of x) ∙ ap (λ l. f.items.items ++ l) (sym (one_more items x));
}

pub gave_more : (was left left' : List ℕ) (items : List Batch) (x : Batch) → left ≡ rows_of x ++ left' → GaveRows was left items → GaveRows was left' (items ++ x ∷ [])
gave_more was left left' items x is gave = record {
  before = gave.before ∙ ap (λ l. flat_map rows_of items ++ l) is ∙ sym (append_assoc (flat_map rows_of items) (rows_of x) left') ∙ ap (λ l. l ++ left') (sym (one_more items x));
}

pub gave_all : (was left : List ℕ) (items : List Batch) → length left ≡ 0 → GaveRows was left items → EndedRows was items
gave_all was left items none gave = record { all = gave.before ∙ ap (λ l. flat_map rows_of items ++ l) (nil_from_length left none) ∙ append-nil (flat_map rows_of items) }

-- where each of these lists is what the same place holds, both are the same together
same_lists : (kept : List Kept) (lists : List (List Batch)) → length lists ≡ length kept
    → ((k : ℕ) (d : Kept) → k < length kept → (slice_index_or kept k d).items.items ≡ flat_map rows_of (slice_index_or lists k [])) → flat_map (λ k. k.items.items) kept ≡ flat_map (flat_map rows_of) lists
same_lists [] [] len each = refl
same_lists [] (l ∷ ls) len each = absurd (omega arith)
same_lists (x ∷ xs) [] len each = absurd (omega arith)
same_lists (x ∷ xs) (l ∷ ls) len each =
    flat_map-cons (λ (k : Kept). k.items.items) x xs
    ∙ ap₂ (λ a b. a ++ b) (each 0 x (omega arith)) (same_lists xs ls (omega arith) (λ k d below. each (suc k) d (omega arith)))
    ∙ sym (flat_map-cons (flat_map rows_of) l ls)

pub shared_batches : {S E : Type 0} (ended : S → S → List Batch → Type 0) (giver giver' : S) (kept kept' : List Kept) (besides besides' : List (Unit {0})) (all : List ℕ)
    → ((items : List Batch) → ended giver giver' items → EndedRows all items) → All (λ (k : Kept). k.items.items ≡ []) kept
    → (r : Result (Unit {0}) E) → OnOk r (IsDealt (λ f c g d items. TookRows f g items) ended giver kept besides giver' kept' besides')
    → OnOk r (IsPermutation all (flat_map (λ (k : Kept). k.items.items) kept'))
shared_batches ended giver giver' kept kept' besides besides' all given nones (Ok u) d =
    let whole = (given d.all d.given).all in
    let theirs = same_lists kept' d.lists (d.len ∙ sym d.ops_len) (λ k x below.
    let below' : k < length kept = (let l = d.ops_len in omega arith) in
    (d.each k x tt below').behind ∙ ap (λ l. l ++ flat_map rows_of (slice_index_or d.lists k [])) (nones k x below')) in
    let moved = rows_permuted eqb (λ x y is. eqb-true x y is) (λ x. eq-eqb x x refl) rows_of d.all [] d.lists (λ h. let e = d.even h in omega arith) in
    subst (λ l. IsPermutation l (flat_map (λ (k : Kept). k.items.items) kept')) (sym whole)
    (subst (λ l. IsPermutation (flat_map rows_of d.all) l) (sym theirs) moved)
shared_batches ended giver giver' kept kept' besides besides' all given nones (Err e) d = tt
