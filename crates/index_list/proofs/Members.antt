-- Which nodes stand in a list, and what `others` and `behind` leave of it.
use Rattle.std.proofs.Common.{ℕ, ◌≡◌, true, false, eqb, List, [], ◌∷◌, ◌++◌, ◌||◌, refl, ap, sym, ◌∙◌, inl, inr, arith}
use Rattle.std.specs.List.{AllByRecursion}
use Rattle.std.proofs.lemmas.Bool.{false≢true, or_cases, or_parts, or_from, or_right, eqb-true, ne_eqb, cases_Bool}
use Rattle.std.proofs.lemmas.Bool.Decides.{nat_tests}
use Rattle.index_list.specs.Listing.{stands_in, others}

-- a number stands in the list exactly where it did before another one was pushed
pub stands_in-same : (q node : ℕ) (xs : List ℕ) → (node ≡ q → ⊥) → stands_in q (xs ++ node ∷ []) ≡ stands_in q xs
stands_in-same q node [] n = grind (arith, nat_tests)
stands_in-same q node (x ∷ xs) n = ap (λ b. eqb q x || b) (stands_in-same q node xs n)

-- what stands in the list still stands there when another number is pushed
pub stands_in-pushed : (q node : ℕ) (xs : List ℕ) → stands_in q xs ≡ true → stands_in q (xs ++ node ∷ []) ≡ true
stands_in-pushed q node [] e = absurd (false≢true e)
stands_in-pushed q node (x ∷ xs) e =
    elim (or_cases (eqb q x) (stands_in q xs) e) [ inl h ↦ grind (arith, h) | inr h ↦ or_right _ _ (stands_in-pushed q node xs h) ]

-- the number that was pushed stands there
pub stands_in-last : (node : ℕ) (xs : List ℕ) → stands_in node (xs ++ node ∷ []) ≡ true
stands_in-last node [] = grind (arith, nat_tests)
stands_in-last node (x ∷ xs) = or_right _ _ (stands_in-last node xs)

-- the others are all, if the node is none of them
pub others-all : (node : ℕ) (xs : List ℕ) → stands_in node xs ≡ false → others node xs ≡ xs
others-all node [] e = refl
others-all node (x ∷ xs) e =
    let p = or_parts (eqb node x) (stands_in node xs) e in
    rw p.0 (ap (λ ys. x ∷ ys) (others-all node xs p.1))

-- the node is none of the others
pub others-not : (node : ℕ) (xs : List ℕ) → stands_in node (others node xs) ≡ false
others-not node [] = refl
others-not node (x ∷ xs) =
    elim (cases_Bool (eqb node x)) [ inl h ↦ rw h (others-not node xs) | inr h ↦ rw h (or_from _ _ h (others-not node xs)) ]

-- another number stands among the others exactly where it stood before
pub stands_in-others : (q node : ℕ) (xs : List ℕ) → (node ≡ q → ⊥) → stands_in q (others node xs) ≡ stands_in q xs
stands_in-others q node [] n = refl
stands_in-others q node (x ∷ xs) n =
    elim (cases_Bool (eqb node x)) [
      | inl h ↦
          let e : eqb q x ≡ false = ne_eqb q x (λ s. n (eqb-true node x h ∙ sym s)) in
          rw (h, e) (stands_in-others q node xs n)
      | inr h ↦ rw h (ap (λ b. eqb q x || b) (stands_in-others q node xs n))
    ]

-- none is equal to q, as the words of std say it
pub none_equal : (q : ℕ) (xs : List ℕ) → stands_in q xs ≡ false → AllByRecursion (λ y. eqb q y ≡ false) xs
none_equal q [] e = tt
none_equal q (x ∷ xs) e =
    let p = or_parts (eqb q x) (stands_in q xs) e in
    (p.0, none_equal q xs p.1)

pub apart : (q : ℕ) (xs : List ℕ) → AllByRecursion (λ y. eqb q y ≡ false) xs → stands_in q xs ≡ false
apart q [] h = refl
apart q (x ∷ xs) h = or_from (eqb q x) (stands_in q xs) h.0 (apart q xs h.1)
