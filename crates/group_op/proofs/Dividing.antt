-- Rows that were dealt to partitions are all in them, each as often.
use Rattle.std.proofs.Common.{◌≡◌, ◌≢◌, ℕ, zero, suc, ◌<◌, ◌==◌, Bool, true, false, cond, List, [], ◌∷◌, ◌++◌, refl, ap, ap₂, sym, subst, arith, append_assoc, eq-eqb, ne_eqb}
use Rattle.std.specs.List.Sorted.{IsPermutation}
use Rattle.std.proofs.lemmas.List.Sorted.{IsPermutation-append_comm, IsPermutation-append_left, IsPermutation-append_right, IsPermutation-cons, IsPermutation-refl, IsPermutation-to_front, IsPermutation-trans}
use Rattle.store_api.specs.declared.shapes.Shape.{Shape}
use Rattle.tuple_stream.specs.FamilyCalls.{shares}
pub use Rattle.partition_stack.proofs.SharedRows.{shares_none, shares_same}
use Rattle.group_op.specs.Stored.{dealt, place_of}

module _ {X : Type 0} where
  to_front : (xs : List X) (x : X) (ys : List X) → IsPermutation (xs ++ x ∷ ys) (x ∷ (xs ++ ys))
  to_front xs x ys = subst (λ (zs : List X). IsPermutation zs (x ∷ (xs ++ ys))) (append_assoc xs (x ∷ []) ys) (IsPermutation-append_left ys (xs ++ x ∷ []) (x ∷ xs) (IsPermutation-to_front xs x))

  swap_middle : (a b c d : List X) → IsPermutation ((a ++ b) ++ (c ++ d)) ((a ++ c) ++ (b ++ d))
  swap_middle a b c d =
      subst (λ (zs : List X). IsPermutation zs ((a ++ c) ++ (b ++ d))) (sym (append_assoc a b (c ++ d)))
      (subst (λ (zs : List X). IsPermutation (a ++ (b ++ (c ++ d))) zs) (sym (append_assoc a c (b ++ d)))
      (IsPermutation-append_right a (b ++ (c ++ d)) (c ++ (b ++ d))
      (subst (λ (zs : List X). IsPermutation zs (c ++ (b ++ d))) (append_assoc b c d)
      (subst (λ (zs : List X). IsPermutation ((b ++ c) ++ d) zs) (append_assoc c b d)
      (IsPermutation-append_left d (b ++ c) (c ++ b) (IsPermutation-append_comm b c))))))

-- one more in one of them
one_more : (n k : ℕ) (test : ℕ → Bool) (rows : ℕ → List (List ℕ)) (row : List ℕ) → k < n → test k ≡ true → ((i : ℕ) → i ≢ k → test i ≡ false) → IsPermutation (shares n (λ i. cond (test i) (row ∷ rows i) (rows i))) (row ∷ shares n rows)
one_more zero k test rows row inside here others = absurd (omega (arith, inside))
one_more (suc n) zero test rows row inside here others =
    let front : cond (test 0) (row ∷ rows 0) (rows 0) ≡ row ∷ rows 0 = ap (λ (b : Bool). cond b (row ∷ rows 0) (rows 0)) here in
    let rest : shares n (λ i. cond (test (suc i)) (row ∷ rows (suc i)) (rows (suc i))) ≡ shares n (λ i. rows (suc i)) =
    shares_same n (λ i. cond (test (suc i)) (row ∷ rows (suc i)) (rows (suc i))) (λ i. rows (suc i)) (λ i. ap (λ (b : Bool). cond b (row ∷ rows (suc i)) (rows (suc i))) (others (suc i) (λ same. omega (arith, same)))) in
    subst (λ (zs : List (List ℕ)). IsPermutation zs (row ∷ (rows 0 ++ shares n (λ i. rows (suc i))))) (sym (ap₂ (λ (a b : List (List ℕ)). a ++ b) front rest))
    (IsPermutation-refl (row ∷ (rows 0 ++ shares n (λ i. rows (suc i)))))
one_more (suc n) (suc k) test rows row inside here others =
    let front : cond (test 0) (row ∷ rows 0) (rows 0) ≡ rows 0 = ap (λ (b : Bool). cond b (row ∷ rows 0) (rows 0)) (others 0 (λ same. omega (arith, same))) in
    let rest = one_more n k (λ i. test (suc i)) (λ i. rows (suc i)) row (omega (arith, inside)) here (λ i apart. others (suc i) (λ same. apart (omega (arith, same)))) in
    subst (λ (zs : List (List ℕ)). IsPermutation (zs ++ shares n (λ i. cond (test (suc i)) (row ∷ rows (suc i)) (rows (suc i)))) (row ∷ (rows 0 ++ shares n (λ i. rows (suc i))))) (sym front)
    (IsPermutation-trans (rows 0 ++ shares n (λ i. cond (test (suc i)) (row ∷ rows (suc i)) (rows (suc i)))) (rows 0 ++ row ∷ shares n (λ i. rows (suc i))) (row ∷ (rows 0 ++ shares n (λ i. rows (suc i))))
    (IsPermutation-append_right (rows 0) (shares n (λ i. cond (test (suc i)) (row ∷ rows (suc i)) (rows (suc i)))) (row ∷ shares n (λ i. rows (suc i))) rest)
    (to_front (rows 0) row (shares n (λ i. rows (suc i)))))

-- two lots of rows
pub shares_both : (n : ℕ) (rows more : ℕ → List (List ℕ)) → IsPermutation (shares n (λ i. rows i ++ more i)) (shares n rows ++ shares n more)
shares_both zero rows more = IsPermutation-refl []
shares_both (suc n) rows more =
    IsPermutation-trans ((rows 0 ++ more 0) ++ shares n (λ i. rows (suc i) ++ more (suc i))) ((rows 0 ++ more 0) ++ (shares n (λ i. rows (suc i)) ++ shares n (λ i. more (suc i)))) ((rows 0 ++ shares n (λ i. rows (suc i))) ++ (more 0 ++ shares n (λ i. more (suc i))))
    (IsPermutation-append_right (rows 0 ++ more 0) (shares n (λ i. rows (suc i) ++ more (suc i))) (shares n (λ i. rows (suc i)) ++ shares n (λ i. more (suc i))) (shares_both n (λ i. rows (suc i)) (λ i. more (suc i))))
    (swap_middle (rows 0) (more 0) (shares n (λ i. rows (suc i))) (shares n (λ i. more (suc i))))

-- what was dealt to sixteen
pub dealt_all : (shape : Shape) (level : ℕ) (rows : List (List ℕ)) → IsPermutation (shares 16 (dealt shape level 0 rows)) rows
dealt_all shape level [] = subst (λ (zs : List (List ℕ)). IsPermutation zs []) (sym (shares_none 16)) (IsPermutation-refl [])
dealt_all shape level (row ∷ rows) =
    IsPermutation-trans (shares 16 (dealt shape level 0 (row ∷ rows))) (row ∷ shares 16 (dealt shape level 0 rows)) (row ∷ rows)
    (one_more 16 (place_of shape level 0 row) (λ i. place_of shape level 0 row == i) (dealt shape level 0 rows) row (omega arith) (eq-eqb (place_of shape level 0 row) (place_of shape level 0 row) refl) (λ i apart. ne_eqb (place_of shape level 0 row) i (λ same. apart (sym same))))
    (IsPermutation-cons row (shares 16 (dealt shape level 0 rows)) rows (dealt_all shape level rows))

-- so the partitions have what they had, and these
pub more_shares : (shape : Shape) (level : ℕ) (rows : ℕ → List (List ℕ)) (gone : List (List ℕ)) → IsPermutation (shares 16 (λ i. rows i ++ dealt shape level 0 gone i)) (shares 16 rows ++ gone)
more_shares shape level rows gone =
    IsPermutation-trans (shares 16 (λ i. rows i ++ dealt shape level 0 gone i)) (shares 16 rows ++ shares 16 (dealt shape level 0 gone)) (shares 16 rows ++ gone)
    (shares_both 16 rows (dealt shape level 0 gone))
    (IsPermutation-append_right (shares 16 rows) (shares 16 (dealt shape level 0 gone)) gone (dealt_all shape level gone))
