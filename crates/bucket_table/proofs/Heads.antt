-- The greatest of some numbers, and where it stands.
use Rattle.std.proofs.Common.{◌≡◌, ◌≢◌, ℕ, zero, suc, ◌<◌, ◌≤◌, List, [], ◌∷◌, length, get_or, refl, ap, arith}
use Rattle.std.proofs.lemmas.Bool.{eq-eqb, ne_eqb}
use Rattle.bucket_table.specs.Threads.{greatest, place_in}

pub greatest_below : (x : ℕ) (ls : List ℕ) → ((j : ℕ) → j < length ls → get_or ls j 0 ≤ x) → greatest ls ≤ x
greatest_below x [] all = omega arith
greatest_below x (y ∷ ys) all =
    let head : y ≤ x = all 0 (omega arith) in
    let rest : greatest ys ≤ x = greatest_below x ys (λ j inside. all (suc j) (omega (arith, inside))) in
    omega (arith, head, rest)

pub greatest_is : (x k : ℕ) (ls : List ℕ) → k < length ls → get_or ls k 0 ≡ x → ((j : ℕ) → j < length ls → get_or ls j 0 ≤ x) → greatest ls ≡ x
greatest_is x k [] inside is all = absurd (omega (arith, inside))
greatest_is x zero (y ∷ ys) inside is all =
    let here : y ≡ x = is in
    let rest : greatest ys ≤ x = greatest_below x ys (λ j within. all (suc j) (omega (arith, within))) in
    omega (arith, here, rest)
greatest_is x (suc k) (y ∷ ys) inside is all =
    let head : y ≤ x = all 0 (omega arith) in
    let rest : greatest ys ≡ x = greatest_is x k ys (omega (arith, inside)) is (λ j within. all (suc j) (omega (arith, within))) in
    omega (arith, head, rest)

pub place_is : (x k : ℕ) (ls : List ℕ) → k < length ls → get_or ls k 0 ≡ x → ((j : ℕ) → j < length ls → j ≢ k → get_or ls j 0 ≢ x) → place_in x ls ≡ k
place_is x k [] inside is apart = absurd (omega (arith, inside))
place_is x zero (y ∷ ys) inside is apart = rw (eq-eqb y x is) refl
place_is x (suc k) (y ∷ ys) inside is apart =
    let head : y ≢ x = apart 0 (omega arith) (λ same. omega (arith, same)) in
    rw (ne_eqb y x head) (ap suc (place_is x k ys (omega (arith, inside)) is (λ j within other. apart (suc j) (omega (arith, within)) (λ same. other (omega (arith, same))))))
