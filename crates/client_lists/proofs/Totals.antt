-- How the sum of lengths changes.
use Rattle.std.proofs.Common.{ℕ, ◌≡◌, ◌+◌, ◌*◌, ◌≤◌, true, false, eqb, List, [], ◌∷◌, ◌++◌, length, get_or, set, refl, ap, sym, ◌∙◌, arith}
use Rattle.std.specs.List.{IsDistinct}
use Rattle.std.proofs.lemmas.Bool.{false≢true, or_parts, eq-eqb}
use Rattle.std.proofs.lemmas.List.{get_or-set_other}
use Rattle.index_list.specs.Listing.{stands_in, others}
use Rattle.index_list.proofs.Places.{cut}
use Rattle.client_lists.specs.Clients.{total, longest}

pub total-append : (lens xs ys : List ℕ) → total lens (xs ++ ys) ≡ total lens xs + total lens ys
total-append lens [] ys = omega arith
total-append lens (x ∷ xs) ys =
    let e = total-append lens xs ys in
    omega arith

-- a length that is none of theirs doesn't count
pub total-set : (lens : List ℕ) (node len : ℕ) (xs : List ℕ) → stands_in node xs ≡ false → total (set lens node len) xs ≡ total lens xs
total-set lens node len [] e = refl
total-set lens node len (x ∷ xs) e =
    let p = or_parts (eqb node x) (stands_in node xs) e in
    let here = get_or-set_other lens node x len 0 (λ s. false≢true (sym p.0 ∙ eq-eqb node x (sym s))) in
    let rest = total-set lens node len xs p.1 in
    omega arith

-- a node that leaves takes its length along
pub total-others : (lens : List ℕ) (node : ℕ) (xs : List ℕ) → IsDistinct eqb xs → stands_in node xs ≡ true → total lens (others node xs) + get_or lens node 0 ≡ total lens xs
total-others lens node xs d e =
    let w = cut node xs d e in
    let was = ap (total lens) w.was ∙ total-append lens w.before (node ∷ w.rest) in
    let left = ap (total lens) w.left ∙ total-append lens w.before w.rest in
    omega arith

-- no sum is above so many times the longest length
pub total-le : (lens xs : List ℕ) → ((node : ℕ) → get_or lens node 0 ≤ longest) → total lens xs ≤ longest * length xs
total-le lens [] b = omega arith
total-le lens (x ∷ xs) b =
    let here = b x in
    let rest = total-le lens xs b in
    omega arith
