-- Lists by their last elements.
use Rattle.std.proofs.Common.{◌≡◌, ◌⊎◌, ℕ, List, [], ◌∷◌, ◌++◌, length, take, refl, ap, sym, ◌∙◌, subst, inl, inr, arith, append_assoc, append-nil, length-append}
use Rattle.std.proofs.Math.Seq.{take-append_seam}

-- a list is empty or has a last element
pub last_or_none : {X : Type 0} → (xs : List X) → (xs ≡ []) ⊎ ((init : List X) × (x : X) × (xs ≡ init ++ x ∷ []))
last_or_none [] = inl refl
last_or_none (x ∷ xs) = elim (last_or_none xs) [
  | inl none ↦ inr ([], x, ap (λ ys. x ∷ ys) none)
  | inr some ↦ inr (x ∷ some.0, some.1, ap (λ ys. x ∷ ys) some.2)
]

-- lists that are the same with a last element each are the same without it
pub without_last : {X : Type 0} → (xs ys : List X) (x y : X) → xs ++ x ∷ [] ≡ ys ++ y ∷ [] → xs ≡ ys
without_last xs ys x y same =
    let long = length-append xs (x ∷ []) in
    let as_long = length-append ys (y ∷ []) in
    let all : length (xs ++ x ∷ []) ≡ length (ys ++ y ∷ []) = ap length same in
    let both : length xs ≡ length ys = omega (arith, all, long, as_long) in
    sym (take-append_seam xs (x ∷ [])) ∙ ap (take (length xs)) same ∙ ap (λ (n : ℕ). take n (ys ++ y ∷ [])) both ∙ take-append_seam ys (y ∷ [])

-- what holds of the empty list, and is kept by one element more behind it, holds of all lists
module _ {X : Type 0} (P : List X → Type 0) (more : (xs : List X) (x : X) → P xs → P (xs ++ x ∷ [])) where
  kept_on : (xs ys : List X) → P xs → P (xs ++ ys)
  kept_on xs [] holds = subst P (sym (append-nil xs)) holds
  kept_on xs (y ∷ ys) holds = subst P (append_assoc xs (y ∷ []) ys) (kept_on (xs ++ y ∷ []) ys (more xs y holds))

  pub by_last : P [] → (xs : List X) → P xs
  by_last none xs = kept_on [] xs none
