-- An element is put in, and of too many the last one goes.
use Rattle.std.proofs.Common.{◌≡◌, ℕ, zero, suc, ◌≤◌, List, [], ◌∷◌, ◌++◌, length, take, ap, sym, refl, arith}
use Rattle.std.specs.Prelude.{insert}

take_front : {X : Type 0} (front : List X) (last : X) → take (length front) (front ++ last ∷ []) ≡ front
take_front [] last = refl
take_front (y ∷ front) last = ap (λ (ys : List _). y ∷ ys) (take_front front last)

-- before the last one went
pub before_last : {X : Type 0} (front : List X) (last x : X) (at : ℕ) → at ≤ length front → insert front at x ≡ take (suc (length front)) (insert (front ++ last ∷ []) at x)
before_last front last x zero inside = ap (λ (ys : List _). x ∷ ys) (sym (take_front front last))
before_last [] last x (suc at) inside = absurd (omega (arith, inside))
before_last (y ∷ front) last x (suc at) inside = ap (λ (ys : List _). y ∷ ys) (before_last front last x at (omega (arith, inside)))
