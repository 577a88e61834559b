-- How long rows and parts of rows are.
use Rattle.std.proofs.Common.{◌≡◌, ℕ, ◌+◌, ◌<◌, ◌≤◌, min, List, [], ◌∷◌, ◌++◌, length, take, arith}
use Rattle.std.proofs.Common.{append-nil}
use Rattle.std.specs.Prelude.{fold, flat_map, All}
use Rattle.std.proofs.lemmas.List.{take_more}
use Rattle.std.proofs.lemmas.List.Concat.{flat_map-append}
use Rattle.std.proofs.lemmas.List.Elements.{All-push}
use Rattle.std.proofs.Common.{get_or}
use Rattle.std.proofs.lemmas.List.{length-append}
use Rattle.std.proofs.lemmas.List.Folds.{length-flat_map-take}

-- a sum that stops at a greatest number is the lesser of the whole sum and that number
pub saturated : {A X : Type 0} (f : A → List X) (most start : ℕ) (xs : List A) → start ≤ most → fold (λ n x. min (n + length (f x)) most) start xs ≡ min (start + length (flat_map f xs)) most
saturated f most start [] low = omega arith
saturated f most start (x ∷ xs) low =
    let rest : length (f x ++ flat_map f xs) ≡ length (f x) + length (flat_map f xs) = length-append (f x) (flat_map f xs) in
    let later = saturated f most (min (start + length (f x)) most) xs (omega arith) in
    omega arith

-- a field of a row stands behind the ones before it and within the row
pub field_within : {A X : Type 0} (f : A → List X) (xs : List A) (i : ℕ) (x : A) → i < length xs → x ≡ get_or xs i x → length (flat_map f (take i xs)) + length (f x) ≤ length (flat_map f xs)
field_within f xs i x below is = rw is (length-flat_map-take f xs i x below)

-- one field more
pub field_more : {A X : Type 0} (f : A → List X) (xs : List A) (i : ℕ) (x : A) → i < length xs → x ≡ get_or xs i x → flat_map f (take (i + 1) xs) ≡ flat_map f (take i xs) ++ f x
field_more f xs i x below is =
    rw (take_more xs i x below, ← is, flat_map-append f (take i xs) (x ∷ []), append-nil)

pub all_more : {A : Type 0} (P : A → Type 0) (xs : List A) (i : ℕ) (x : A) → i < length xs → x ≡ get_or xs i x → All P (take i xs) → P x → All P (take (i + 1) xs)
all_more P xs i x below is before here = rw (take_more xs i x below, ← is) (All-push P (take i xs) x before here)
