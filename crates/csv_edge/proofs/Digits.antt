-- The number that digits spell, digit by digit.
use Rattle.std.proofs.Common.{◌≡◌, ◌<◌, ◌+◌, ◌-◌, ◌*◌, ℕ, List, [], ◌∷◌, Bool, true, false, None, get_or, drop, length, refl, arith}
use Rattle.std.specs.Prelude.{if◌then◌else◌, nat_le}
use Rattle.std.proofs.lemmas.List.{drop_more}
use Rattle.csv_edge.specs.Ints.{is_digit, number_from, up_to}

above : (most number : ℕ) → most < number → nat_le number most ≡ false
above most number lt = grind arith

digit_or_not : (most number byte : ℕ) (rest : List ℕ) (digit : Bool)
    → ((more : ℕ) → most < more → up_to most (number_from more rest) ≡ None)
    → most < number → up_to most (if digit then number_from (number * 10 + (byte - 48)) rest else None) ≡ None
digit_or_not most number byte rest true later lt = later (number * 10 + (byte - 48)) (omega arith)
digit_or_not most number byte rest false later lt = refl

-- a number that is too large stays too large
stays_large : (most number : ℕ) (digits : List ℕ) → most < number → up_to most (number_from number digits) ≡ None
stays_large most number [] lt = rw (above most number lt) refl
stays_large most number (byte ∷ rest) lt = digit_or_not most number byte rest (is_digit byte) (λ more past. stays_large most more rest past) lt

pub digit_too_large : (most number i : ℕ) (digits : List ℕ) → i < length digits → is_digit (get_or digits i 0) ≡ true → most < number * 10 + (get_or digits i 0 - 48)
    → None ≡ up_to most (number_from number (drop i digits))
digit_too_large most number i digits lt digit past =
    rw (drop_more digits i 0 lt, digit, stays_large most (number * 10 + (get_or digits i 0 - 48)) (drop (i + 1) digits) past) refl
