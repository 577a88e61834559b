-- Numbers as an input spells them: a sign or none, and one or more decimal digits.
use Rattle.std.specs.Prelude.{◌==◌, ◌&&◌, ◌+◌, ◌-◌, ◌*◌, ◌^◌, if◌then◌else◌, ℕ, ℤ, pos, neg_ℤ, Bool, List, [], ◌∷◌, Option, Some, None, option_map, nat_le}

-- whether a byte is a decimal digit
abbrev pub is_digit : ℕ → Bool
is_digit byte = nat_le 48 byte && nat_le byte 57

-- the number that these digits lead to behind those of `so_far`, if all are digits
abbrev pub number_from : ℕ → List ℕ → Option ℕ
number_from so_far [] = Some so_far
number_from so_far (byte ∷ rest) = if is_digit byte then number_from (so_far * 10 + (byte - 48)) rest else None

-- the number that one or more digits spell
abbrev pub number_of : List ℕ → Option ℕ
number_of [] = None
number_of (byte ∷ rest) = number_from 0 (byte ∷ rest)

-- a number, if it is at most this
abbrev pub up_to : ℕ → Option ℕ → Option ℕ
up_to most None = None
up_to most (Some number) = if nat_le number most then Some number else None

-- the whole number of 64 bits that a field spells
abbrev pub int_of : List ℕ → Option ℤ
int_of [] = None
int_of (first ∷ rest) =
    if first == 45 then option_map (λ n. neg_ℤ (pos n)) (up_to (2 ^ 63) (number_of rest))
    else if first == 43 then option_map pos (up_to (2 ^ 63 - 1) (number_of rest))
    else option_map pos (up_to (2 ^ 63 - 1) (number_of (first ∷ rest)))
