-- The path of a key as one number, which a key that is kept has beside its bytes.
use Rattle.std.specs.Prelude.{ℕ, ◌+◌, ◌*◌, List, fold}
use Rattle.row_codec.specs.Order.{path_of}

-- a number, and below it these digits to the base 16, the most significant first
abbrev pub number_from : ℕ → List ℕ → ℕ
number_from number digits = fold (λ n digit. n * 16 + digit) number digits

-- a path as one number, level 0 its most significant digit
abbrev pub path_number : List ℕ → ℕ
path_number key = number_from 0 (path_of key)
