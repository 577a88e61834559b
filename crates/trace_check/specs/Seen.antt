-- What was read, as lists.
use Rattle.std.specs.Prelude.{ℕ, List, Option, option_map}
use Rattle.std.specs.Borrow.{Bor}

-- what was read, and the bytes behind it
abbrev pub seen : {X : Type 0} → Option (X × Bor (List ℕ)) → Option (X × List ℕ)
seen read = option_map (λ x. (x.0, x.1.now)) read
