-- Sums over a finite map whose keys are numbers.
use Rattle.std.specs.Prelude.{ℕ, ◌+◌, List, [], ◌∷◌, Option, Some, None}
use Rattle.std.specs.Ordering.{nat_cmp}
use Rattle.std.specs.FinMap.{FinMap, entries}

module _ {X : Type 0} where
  -- the weights of these entries together
  abbrev pub weigh : (ℕ → X → ℕ) → List (ℕ × X) → ℕ
  weigh w [] = 0
  weigh w (e ∷ es) = w e.0 e.1 + weigh w es

  -- the weights of all entries of a map together
  unfoldable pub total : (ℕ → X → ℕ) → FinMap nat_cmp X → ℕ
  total w m = weigh w (entries m)

  -- the weight of a value under its key, and 0 where there is none
  abbrev pub weight_at : (ℕ → X → ℕ) → ℕ → Option X → ℕ
  weight_at w key None = 0
  weight_at w key (Some x) = w key x
