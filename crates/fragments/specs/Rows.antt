-- Batches that were dealt, and the rows in them. `rows_of` says which rows a batch has.
use Rattle.std.specs.Prelude.{◌≡◌, ◌+◌, ℕ, Bool, true, List, ◌++◌, sum_by}
use Rattle.std.specs.List.{flat_map}
use Rattle.std.specs.List.Sorted.{IsPermutation}

-- where the batches of some lists weigh what those that were given weigh, so do their rows
abbrev pub RowsWeighAsMuch : (T Row : Type 0) → Type 0
RowsWeighAsMuch T Row =
    (rows_of : T → List Row) (all : List T) (lists : List (List T)) → ((h : T → ℕ) → sum_by h all ≡ sum_by (sum_by h) lists)
    → (g : Row → ℕ) → sum_by g (flat_map rows_of all) ≡ sum_by g (flat_map (flat_map rows_of) lists)

-- a test answers for two elements just whether they are the same
pub record TellsApart {X : Type 0} (same : X → X → Bool) : Type 0 where
  pub exact : (x y : X) → same x y ≡ true → x ≡ y
  pub here : (x : X) → same x x ≡ true

-- lists that weigh the same, however their elements are weighed, are permutations of each other
abbrev pub EvenIsPermutation : (X : Type 0) → Type 0
EvenIsPermutation X = (same : X → X → Bool) → TellsApart same → (xs ys : List X) → ((h : X → ℕ) → sum_by h xs ≡ sum_by h ys) → IsPermutation xs ys
