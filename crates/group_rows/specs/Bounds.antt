-- Where counts and sums are the true ones, and what a least and a greatest number are.
use Rattle.std.specs.Prelude.{◌≡◌, ℕ, ◌<◌, ◌≤◌, ◌^◌, List, All, length, pos, FitsSigned, ◌≤ℤ◌}
use Rattle.std.specs.Int.{w64}
use Rattle.std.specs.List.{Contains}
use Rattle.row_codec.specs.declared.values.Agg.TheVariants.{Count, Sum, Min, Max}
use Rattle.row_codec.specs.declared.values.Value.{Value}
use Rattle.group_rows.specs.Aggregates.{aggregate, numbers_at, total}

-- the numbers of a column fit in 64 bits
abbrev pub FitIn64 : ℕ → List (List Value) → Type 0
FitIn64 column rows = All (λ n. FitsSigned w64 n) (numbers_at column rows)

-- the count, and the sum of each column of 64 bits, didn't wrap
pub record AreTrue (rows : List (List Value)) : Type 0 where
  pub count : aggregate Count rows ≡ pos (length rows)
  pub sum : (column : ℕ) → FitIn64 column rows → aggregate (Sum column) rows ≡ total (numbers_at column rows)

-- so it is for at most 2^62 rows
abbrev pub SumsAreTrue : Type 0
SumsAreTrue = (rows : List (List Value)) → length rows ≤ 2 ^ 62 → AreTrue rows

-- the least and the greatest number of a column stand in it, and no number is below or above them
pub record AreExtremes (column : ℕ) (rows : List (List Value)) : Type 0 where
  pub least_there : Contains (numbers_at column rows) (aggregate (Min column) rows)
  pub least_below : All (λ n. aggregate (Min column) rows ≤ℤ n) (numbers_at column rows)
  pub greatest_there : Contains (numbers_at column rows) (aggregate (Max column) rows)
  pub greatest_above : All (λ n. n ≤ℤ aggregate (Max column) rows) (numbers_at column rows)

-- so it is for at least one row
abbrev pub ExtremesAreTrue : Type 0
ExtremesAreTrue = (column : ℕ) (rows : List (List Value)) → 0 < length rows → AreExtremes column rows
