-- The pages of a grouping's partitions, and those that its calls make.
use Rattle.std.specs.Prelude.{◌≡◌, ℕ, ◌+◌, ◌≤◌, List, length, sum_by}
use Rattle.pool_model.specs.LookingBack.{names_in}
use Rattle.row_codec.specs.declared.values.Value.{Value}
use Rattle.store_api.specs.Holdings.{Holdings}
use Rattle.store_api.specs.Signs.{Entered, Signs}
use Rattle.bucket_table.specs.Tables.{Table}
pub use Rattle.partition_stack.specs.Making.{MakesBeside, MakesFew}
use Rattle.group_op.specs.Held.{rows_of}
use Rattle.group_op.specs.Operator.{Holds, IsFeeding, Operator, entries_in}

-- how many pages its partitions have
abbrev pub pages_on : Operator → ℕ
pages_on op = sum_by (λ s. length s.pages) op.parts.streams

-- while a row was fed, whatever came of it: the partitions have the pages that they had and those that were made, and no more
-- than rows were fed before
pub record Makes (old new : Operator) (h : Holdings) (before after : Signs) : Type 0 where
  pub exact : Entered (λ more. pages_on new ≡ pages_on old + length (names_in more)) before.trail after.trail
  pub few : (fed : List (List Value)) → Holds fed old h before → pages_on new ≤ length fed

-- no more pages were made than so many rows but for those of a table
pub record MakesLess (most : ℕ) (table : Table) (before after : Signs) : Type 0 where
  pub made : ℕ
  pub fewer : length (rows_of table) + made ≤ most
  pub few : MakesFew made before after

-- the pages and the rows of the table are together no more than the rows fed
abbrev pub FewPages : Type 0
FewPages =
    (fed : List (List Value)) (op : Operator) (h : Holdings) (signs : Signs) → IsFeeding op → Holds fed op h signs → pages_on op + length (entries_in op.table) ≤ length fed
