-- Batches of numbers.
use Rattle.std.specs.Prelude.{◌≡◌, ℕ, List, ◌++◌}
use Rattle.std.specs.List.{flat_map}
use Rattle.tests_fragments.specs.declared.batches.Batch.{Batch}
use Rattle.tests_fragments.specs.declared.sharing.Kept.{Kept}

abbrev pub rows_of : Batch → List ℕ
rows_of batch = batch.rows.items

-- the rows of these batches came behind what was there
pub record TookRows (f g : Kept) (items : List Batch) : Type 0 where
  pub behind : g.items.items ≡ f.items.items ++ flat_map rows_of items

-- the rows of these batches stood before what is left
pub record GaveRows (was left : List ℕ) (items : List Batch) : Type 0 where
  pub before : was ≡ flat_map rows_of items ++ left

-- they are all that there was
pub record EndedRows (was : List ℕ) (items : List Batch) : Type 0 where
  pub all : was ≡ flat_map rows_of items
