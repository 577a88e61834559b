-- Tables of rows by their numbers.
use Rattle.std.specs.Prelude.{◌≡◌, ℕ, option_map, unwrap_or}
use Rattle.std.specs.Ordering.{nat_cmp}
use Rattle.std.specs.FinMap.{FinMap, get, from_entries}
use Rattle.std.specs.BTreeMap.{BTreeMap}

module _ {X : Type 0} where
  -- the finite map that a map of std is
  unfoldable pub rows_in : BTreeMap ℕ X → FinMap nat_cmp X
  rows_in m = from_entries {R = nat_cmp} m.entries

module _ {X Y : Type 0} where
  -- the rows are those of what is live, each as it is told of
  abbrev pub Mirrors : (X → Y) → FinMap nat_cmp X → FinMap nat_cmp Y → Type 0
  Mirrors told live rows = (k : ℕ) → get rows k ≡ option_map told (get live k)

-- the amount under a number, and 0 where there is none
abbrev pub amount_at : FinMap nat_cmp ℕ → ℕ → ℕ
amount_at amounts k = unwrap_or (get amounts k) 0
