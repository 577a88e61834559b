-- The rows of a tree: what they stand for, and what their running numbers keep. About private fields.
use Rattle.std.specs.Prelude.{◌≡◌, ℕ, ◌+◌, ◌≤◌, ◌<◌, Some}
use Rattle.std.specs.Ordering.{nat_cmp}
use Rattle.std.specs.FinMap.{FinMap}
use Rattle.std.specs.FinMap as map
use Rattle.slab.specs.Slab.{Slab, get, slab_len, Updates}
use Rattle.reservation_tree.specs.declared.row.Row.{Row}
use Rattle.reservation_tree.specs.Tracker.{Tracker, Trackers, tracker_at, children_of, Hangs, FitsTree, IsTree, AreBelow}
use Rattle.reservation_tree.specs.Tree.{TreeState, charge_of}
use Rattle.reservation_tree.specs.Table.{table}

-- what a row says of its tracker
abbrev pub tracker_in : Row → Tracker
tracker_in row = record { parent = row.parent; depth = row.depth; limit = row.limit; reservation = row.reservation }

abbrev pub used_in : Row → ℕ
used_in row = row.used

abbrev pub trackers_in : Slab Row → Trackers
trackers_in rows = table tracker_in rows

abbrev pub charges_in : Slab Row → FinMap nat_cmp ℕ
charges_in rows = table used_in rows

abbrev pub state_in : Slab Row → TreeState
state_in rows = record { trackers = trackers_in rows; charges = charges_in rows }

-- each row's running number is the sum of its children
abbrev pub AreSums : Slab Row → Type 0
AreSums rows = (t : ℕ) (row : Row) → get rows t ≡ Some row → row.children ≡ children_of (trackers_in rows) t

-- what is kept of the rows
pub record IsSound (rows : Slab Row) : Type 0 where
  pub tree : IsTree (trackers_in rows)
  pub fits : FitsTree (charge_of (state_in rows)) (trackers_in rows)
  pub sums : AreSums rows
  pub counted : slab_len rows ≡ map.len (trackers_in rows)
  pub few : map.len (trackers_in rows) ≤ 4096
  pub capacity : rows.capacity ≡ 4096
  pub numbers : AreBelow 4096 (trackers_in rows)

-- the row that a live tracker has, and what holds of it
pub record IsRowOf (s : TreeState) (t : ℕ) (row : Row) : Type 0 where
  pub says : tracker_at s.trackers t ≡ tracker_in row
  pub used : row.used ≡ charge_of s t
  pub children : row.children ≡ children_of s.trackers t
  pub within : row.used + row.children ≤ row.reservation
  pub below : row.reservation ≤ row.limit
  pub hangs : Hangs s.trackers t row.depth row.parent
  pub few : row.depth < 4096

-- one row was changed in its place
pub record Writes (old new : Slab Row) (t : ℕ) (change : Row → Row) : Type 0 where
  pub updates : (row : Row) → get old t ≡ Some row → Updates old new t (Some (change row))
  pub len : slab_len new ≡ slab_len old
  pub capacity : new.capacity ≡ old.capacity

-- another reservation, another sum, another charge
abbrev pub with_reservation : ℕ → Row → Row
with_reservation bytes row = record row { reservation = bytes }

abbrev pub with_children : ℕ → Row → Row
with_children bytes row = record row { children = bytes }

abbrev pub with_used : ℕ → Row → Row
with_used bytes row = record row { used = bytes }
