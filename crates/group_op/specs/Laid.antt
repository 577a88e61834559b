-- Partial rows on pages that were left before one is pinned again. Lengths are in bytes.
use Rattle.std.specs.Prelude.{◌≡◌, ℕ, ◌*◌, ◌≤◌, List, ◌++◌, All, length, Option}
use Rattle.std.specs.List.Sorted.{IsPermutation}
use Rattle.pool_model.specs.declared.entry.Entry.{Entry}
use Rattle.pool_model.specs.declared.event.Event.{Event}
use Rattle.row_codec.specs.declared.values.Value.{Value}
use Rattle.row_codec.specs.Order.{path_order}
use Rattle.store_api.specs.declared.shapes.Shape.{Shape}
use Rattle.tuple_stream.specs.Families.{Family, HaveReadAll, ShowAll}
use Rattle.tuple_stream.specs.FamilyCalls.{AllAtEnd, AllWhole, HaveLaid}
use Rattle.tuple_stream.specs.Trails.{EnteredEvents, Leaves}
use Rattle.group_rows.specs.Standing.{StandFor}
use Rattle.group_rows.specs.Tables.{HaveDistinctKeys}
use Rattle.group_op.specs.Stored.{IsPartialRow, grouping_of, keys_len, partials_at}

-- first pages are left, each once, and none is pinned again or ends; then one is pinned before any is left, and while none
-- is, none of the streams `g` behind it has a pinned page. The rows on them are partial rows, no more than the rows fed, and
-- stand for these: one for each key, where those of all keys, with four bytes more each, fit in two pages
pub record HoldsGroups (shape : Shape) (len : ℕ) (fed : List (List Value)) (g : Family) (events : List Event) : Type 0 where
  pub laid : List Event
  pub later : List Event
  pub split : events ≡ laid ++ later
  pub rows : List (List ℕ)
  pub leaves : Leaves rows laid
  pub reads : HaveReadAll g later
  pub formed : All (IsPartialRow shape) rows
  pub few : length rows ≤ length fed
  pub stand : StandFor path_order (grouping_of shape) fed (partials_at shape rows)
  pub small : keys_len shape fed ≤ 2 * len → HaveDistinctKeys (partials_at shape rows)

-- streams that were built since the trail stood at `start`, with these rows
pub record AreBuilt (start : Option (List Entry)) (rows : ℕ → List (List ℕ)) (f : Family) : Type 0 where
  pub shows : ShowAll rows f
  pub at_end : AllAtEnd f
  pub whole : AllWhole f
  pub laid : EnteredEvents (HaveLaid f) start f.signs.trail

-- these rows, in some order, are on the pages that were left
pub record HasLeft (rows : List (List ℕ)) (events : List Event) : Type 0 where
  pub these : List (List ℕ)
  pub leaves : Leaves these events
  pub moved : IsPermutation rows these

-- they are on those that were left before one is pinned again
pub record HasLeftFirst (rows : List (List ℕ)) (g : Family) (events : List Event) : Type 0 where
  pub laid : List Event
  pub later : List Event
  pub split : events ≡ laid ++ later
  pub left : HasLeft rows laid
  pub reads : HaveReadAll g later
