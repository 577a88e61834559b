-- What a query must keep on pages, and what its trail laid there. Lengths are in bytes.
use Rattle.std.specs.Prelude.{◌≡◌, ◌≤◌, ◌++◌, ℕ, List, All, Option, Some, None, IfSome, eqb, length, map, sum_by}
use Rattle.std.specs.List.{IsDistinct}
use Rattle.pool_model.specs.declared.entry.Entry.{Entry}
use Rattle.pool_model.specs.declared.event.Event.{Event}
use Rattle.row_codec.specs.Order.{path_order}
use Rattle.row_codec.specs.RowBytes.{key_bytes, row_bytes}
use Rattle.tuple_stream.specs.Trails.{EnteredEvents, IsBuilding, all_left}
use Rattle.group_rows.specs.Keyed.{keys_in}
use Rattle.group_op.specs.Stored.{row_len}
use Rattle.query_plan.specs.declared.plan.Query.{Query}
use Rattle.query_plan.specs.declared.plan.SidePlan.{SidePlan}
use Rattle.query_run.specs.Both.{Told, both_told, passing_of_both}
use Rattle.query_run.specs.Input.{passing}
use Rattle.query_run.specs.Plans.{IsRunnable, shape_of}
use Rattle.query_run.specs.Trail.{KeptRows}

-- how long the rows are that a query must keep: of a join those of both sides that pass, and of a grouping one partial row for each key
abbrev pub spill_with : Option SidePlan → Query → Told → ℕ
spill_with (Some right) plan told = sum_by (λ row. length (row_bytes row)) (passing_of_both plan told)
spill_with None plan told = sum_by (row_len (shape_of plan)) (keys_in path_order (key_bytes plan.group) (passing plan told.left))

abbrev pub spill : Query → Told → ℕ
spill plan told = spill_with plan.right plan told

-- how long the pages are that these events leave
abbrev pub bytes_left : List Event → ℕ
bytes_left events = sum_by (λ l. length l.bytes) (all_left events)

-- first pages of so many bytes together, or more, are left, each once, and none is pinned again or ends
pub record LaysBytes (bytes : ℕ) (events : List Event) : Type 0 where
  pub laid : List Event
  pub later : List Event
  pub split : events ≡ laid ++ later
  pub building : All IsBuilding laid
  pub once : IsDistinct eqb (map (λ l. l.name) (all_left laid))
  pub long : bytes ≤ bytes_left laid

-- where the bytes of the inputs are told, pages for all that the query must keep were laid
abbrev pub LaysSpill : Query → Option Told → Option (List Entry) → Option (List Entry) → Type 0
LaysSpill plan told start now = IfSome told (λ both. EnteredEvents (LaysBytes (spill plan both)) start now)

-- a query that kept its rows did so
abbrev pub KeptIsLaid : Type 0
KeptIsLaid = (plan : Query) (page : ℕ) (lefts rights : Option (List ℕ)) (start now : Option (List Entry)) → IsRunnable plan → KeptRows plan page lefts rights start now → LaysSpill plan (both_told lefts rights) start now
