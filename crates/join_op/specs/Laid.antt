-- Rows of both sides on pages that were left before one is pinned again.
use Rattle.std.specs.Prelude.{◌≡◌, ◌⊎◌, ℕ, List, ◌++◌, All, eqb, length, map}
use Rattle.std.specs.List.{IsDistinct}
use Rattle.pool_model.specs.declared.event.Event.{Event}
use Rattle.row_codec.specs.declared.values.Value.{Value}
use Rattle.store_api.specs.declared.shapes.JoinShape.{JoinShape}
use Rattle.tuple_stream.specs.Families.{AllClosed, Family}
use Rattle.tuple_stream.specs.Trails.{HasPin, Leaves, PinsFirst, all_left, creates_in}
use Rattle.row_reading.specs.Reading.{IsRowOf}
use Rattle.join_op.specs.Pairs.{SameRows}
use Rattle.join_op.specs.Stored.{Side, left_side, right_side, rows_in}

-- the rows that were fed to a side are on pages that these events made and left, each page once
pub record LeavesSide (side : Side) (fed : List (List Value)) (events : List Event) : Type 0 where
  pub rows : List (List ℕ)
  pub leaves : Leaves rows events
  pub made : creates_in events ≡ length (all_left events)
  pub formed : All (IsRowOf side.kinds) rows
  pub same : SameRows (rows_in side rows) fed

-- no page was left before one was pinned again, and while none was, none of either side is pinned, and `still` is so
pub record HaveReadBoth (f g : Family) (still : Type 0) (events : List Event) : Type 0 where
  pub first : PinsFirst events
  pub pinned : HasPin events ⊎ (AllClosed f × AllClosed g × still)

-- first the pages of the left side are made and left, then those of the right one, none twice, and none is pinned again or
-- ends; then one is pinned before any is left, and while none is, no page of the sides `f` and `g` behind it is pinned, and
-- `still` is so
pub record HoldsSides (shape : JoinShape) (lefts rights : List (List Value)) (f g : Family) (still : Type 0) (events : List Event) : Type 0 where
  pub lefts_laid : List Event
  pub rights_laid : List Event
  pub later : List Event
  pub split : events ≡ lefts_laid ++ (rights_laid ++ later)
  pub left : LeavesSide (left_side shape) lefts lefts_laid
  pub right : LeavesSide (right_side shape) rights rights_laid
  pub once : IsDistinct eqb (map (λ l. l.name) (all_left (lefts_laid ++ rights_laid)))
  pub reads : HaveReadBoth f g still later
