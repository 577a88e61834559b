-- A join once all its pages rest and none is pinned again.
use Rattle.std.specs.Prelude.{List, Option}
use Rattle.pool_model.specs.declared.entry.Entry.{Entry}
use Rattle.row_codec.specs.declared.values.Value.{Value}
use Rattle.store_api.specs.declared.shapes.JoinShape.{JoinShape}
use Rattle.tuple_stream.specs.Trails.{EnteredEvents}
use Rattle.partition_stack.specs.Stack.{over}
use Rattle.join_op.specs.Joining.{Both, IsBetween}
use Rattle.join_op.specs.Operator.{AreFirst, KeepsSide, LaidBoth}
use Rattle.join_op.specs.Stored.{left_side, right_side}

-- it keeps what was fed since its store's trail stood at `start`
pub record KeepsRested (start : Option (List Entry)) (shape : JoinShape) (lefts rights : List (List Value)) (b : Both) : Type 0 where
  pub left : KeepsSide (left_side shape) lefts (over b.left b.held b.signs)
  pub right : KeepsSide (right_side shape) rights (over b.right b.held b.signs)
  pub laid : EnteredEvents (LaidBoth (over b.left b.held b.signs) (over b.right b.held b.signs)) start b.signs.trail

-- no page is pinned, and both sides have sixteen partitions of the first level
pub record HasRested (b : Both) : Type 0 where
  pub between : IsBetween b
  pub first : AreFirst b.left
