-- What a join keeps beside what contracts see of it. No public clause cites this.
use Rattle.std.specs.Prelude.{◌≡◌, ℕ, List, Bool, true, false, length}
use Rattle.store_api.specs.declared.shapes.JoinShape.{JoinShape}
use Rattle.partition_stack.specs.Stack.{RestBelow, Stack, first_sixteen}
use Rattle.join_op.specs.Stored.{left_side, right_side}

-- the columns are those of the shape; the left side is told to rest only where it does, and it is before a right row comes
pub record IsInside (shape : JoinShape) (left_columns right_columns : List ℕ) (left_rests : Bool) (left right : Stack) : Type 0 where
  pub on_left : left_columns ≡ (left_side shape).columns
  pub on_right : right_columns ≡ (right_side shape).columns
  pub rests : left_rests ≡ true → RestBelow (length left.streams) left
  pub before : left_rests ≡ false → right ≡ first_sixteen right.page_blocks
