-- A grouping that was started, over a store in which its client has nothing yet. Lengths are in bytes.
use Rattle.std.specs.Prelude.{ℕ, []}
use Rattle.store_api.specs.declared.shapes.Shape.{Shape}
use Rattle.store_api.specs.Conditions.{IsBlockCount}
use Rattle.store_api.specs.Holdings.{Holdings}
use Rattle.store_api.specs.Shapes.{IsShape}
use Rattle.store_api.specs.Signs.{Signs}
use Rattle.store_api.specs.Tokens.{ClientToken}
pub use Rattle.partition_stack.specs.Leaving.{MayStart}
use Rattle.group_op.specs.Operator.{IsFeeding, IsOperator, Keeps, started}

-- it is a grouping over the store, and keeps what was fed: nothing
pub record HasStarted (c : ClientToken) (blocks : ℕ) (shape : Shape) (h : Holdings) (signs : Signs) : Type 0 where
  pub op : IsOperator (started c blocks shape) h signs
  pub feeding : IsFeeding (started c blocks shape)
  pub keeps : Keeps signs.trail [] (started c blocks shape) h signs

-- so is each that was started
abbrev pub AllStart : Type 0
AllStart = (c : ClientToken) (blocks : ℕ) (shape : Shape) (h : Holdings) (signs : Signs) → IsShape shape → IsBlockCount blocks → MayStart c blocks h → HasStarted c blocks shape h signs
