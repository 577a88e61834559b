-- What a grouping asks of its store: the block length, whether pages show what was left in them, and what is its client's.
use Rattle.std.specs.Prelude.{◌≡◌, ℕ, ◌*◌, ◌≤◌, List, Some, length, sum_by}
use Rattle.row_codec.specs.declared.values.Value.{Value}
use Rattle.store_api.specs.Emitters.{SameOwn}
use Rattle.store_api.specs.Holdings.{Holdings}
use Rattle.store_api.specs.Signs.{Signs}
use Rattle.tuple_stream.specs.Touches.{slots_of}
use Rattle.partition_stack.specs.Stack.{IsStack}
use Rattle.group_op.specs.Operator.{Holds, IsFeeding, IsOperator, Operator}

-- the slots that its pages have
abbrev pub slots_on : Operator → Holdings → ℕ
slots_on op h = sum_by (λ s. sum_by (slots_of s h) s.pages) op.parts.streams

-- over a store that holds the same for it, it is what it was, and holds what it held
pub record StaysSame (op : Operator) (old new : Holdings) (before after : Signs) : Type 0 where
  pub is : IsOperator op new after
  pub holds : (fed : List (List Value)) → Holds fed op old before → Holds fed op new after
  pub slots : slots_on op new ≡ slots_on op old

abbrev pub AsksOwn : Type 0
AsksOwn =
    (op : Operator) (old new : Holdings) (before after : Signs) → SameOwn (Some op.client.tracker) old new → IsOperator op old before
    → StaysSame op old new before after

-- its pages have together no more slots than a page for each row that was fed
abbrev pub FewSlots : Type 0
FewSlots =
    (fed : List (List Value)) (op : Operator) (h : Holdings) (signs : Signs) → IsStack op.parts → IsFeeding op → Holds fed op h signs
    → slots_on op h ≤ op.parts.page_blocks * length fed
