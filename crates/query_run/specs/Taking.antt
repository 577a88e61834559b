-- What takes the rows of an input: a grouping, or one side of a join. `a` is before calls and `b` behind them.
use Rattle.std.specs.Prelude.{◌≡◌, ◌+◌, ◌≤◌, ℕ, List, [], ◌++◌, Option, length}
use Rattle.pool_model.specs.LookingBack.{names_in}
use Rattle.pool_model.specs.declared.entry.Entry.{Entry}
use Rattle.reservation_tree.specs.declared.errors.PoolErr.{PoolErr}
use Rattle.row_codec.specs.declared.values.Kind.{Kind}
use Rattle.row_codec.specs.declared.values.Value.{Value}
use Rattle.store_api.specs.Holdings.{Holdings}
use Rattle.store_api.specs.Signs.{Entered, Signs}
use Rattle.tuple_stream.specs.Families.{slots_in}
use Rattle.partition_stack.specs.Leaving.{LeavesOthers}
use Rattle.partition_stack.specs.Making.{MakesFew}
use Rattle.partition_stack.specs.Slots.{IsWantBelow}
use Rattle.partition_stack.specs.Stack.{over}
use Rattle.group_op.specs.Making.{pages_on}
use Rattle.group_op.specs.Operator as group
use Rattle.join_op.specs.Operator as join
use Rattle.query_run.specs.Inside.{GoesOn}
use Rattle.query_run.specs.Stopped.{StoppedBy}

-- it takes the same rows still: of these kinds, with so many bytes more, and pages as long as they were
pub record TakesStill (kinds_old kinds : List Kind) (extra_old extra page_old page : ℕ) : Type 0 where
  pub kinds_same : kinds ≡ kinds_old
  pub extra_same : extra ≡ extra_old
  pub page_same : page ≡ page_old

-- ---- a grouping

-- these rows came behind those that it keeps
abbrev pub GroupFeeds : group.Operator → group.Operator → List (List Value) → Holdings → Holdings → Signs → Signs → Type 0
GroupFeeds a b rows old new before after = (start : Option (List Entry)) (fed : List (List Value)) → group.Keeps start fed a old before → group.Keeps start (fed ++ rows) b new after

-- calls left it one that is the same
pub record GroupGoes (a b : group.Operator) (old new : Holdings) (before after : Signs) : Type 0 where
  pub went : GoesOn a b old new before after
  pub same : group.IsSame a b

-- it is one over this store and may be fed
pub record GroupStands (op : group.Operator) (h : Holdings) (signs : Signs) : Type 0 where
  pub is : group.IsOperator op h signs
  pub feeding : group.IsFeeding op

-- the store stopped it so
abbrev pub GroupStops : group.Operator → Holdings → Signs → Signs → PoolErr → Type 0
GroupStops op h before after e = StoppedBy op.parts.page_blocks (slots_in (over op.parts h before)) before after e

-- its partitions have the pages that they had and those that were made, and no more than rows came, behind those that it keeps
pub record GroupMakes (a b : group.Operator) (rows : List (List Value)) (old : Holdings) (before after : Signs) : Type 0 where
  pub exact : Entered (λ more. pages_on b ≡ pages_on a + length (names_in more)) before.trail after.trail
  pub few : (start : Option (List Entry)) (fed : List (List Value)) → group.Keeps start fed a old before → pages_on b ≤ length fed + length rows

-- a want of slots comes only where there are fewer than the pages of these rows have, behind those that it keeps
abbrev pub GroupWants : group.Operator → List (List Value) → Holdings → Signs → PoolErr → Type 0
GroupWants op rows h before e =
    (start : Option (List Entry)) (fed : List (List Value)) → group.Keeps start fed op h before
    → IsWantBelow (group.slots_for 16 op h (fed ++ rows)) (slots_in (over op.parts h before)) e

-- ---- a side of a join

-- the free slots, and those of its pages
abbrev pub join_slots : join.Operator → Holdings → Signs → Option ℕ
join_slots op h signs = slots_in (join.over_both op.left op.right h signs)

-- left rows came behind those that it keeps, before any right one
abbrev pub LeftFeeds : join.Operator → join.Operator → List (List Value) → Holdings → Holdings → Signs → Signs → Type 0
LeftFeeds a b rows old new before after =
    (start : Option (List Entry)) (lefts : List (List Value)) → join.Keeps start lefts [] a old before → join.Keeps start (lefts ++ rows) [] b new after

-- so did right rows
abbrev pub RightFeeds : join.Operator → join.Operator → List (List Value) → Holdings → Holdings → Signs → Signs → Type 0
RightFeeds a b rows old new before after =
    (start : Option (List Entry)) (lefts rights : List (List Value)) → join.Keeps start lefts rights a old before → join.Keeps start lefts (rights ++ rows) b new after

-- calls left it one that is the same; its slots and the free ones are together as many, and nothing of others changed
pub record JoinGoes (a b : join.Operator) (old new : Holdings) (before after : Signs) : Type 0 where
  pub leaves : LeavesOthers a.client.tracker old new before after
  pub slots : join_slots b new after ≡ join_slots a old before
  pub same : join.IsSame a b

-- it is one over this store and may be fed
pub record JoinStands (op : join.Operator) (h : Holdings) (signs : Signs) : Type 0 where
  pub is : join.IsOperator op h signs
  pub feeding : join.IsFeeding op

-- so it is before a right row came
pub record LeftStands (op : join.Operator) (h : Holdings) (signs : Signs) : Type 0 where
  pub stands : JoinStands op h signs
  pub first : join.HasNoRight op

-- it made at most a page for each of these rows
abbrev pub JoinMakes : List (List Value) → Signs → Signs → Type 0
JoinMakes rows before after = MakesFew (length rows) before after

-- the store stopped it so
abbrev pub JoinStops : join.Operator → Holdings → Signs → Signs → PoolErr → Type 0
JoinStops op h before after e = StoppedBy op.left.page_blocks (join_slots op h before) before after e

-- a want of slots comes only where there are fewer than the pages of these left rows have, behind those that it keeps, before any
-- right one
abbrev pub LeftWants : join.Operator → List (List Value) → Holdings → Signs → PoolErr → Type 0
LeftWants op rows h before e =
    (start : Option (List Entry)) (lefts : List (List Value)) → join.Keeps start lefts [] op h before
    → IsWantBelow (join.slots_for op h (lefts ++ rows) []) (join_slots op h before) e

-- so it is of right rows
abbrev pub RightWants : join.Operator → List (List Value) → Holdings → Signs → PoolErr → Type 0
RightWants op rows h before e =
    (start : Option (List Entry)) (lefts rights : List (List Value)) → join.Keeps start lefts rights op h before
    → IsWantBelow (join.slots_for op h lefts (rights ++ rows)) (join_slots op h before) e
