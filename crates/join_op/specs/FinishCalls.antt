-- What a call that hands the pairs of all rows that were fed on needs and leaves. The store and the emitter come as the ghost members
-- of their traits, each as one value.
use Rattle.std.specs.Prelude.{◌≡◌, ℕ, ◌+◌, ◌*◌, List, Option, Result, OnOk, OnErr, IfErr, length, true}
use Rattle.pool_model.specs.declared.entry.Entry.{Entry}
use Rattle.row_codec.specs.declared.values.Value.{Value}
use Rattle.reservation_tree.specs.declared.errors.PoolErr.{PoolErr}
use Rattle.store_api.specs.Holdings.{Holdings}
use Rattle.store_api.specs.Signs.{Signs}
use Rattle.store_api.specs.Tokens.{ClientToken}
use Rattle.store_api.specs.declared.op_err.OpErr.{OpErr}
use Rattle.store_api.specs.declared.shapes.JoinShape.{JoinShape}
use Rattle.store_api.specs.declared.store.Store.{Ghosts as StoreGhosts}
use Rattle.store_api.specs.declared.emit.Emit.{Ghosts as EmitGhosts}
use Rattle.tuple_stream.specs.Families.{slots_in}
use Rattle.tuple_stream.specs.Trails.{EnteredEvents}
use Rattle.partition_stack.specs.Causes.{CameBeside}
use Rattle.partition_stack.specs.Emitting.{LeavesBeside}
use Rattle.partition_stack.specs.Making.{MakesBeside}
use Rattle.partition_stack.specs.Slots.{IsWantBelow, IsWantOf, KeepSlots, with_more}
use Rattle.partition_stack.specs.Stack.{Stack, over}
use Rattle.join_op.specs.Handing.{Emitted, EmittedSome, IsWantAmong}
use Rattle.join_op.specs.Joining.{both}
use Rattle.join_op.specs.Laid.{HoldsSides}
use Rattle.join_op.specs.Operator.{IsFeeding, IsOperator, Keeps, Operator, operator, over_both, slots_for}
use Rattle.join_op.specs.PairCalls.{took_by}
use Rattle.join_op.specs.Pairs.{pairs_of}
use Rattle.join_op.specs.PartCalls.{StaysBeside}
use Rattle.join_op.specs.Rested.{KeepsRested}
use Rattle.join_op.specs.StreamCalls.{MayEmit}

-- this holds of the rows that a join keeps of those that were fed, where pages show what was left in them
abbrev pub OfFed : Operator → Holdings → Signs → (List (List Value) → List (List Value) → Type 0) → Type 0
OfFed join h signs P =
    (start : Option (List Entry)) → (lefts rights : List (List Value)) → Keeps start lefts rights join h signs → h.told ≡ true → P lefts rights

module _ {St : Type 0} (store : StoreGhosts St) where
  -- what the join kept of the rows that were fed it keeps now that all its pages rest
  abbrev pub HasKept : ClientToken → JoinShape → Stack → Stack → Stack → Stack → St → St → Type 0
  HasKept c shape left left_new right right_new s s_new =
      (start : Option (List Entry)) → (lefts rights : List (List Value))
      → Keeps start lefts rights (operator c shape left right) (store.holds s) (store.signs s)
      → KeepsRested start shape lefts rights (both left_new right_new (store.holds s_new) (store.signs s_new))

  -- a want of slots comes only where the slots of both sides are fewer than the pages of the rows that were fed and one more have
  abbrev pub IsWantForFed : Operator → St → PoolErr → Type 0
  IsWantForFed join s e =
      (start : Option (List Entry)) → (lefts rights : List (List Value)) → Keeps start lefts rights join (store.holds s) (store.signs s)
      → IsWantBelow (slots_for join (store.holds s) lefts rights) (slots_in (over_both join.left join.right (store.holds s) (store.signs s))) e

module _ {St E : Type 0} (store : StoreGhosts St) (emit : EmitGhosts E St) where
  -- a join that is fed may be finished with this emitter
  pub record MayFinish (join : Operator) (e : E) (s : St) : Type 0 where
    pub op : IsOperator join (store.holds s) (store.signs s)
    pub feeding : IsFeeding join
    pub emits : MayEmit store emit join.client.tracker join.shape e s

  -- the slots that are free, and those of the pages of both sides
  abbrev pub own_slots : Operator → St → Option ℕ
  own_slots join s = slots_in (over_both join.left join.right (store.holds s) (store.signs s))

  -- and those of the emitter's
  abbrev pub all_of : Operator → E → St → Option ℕ
  all_of join e s = with_more (emit.slots e (store.holds s)) (own_slots join s)

  -- the join became `now` while the pairs of all rows went to the emitter
  pub record Finishes (join now : Operator) (e e_new : E) (s s_new : St) (result : Result (Unit {0}) OpErr) : Type 0 where
    -- each pair as often as it occurs, in any order; where an error came, some of them
    pub ok : OnOk result (OfFed join (store.holds s) (store.signs s) (λ ls rs.
        Emitted (took_by store emit e s) (took_by store emit e_new s_new) (pairs_of join.shape ls rs)))
    pub err : OnErr result (OfFed join (store.holds s) (store.signs s) (λ ls rs.
        EmittedSome (took_by store emit e s) (took_by store emit e_new s_new) (pairs_of join.shape ls rs)))
    -- all pages of both sides were left before one was pinned again
    pub kept : OnOk result ((start : Option (List Entry)) → (lefts rights : List (List Value))
        → Keeps start lefts rights join (store.holds s) (store.signs s)
        → EnteredEvents (HoldsSides join.shape lefts rights
        (over now.left (store.holds s_new) (store.signs s_new)) (over now.right (store.holds s_new) (store.signs s_new)) (e_new ≡ e))
        start (store.signs s_new).trail)
    pub client : now.client ≡ join.client
    pub op : IsOperator now (store.holds s_new) (store.signs s_new)
    pub leaves : LeavesBeside join.client.tracker (emit.client e) (store.holds s) (store.holds s_new) (store.signs s) (store.signs s_new)
    -- each row goes to deeper partitions at most fifteen times
    pub made : OfFed join (store.holds s) (store.signs s) (λ ls rs.
        MakesBeside (15 * (length ls + length rs)) (emit.creates e) (emit.creates e_new) (store.signs s) (store.signs s_new))
    pub emitter : StaysBeside store emit e e_new s s_new
    pub cause : IfErr result (CameBeside join.left.page_blocks (own_slots join s) (emit.client e)
        (emit.faults e) (emit.faults e_new) (store.signs s) (store.signs s_new))
    pub slots : KeepSlots (emit.client e) (own_slots join s) (own_slots now s_new) (emit.slots e (store.holds s)) (emit.slots e_new (store.holds s_new))
    -- where the emitter's pages have as many blocks, a want of slots is so of the slots of both
    pub want : emit.page_blocks ≡ join.left.page_blocks → IfErr result (IsWantOf join.left.page_blocks (all_of join e s))
    -- it comes only where these are fewer than the rows' pages and one more have, and the emitter may have once it took some pairs
    pub enough : IfErr result (λ x. (start : Option (List Entry)) → (lefts rights taken : List (List Value))
        → Keeps start lefts rights join (store.holds s) (store.signs s) → (store.holds s).told ≡ true → took_by store emit e s taken
        → IsWantAmong (emit.slots_for e) taken (pairs_of join.shape lefts rights) (slots_for join (store.holds s) lefts rights) (all_of join e s) x)

  -- so it is of the partitions of a join that is taken apart
  abbrev pub FinishesSides : ClientToken → JoinShape → Stack → Stack → Stack → Stack → E → E → St → St → Result (Unit {0}) OpErr → Type 0
  FinishesSides c shape left left_new right right_new e e_new s s_new result =
      Finishes (operator c shape left right) (operator c shape left_new right_new) e e_new s s_new result
