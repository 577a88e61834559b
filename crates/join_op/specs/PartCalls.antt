-- What a call that hands the pairs of both sides' partitions on needs and leaves. The store and the emitter come as the ghost members
-- of their traits, each as one value.
use Rattle.std.specs.Prelude.{◌≡◌, ℕ, ◌+◌, List, None, Option, Result, OnErr, IfErr, length}
use Rattle.row_codec.specs.declared.values.Value.{Value}
use Rattle.reservation_tree.specs.declared.errors.PoolErr.{PoolErr}
use Rattle.store_api.specs.Emitters.{CameOf}
use Rattle.store_api.specs.Tokens.{ClientToken}
use Rattle.store_api.specs.declared.op_err.OpErr.{OpErr}
use Rattle.store_api.specs.declared.shapes.JoinShape.{JoinShape}
use Rattle.store_api.specs.declared.store.Store.{Ghosts as StoreGhosts}
use Rattle.store_api.specs.declared.emit.Emit.{Ghosts as EmitGhosts}
use Rattle.partition_stack.specs.Emitting.{LeavesBeside, StandsStill}
use Rattle.partition_stack.specs.Making.{MakesBeside, MakesFew}
use Rattle.partition_stack.specs.Slots.{IsWantBelow, IsWantOf, KeepSlots, with_more}
use Rattle.partition_stack.specs.Stack.{Stack}
use Rattle.join_op.specs.Chunks.{stored_pairs}
use Rattle.join_op.specs.Handing.{Emitted, EmittedSome}
use Rattle.join_op.specs.Joining.{Advances, Both, HasDivided, IsBetween, ShowBoth, both, owed_both, pairs_down, slots_both, slots_by}
use Rattle.join_op.specs.Operator.{IsOperator, operator}
use Rattle.join_op.specs.PairCalls.{took_by}
use Rattle.join_op.specs.Slots.{Crowds, SameMost}
use Rattle.join_op.specs.StreamCalls.{MayEmit}

-- the pairs of the rows that partitions of both sides have, by their places
abbrev pub ByPlaces : Type 0
ByPlaces = (ℕ → List (List ℕ)) → (ℕ → List (List ℕ)) → List (List Value)

module _ {St : Type 0} (store : StoreGhosts St) where
  -- the partitions of both sides over what the store holds
  abbrev pub both_at : Stack → Stack → St → Both
  both_at left right s = both left right (store.holds s) (store.signs s)

  -- this holds of the rows that the partitions have, where nothing is spent
  abbrev pub OfShown : Stack → Stack → St → ((ℕ → List (List ℕ)) → (ℕ → List (List ℕ)) → Type 0) → Type 0
  OfShown left right s P = (lefts rights : ℕ → List (List ℕ)) → ShowBoth lefts rights (both_at left right s) → P lefts rights

  -- a want of slots comes only where the slots of both sides are fewer than the pages of their rows and one more have
  abbrev pub IsWantFor : Stack → Stack → St → PoolErr → Type 0
  IsWantFor left right s e =
      OfShown left right s (λ ls rs. IsWantBelow (slots_by (both_at left right s) ls rs) (slots_both (both_at left right s)) e)

  -- the rows of the top partitions, at this place, are in sixteen above them
  abbrev pub HasDividedAt : JoinShape → ℕ → ℕ → Stack → Stack → Stack → Stack → St → St → Type 0
  HasDividedAt shape at level left left_new right right_new s s_new = HasDivided shape at level (both_at left right s) (both_at left_new right_new s_new)

  -- for each page that was made a row of the partitions at this place went to a deeper one
  abbrev pub MakesForRows : ℕ → Stack → Stack → St → St → Type 0
  MakesForRows at left right s s_new =
      OfShown left right s (λ ls rs. MakesFew (length (ls at) + length (rs at)) (store.signs s) (store.signs s_new))

module _ {St E : Type 0} (store : StoreGhosts St) (emit : EmitGhosts E St) where
  -- the join is between two calls, and an emitter stands beside it
  pub record MayJoin (c : ClientToken) (shape : JoinShape) (left right : Stack) (e : E) (s : St) : Type 0 where
    pub op : IsOperator (operator c shape left right) (store.holds s) (store.signs s)
    pub between : IsBetween (both_at store left right s)
    pub emits : MayEmit store emit c.tracker shape e s

  -- the emitter stands over the store still, and took the same rows or more
  abbrev pub StaysBeside : E → E → St → St → Type 0
  StaysBeside e e_new s s_new =
      StandsStill (emit.admits e) (emit.admits e_new) (emit.client e) (emit.client e_new) (emit.faults e) (emit.faults e_new)
      (took_by store emit e s) (took_by store emit e_new s_new) (store.holds s_new)

  -- the slots that are free, those of both sides' pages and those of the emitter's
  abbrev pub all_slots : Stack → Stack → E → St → Option ℕ
  all_slots left right e s = with_more (emit.slots e (store.holds s)) (slots_both (both_at store left right s))

  -- the sides became these ones while pairs went to the emitter; where an error came, some of them did
  pub record HandsParts (pairs : ByPlaces) (c : ClientToken) (shape : JoinShape) (left left_new right right_new : Stack) (e e_new : E)
      (s s_new : St) (result : Result (Unit {0}) OpErr) : Type 0 where
    pub err : OnErr result (OfShown store left right s (λ ls rs.
        EmittedSome (took_by store emit e s) (took_by store emit e_new s_new) (pairs ls rs)))
    pub op : IsOperator (operator c shape left_new right_new) (store.holds s_new) (store.signs s_new)
    pub leaves : LeavesBeside c.tracker (emit.client e) (store.holds s) (store.holds s_new) (store.signs s) (store.signs s_new)
    pub emitter : StaysBeside e e_new s s_new
    pub slots : KeepSlots (emit.client e) (slots_both (both_at store left right s)) (slots_both (both_at store left_new right_new s_new))
        (emit.slots e (store.holds s)) (emit.slots e_new (store.holds s_new))
    -- a want of slots names the blocks of a page, and what pages leave over of all slots at the start
    pub alone : emit.client e ≡ None → IfErr result (IsWantOf left.page_blocks (slots_both (both_at store left right s)))
    pub want : emit.page_blocks ≡ left.page_blocks → IfErr result (IsWantOf left.page_blocks (all_slots left right e s))
    -- it comes only where these are fewer than the rows' pages and one more have, and the emitter may have once it took some pairs
    pub enough : IfErr result (λ x. OfShown store left right s (λ ls rs.
        EmittedSome (took_by store emit e s) (Crowds (emit.slots_for e) (slots_by (both_at store left right s) ls rs) (all_slots left right e s) x)
        (pairs ls rs)))
    pub most : SameMost (emit.slots_for e) (emit.slots_for e_new)
    pub cause : IfErr result (CameOf (emit.faults e) (emit.faults e_new) (store.signs s) (store.signs s_new))

  -- so it is of the pairs of all partitions
  abbrev pub HandsDown : ClientToken → JoinShape → Stack → Stack → Stack → Stack → E → E → St → St → Result (Unit {0}) OpErr → Type 0
  HandsDown c shape left left_new right right_new e e_new s s_new result =
      HandsParts (pairs_down shape (length left.streams)) c shape left left_new right right_new e e_new s s_new result

  -- and of those of the partitions at one place
  abbrev pub HandsTop : ℕ → ClientToken → JoinShape → Stack → Stack → Stack → Stack → E → E → St → St → Result (Unit {0}) OpErr → Type 0
  HandsTop at c shape left left_new right right_new e e_new s s_new result =
      HandsParts (λ ls rs. stored_pairs shape (ls at) (rs at)) c shape left left_new right right_new e e_new s s_new result

  -- all pairs of the partitions at one place were handed on, and the others have their rows
  abbrev pub HasPaired : ℕ → JoinShape → Stack → Stack → Stack → Stack → E → E → St → St → Type 0
  HasPaired at shape left left_new right right_new e e_new s s_new =
      OfShown store left right s (λ ls rs. ShowBoth ls rs (both_at store left_new right_new s_new)
      × Emitted (took_by store emit e s) (took_by store emit e_new s_new) (stored_pairs shape (ls at) (rs at)))

  -- the join went on by one step
  abbrev pub HasAdvanced : JoinShape → Stack → Stack → Stack → Stack → E → E → St → St → Type 0
  HasAdvanced shape left left_new right right_new e e_new s s_new =
      IsBetween (both_at store left_new right_new s_new)
      × OfShown store left right s (λ ls rs.
      Advances shape (took_by store emit e s) (took_by store emit e_new s_new) (emit.creates e) (emit.creates e_new) ls rs
      (both_at store left right s) (both_at store left_new right_new s_new))

  -- all pairs of all partitions were handed on
  abbrev pub HasJoined : JoinShape → Stack → Stack → E → E → St → St → Type 0
  HasJoined shape left right e e_new s s_new =
      OfShown store left right s (λ ls rs. Emitted (took_by store emit e s) (took_by store emit e_new s_new) (pairs_down shape (length left.streams) ls rs))

  -- for each page that was made, but for those that the emitter counts, a row went to a deeper partition
  abbrev pub MakesOwed : Stack → Stack → E → E → St → St → Type 0
  MakesOwed left right e e_new s s_new =
      OfShown store left right s (λ ls rs.
      MakesBeside (owed_both (both_at store left right s) ls rs) (emit.creates e) (emit.creates e_new) (store.signs s) (store.signs s_new))
