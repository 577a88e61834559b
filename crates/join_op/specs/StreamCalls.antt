-- What a call that hands the pairs of streams' rows on needs and leaves. The store and the emitter come as the ghost members of their
-- traits, each as one value.
use Rattle.std.specs.Prelude.{◌≡◌, ℕ, Bool, List, Option, Result, OnOk, OnErr, IfErr, true}
use Rattle.row_codec.specs.declared.values.Value.{Value}
use Rattle.store_api.specs.Handing.{slots_beside}
use Rattle.store_api.specs.Holdings.{Holdings}
use Rattle.store_api.specs.declared.op_err.OpErr.{OpErr}
use Rattle.store_api.specs.declared.shapes.JoinShape.{JoinShape}
use Rattle.store_api.specs.declared.store.Store.{Ghosts as StoreGhosts}
use Rattle.store_api.specs.declared.emit.Emit.{Ghosts as EmitGhosts}
use Rattle.store_api.specs.Tokens.{ClientToken}
use Rattle.bucket_table.specs.Lending.{Lends}
use Rattle.bucket_table.specs.Tables.{Lent}
use Rattle.tuple_stream.specs.Streamed.{Streamed}
use Rattle.tuple_stream.specs.Streams.{HasRows}
use Rattle.tuple_stream.specs.Touches.{slots_with}
use Rattle.partition_stack.specs.Causes.{CameBeside}
use Rattle.partition_stack.specs.Emitting.{IsBeside, StaysEmitter, WentOn}
use Rattle.partition_stack.specs.Slots.{IsWantOf, KeepSlots}
use Rattle.join_op.specs.Chunks.{AdmitsJoined, AreReadable, ReadBoth}
use Rattle.join_op.specs.Handing.{Emitted, EmittedSome}
use Rattle.join_op.specs.declared.holding.Held.{Held}
use Rattle.join_op.specs.Holding.{held_rows, pairs_with}
use Rattle.join_op.specs.PairCalls.{took_by}
use Rattle.join_op.specs.Slots.{CameFull, Crowds, SameMost, slots_of_two}

-- this holds of the pairs of one stream's rows, and of two streams' rows, where pages show what was left in them
abbrev pub OfOne : (List (List ℕ) → List (List Value)) → Streamed → Holdings → (List (List Value) → Type 0) → Type 0
OfOne pairs one h P = (rows : List (List ℕ)) → h.told ≡ true → HasRows rows one h → P (pairs rows)

abbrev pub OfTwo : (List (List ℕ) → List (List ℕ) → List (List Value)) → Streamed → Streamed → Holdings → (List (List Value) → Type 0) → Type 0
OfTwo pairs left right h P =
    (lefts rights : List (List ℕ)) → h.told ≡ true → HasRows lefts left h → HasRows rights right h → P (pairs lefts rights)

-- the streams were read from what the store holds without what is lent
abbrev pub ReadLent : ClientToken → List Lent → Option ℕ → Streamed → Streamed → Streamed → Streamed → Holdings → Holdings → Type 0
ReadLent c lent client left left_now right right_now old new =
    (less : Holdings) → Lends c.tracker lent less old → AreReadable c left right less → ReadBoth c.tracker client left left_now right right_now less new

module _ {St E : Type 0} (store : StoreGhosts St) (emit : EmitGhosts E St) where
  -- an emitter that isn't this client's stands over the store, and admits each pair of rows of both sides
  pub record MayEmit (t : ℕ) (shape : JoinShape) (e : E) (s : St) : Type 0 where
    pub emitter : IsBeside t (emit.client e) (store.holds s)
    pub stands : (taken : List (List Value)) × took_by store emit e s taken
    pub admits : AdmitsJoined shape (emit.admits e)

  -- the emitter is what it was, and no page was made but those that it counts
  abbrev pub Stays : E → E → St → St → Type 0
  Stays e e_new s s_new =
      StaysEmitter (emit.admits e) (emit.admits e_new) (emit.client e) (emit.client e_new) (emit.faults e) (emit.faults e_new)
      (emit.creates e) (emit.creates e_new) (store.holds s_new) (store.signs s) (store.signs s_new)

  -- the store answered so in between, or a fault of the emitter came
  abbrev pub CameEither : ℕ → E → E → St → St → OpErr → Type 0
  CameEither blocks e e_new s s_new x =
      CameFull blocks (store.holds s_new).free_slots (emit.client e) (emit.faults e) (emit.faults e_new) (store.signs s) (store.signs s_new) x

  -- pairs were handed on, in any order; where an error came, some of them. `claims` says what holds of the pairs, and `mine` counts the
  -- free slots and those of the streams' pages, which have so many blocks
  pub record HandsOf (blocks : ℕ) (claims : (List (List Value) → Type 0) → Type 0) (mine mine_new : Option ℕ) (e e_new : E) (s s_new : St)
      (result : Result (Unit {0}) OpErr) : Type 0 where
    pub ok : OnOk result (claims (Emitted (took_by store emit e s) (took_by store emit e_new s_new)))
    pub err : OnErr result (claims (EmittedSome (took_by store emit e s) (took_by store emit e_new s_new)))
    -- whatever pages show, rows came behind what was taken
    pub stands : WentOn (took_by store emit e s) (took_by store emit e_new s_new)
    pub cause : IfErr result (CameEither blocks e e_new s s_new)
    -- a want of slots names the blocks of a page, where the emitter's pages have as many
    pub want : emit.page_blocks ≡ blocks → IfErr result (IsWantOf blocks (slots_beside store emit e_new s_new))
    -- it comes only where there are fewer than for one page and for what the emitter may have once it took some of the pairs
    pub crowded : IfErr result (λ x. claims (EmittedSome (took_by store emit e s) (Crowds (emit.slots_for e) blocks (slots_beside store emit e_new s_new) x)))
    pub most : SameMost (emit.slots_for e) (emit.slots_for e_new)
    pub slots : KeepSlots (emit.client e) mine mine_new (emit.slots e (store.holds s)) (emit.slots e_new (store.holds s_new))
    pub emitter : Stays e e_new s s_new

  -- so it is of one stream's rows with those that are held
  abbrev pub HandsOne : Bool → JoinShape → Held → Streamed → Streamed → E → E → St → St → Result (Unit {0}) OpErr → Type 0
  HandsOne turned shape held one now e e_new s s_new result =
      HandsOf one.page_blocks (OfOne (λ rows. pairs_with turned shape rows (held_rows held)) one (store.holds s))
      (slots_with one (store.holds s)) (slots_with now (store.holds s_new)) e e_new s s_new result

  -- and of two streams' rows, of which the first ones are right rows where the join is turned
  abbrev pub HandsTwo : Bool → JoinShape → Streamed → Streamed → Streamed → Streamed → E → E → St → St → Result (Unit {0}) OpErr → Type 0
  HandsTwo turned shape one one_now other other_now e e_new s s_new result =
      HandsOf one.page_blocks (OfTwo (pairs_with turned shape) one other (store.holds s))
      (slots_of_two one other (store.holds s)) (slots_of_two one_now other_now (store.holds s_new)) e e_new s s_new result

  -- the cause of an error, by the free slots and those of both streams' pages at the start
  abbrev pub CameOfTwo : Streamed → Streamed → E → E → St → St → OpErr → Type 0
  CameOfTwo left right e e_new s s_new x =
      CameBeside left.page_blocks (slots_of_two left right (store.holds s)) (emit.client e) (emit.faults e) (emit.faults e_new)
      (store.signs s) (store.signs s_new) x
