-- What a call that hands the pairs of rows in memory on needs and leaves. The store and the emitter come as the ghost members of
-- their traits, each as one value.
use Rattle.std.specs.Prelude.{List, Result, OnOk, OnErr, IfErr}
use Rattle.row_codec.specs.declared.values.Value.{Value}
use Rattle.store_api.specs.Emitters.{CameOf, HasClient}
use Rattle.store_api.specs.Handing.{StandsBeside, slots_beside}
use Rattle.store_api.specs.declared.op_err.OpErr.{OpErr}
use Rattle.store_api.specs.declared.shapes.JoinShape.{JoinShape}
use Rattle.store_api.specs.declared.store.Store.{Ghosts as StoreGhosts}
use Rattle.store_api.specs.declared.emit.Emit.{Ghosts as EmitGhosts}
use Rattle.partition_stack.specs.Slots.{IsWantOf}
use Rattle.join_op.specs.Chunks.{AdmitsJoined}
use Rattle.join_op.specs.Handing.{Emitted, EmittedSome}
use Rattle.join_op.specs.Slots.{Crowds}

module _ {St E : Type 0} (store : StoreGhosts St) (emit : EmitGhosts E St) where
  -- what the emitter took over what the store holds
  abbrev pub took_by : E → St → List (List Value) → Type 0
  took_by e s = emit.took e (store.holds s)

  -- the emitter stands over the store, and admits each pair of rows of both sides
  pub record MayPair (shape : JoinShape) (e : E) (s : St) : Type 0 where
    pub client : HasClient (emit.client e) (store.holds s)
    pub stands : (taken : List (List Value)) × took_by e s taken
    pub admits : AdmitsJoined shape (emit.admits e)

  -- these pairs were handed on, in any order; where an error came, some of them
  pub record HandsPairs (pairs : List (List Value)) (e e_new : E) (s s_new : St) (result : Result (Unit {0}) OpErr) : Type 0 where
    pub ok : OnOk result (Emitted (took_by e s) (took_by e_new s_new) pairs)
    pub err : OnErr result (EmittedSome (took_by e s) (took_by e_new s_new) pairs)
    -- the store answered so in between, or a fault of the emitter came
    pub cause : IfErr result (CameOf (emit.faults e) (emit.faults e_new) (store.signs s) (store.signs s_new))
    -- a want of slots names the blocks of the emitter's pages, and what such pages leave over
    pub want : IfErr result (IsWantOf emit.page_blocks (slots_beside store emit e_new s_new))
    -- it comes only where there are fewer than the emitter may have once it took some of the pairs
    pub crowded : IfErr result (λ x. EmittedSome (took_by e s) (Crowds (emit.slots_for e) 0 (slots_beside store emit e_new s_new) x) pairs)
    pub stands : StandsBeside store emit e e_new s s_new
