-- What is told of a join that is finished.
use Rattle.std.proofs.Common.{◌≡◌, ℕ, List, Option, Result, Ok, Err, IfErr, true}
use Rattle.store_api.specs.Signs.{Grows, Signs}
use Rattle.store_api.specs.declared.op_err.OpErr.{OpErr}
use Rattle.store_api.specs.declared.store.Store.{Ghosts as StoreGhosts}
use Rattle.store_api.specs.declared.emit.Emit.{Ghosts as EmitGhosts}
use Rattle.partition_stack.specs.Causes.{CameBeside}
use Rattle.partition_stack.specs.Slots.{with_more}
use Rattle.pool_model.specs.declared.entry.Entry.{Entry}
use Rattle.row_codec.specs.declared.values.Value.{Value}
use Rattle.join_op.specs.FinishCalls.{OfFed, own_slots}
use Rattle.join_op.specs.Handing.{EmittedSome, IsWantAmong}
use Rattle.join_op.specs.Operator.{Keeps, Operator, slots_for}
use Rattle.join_op.specs.PairCalls.{took_by}
use Rattle.join_op.specs.Pairs.{pairs_of}
use Rattle.join_op.specs.Slots.{Crowds}
use Rattle.join_op.proofs.Crowding.{among}
use Rattle.join_op.proofs.Paired.{came_till}

-- the cause stays one while more grows
pub cause_till : {X : Type 0} (r : Result X OpErr) (blocks : ℕ) (total client : Option ℕ) (f g : ℕ) (a b k : Signs) → Grows b k → IfErr r (CameBeside blocks total client f g a b) → IfErr r (CameBeside blocks total client f g a k)
cause_till (Ok x) blocks total client f g a b k grows came = tt
cause_till {X} (Err e) blocks total client f g a b k grows came = record { came = came_till {X = X} (Err e) f g a b k grows came.came; want = came.want }

-- what is said at last of a want of slots
pub enough_of : {St E X : Type 0} (store : StoreGhosts St) (emit : EmitGhosts E St) (join : Operator) (e : E) (s : St) (r : Result X OpErr)
    → IfErr r (λ x. OfFed join (store.holds s) (store.signs s) (λ ls rs. EmittedSome (took_by store emit e s) (Crowds (emit.slots_for e) (slots_for join (store.holds s) ls rs) (with_more (emit.slots e (store.holds s)) (own_slots store emit join s)) x) (pairs_of join.shape ls rs)))
    → IfErr r (λ x. (start : Option (List Entry)) → (lefts rights taken : List (List Value)) → Keeps start lefts rights join (store.holds s) (store.signs s) → (store.holds s).told ≡ true → took_by store emit e s taken
    → IsWantAmong (emit.slots_for e) taken (pairs_of join.shape lefts rights) (slots_for join (store.holds s) lefts rights) (with_more (emit.slots e (store.holds s)) (own_slots store emit join s)) x)
enough_of store emit join e s (Ok y) some = tt
enough_of store emit join e s (Err x) some = λ start lefts rights taken keeps told took.
    among (took_by store emit e s) (emit.slots_for e) (pairs_of join.shape lefts rights) taken (slots_for join (store.holds s) lefts rights) (with_more (emit.slots e (store.holds s)) (own_slots store emit join s)) x (some start lefts rights keeps told) took
