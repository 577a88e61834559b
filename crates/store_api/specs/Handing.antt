-- What a call that hands rows to an emitter needs and leaves, and what a call of one client leaves. The store and the
-- emitter come as the ghost members of their traits, each as one value.
use Rattle.std.specs.Prelude.{◌≡◌, ℕ, ◌≤◌, List, ◌++◌, Option, Some, All, Result, Err, IsOk, IsSome, OnOk, OnErr, IfErr}
use Rattle.row_codec.specs.declared.values.Value.{Value}
use Rattle.store_api.specs.Holdings.{account_of}
use Rattle.store_api.specs.Signs.{Grows}
use Rattle.store_api.specs.Emitters.{OthersStay, HasClient, KeepsRoom, IsSameEmitter, GrowsBy, CameOf, slots_with}
use Rattle.store_api.specs.declared.op_err.OpErr.{OpErr}
use Rattle.store_api.specs.declared.store.Store.{Ghosts as StoreGhosts}
use Rattle.store_api.specs.declared.emit.Emit.{Ghosts as EmitGhosts}

module _ {St E : Type 0} (store : StoreGhosts St) (emit : EmitGhosts E St) where
  -- the emitter took these rows, over what the store holds
  abbrev pub HasTaken : E → St → List (List Value) → Type 0
  HasTaken e s rows = emit.took e (store.holds s) rows

  -- it took these rows, and behind them a front of the others
  abbrev pub HasTakenFront : E → St → List (List Value) → List (List Value) → Type 0
  HasTakenFront e s taken others = (front rest : List (List Value)) × (others ≡ front ++ rest) × HasTaken e s (taken ++ front)

  -- the free slots, and those of the emitter's pages
  abbrev pub slots_beside : E → St → Option ℕ
  slots_beside e s = slots_with (emit.slots e (store.holds s)) (store.holds s)

  -- the emitter may be given these rows
  pub record MayHand (rows : List (List Value)) (e : E) (s : St) : Type 0 where
    pub admits : All (emit.admits e) rows
    pub client : HasClient (emit.client e) (store.holds s)
    pub taken : List (List Value)
    pub took : HasTaken e s taken

  -- the emitter is what it was, and whatever isn't its client's is as before
  pub record StandsBeside (e e_new : E) (s s_new : St) : Type 0 where
    pub same : IsSameEmitter (emit.admits e) (emit.admits e_new) (emit.client e) (emit.client e_new) (emit.slots_for e) (emit.slots_for e_new)
    pub client : HasClient (emit.client e) (store.holds s_new)
    pub others : OthersStay (emit.client e) (store.holds s) (store.holds s_new)
    pub room : KeepsRoom (emit.client e) (store.holds s) (store.holds s_new)
    pub slots : slots_beside e_new s_new ≡ slots_beside e s
    pub never_falls : emit.faults e ≤ emit.faults e_new
    pub grows : GrowsBy (emit.client e) (emit.creates e) (emit.creates e_new) (store.signs s) (store.signs s_new)

  -- the emitter was given these rows; where an error came, it took a front of them
  pub record Hands (rows : List (List Value)) (e e_new : E) (s s_new : St) (result : Result (Unit {0}) OpErr) : Type 0 where
    pub ok : OnOk result ((taken : List (List Value)) → HasTaken e s taken → HasTaken e_new s_new (taken ++ rows))
    pub err : OnErr result ((taken : List (List Value)) → HasTaken e s taken → HasTakenFront e_new s_new taken rows)
    pub cause : IfErr result (CameOf (emit.faults e) (emit.faults e_new) (store.signs s) (store.signs s_new))
    pub stands : StandsBeside e e_new s s_new

  -- two calls in a row, of which the first gave no error, hand on the rows of both
  abbrev pub HandsThen : Type 0
  HandsThen = (xs ys : List (List Value)) (e0 e1 e2 : E) (s0 s1 s2 : St) (first second : Result (Unit {0}) OpErr) → IsOk first
      → Hands xs e0 e1 s0 s1 first → Hands ys e1 e2 s1 s2 second → Hands (xs ++ ys) e0 e2 s0 s2 second

  -- where an error came, so it did of more rows
  abbrev pub HandsStopped : Type 0
  HandsStopped = (xs ys : List (List Value)) (e0 e1 : E) (s0 s1 : St) (e : OpErr) → Hands xs e0 e1 s0 s1 (Err e) → Hands (xs ++ ys) e0 e1 s0 s1 (Err e)

module _ {St : Type 0} (store : StoreGhosts St) where
  -- a call of this client, whose pages had and have so many slots, left its store so
  pub record LeavesStore (t theirs theirs_new : ℕ) (s s_new : St) : Type 0 where
    pub client : IsSome ((store.holds s_new).clients t)
    pub others : OthersStay (Some t) (store.holds s) (store.holds s_new)
    pub reserved : (account_of t (store.holds s)).reservation ≤ (account_of t (store.holds s_new)).reservation
    pub room : KeepsRoom (Some t) (store.holds s) (store.holds s_new)
    pub slots : slots_with theirs_new (store.holds s_new) ≡ slots_with theirs (store.holds s)
    pub grows : Grows (store.signs s) (store.signs s_new)

  -- so do two calls in a row
  abbrev pub LeavesThen : Type 0
  LeavesThen = (t n0 n1 n2 : ℕ) (s0 s1 s2 : St) → LeavesStore t n0 n1 s0 s1 → LeavesStore t n1 n2 s1 s2 → LeavesStore t n0 n2 s0 s2
