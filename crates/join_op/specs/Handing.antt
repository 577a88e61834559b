-- Pairs go to an emitter, in any order. `was` and `now` say what it took before and after.
use Rattle.std.specs.Prelude.{ℕ, ◌+◌, List, ◌++◌, Option}
use Rattle.row_codec.specs.declared.values.Value.{Value}
use Rattle.store_api.specs.declared.op_err.OpErr.{OpErr}
use Rattle.partition_stack.specs.Slots.{IsWantBelowOf}
use Rattle.join_op.specs.Pairs.{SameRows}

-- these rows came behind what was taken, each as often, in any order
pub record Emitted (was now : List (List Value) → Type 0) (pairs : List (List Value)) : Type 0 where
  pub rows : List (List Value)
  pub same : SameRows rows pairs
  pub came : (taken : List (List Value)) → was taken → now (taken ++ rows)

-- some of them did
pub record CameSome (taken : List (List Value)) (now : List (List Value) → Type 0) (pairs : List (List Value)) : Type 0 where
  pub some : List (List Value)
  pub rest : List (List Value)
  pub same : SameRows (some ++ rest) pairs
  pub came : now (taken ++ some)

abbrev pub EmittedSome : (List (List Value) → Type 0) → (List (List Value) → Type 0) → List (List Value) → Type 0
EmittedSome was now pairs = (taken : List (List Value)) → was taken → CameSome taken now pairs

-- a want of slots comes only where the total is below `most` and what an emitter may have that took some of these pairs behind others
pub record IsWantAmong (slots_for : List (List Value) → ℕ) (taken pairs : List (List Value)) (most : ℕ) (total : Option ℕ) (e : OpErr) : Type 0 where
  pub some : List (List Value)
  pub rest : List (List Value)
  pub same : SameRows (some ++ rest) pairs
  pub below : IsWantBelowOf (most + slots_for (taken ++ some)) total e
