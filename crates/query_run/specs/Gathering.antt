-- What the groupings over several stores hold goes to one more, beside its own store. About inner calls; no public clause cites this.
use Rattle.std.specs.Prelude.{◌≡◌, ◌<◌, ◌⊎◌, ◌≤◌, ℕ, List, [], true, length, slice_index_or, take}
use Rattle.std.specs.List.{flat_map}
use Rattle.reservation_tree.specs.declared.errors.PoolErr.{PoolErr}
use Rattle.row_codec.specs.declared.values.Value.{Value}
use Rattle.store_api.specs.Signs.{WasAnswered}
use Rattle.store_api.specs.declared.store.Store.{Ghosts as StoreGhosts}
use Rattle.group_op.specs.Operator.{Holds, Operator, page_of}
use Rattle.group_op.specs.Pouring.{HoldsBesides}
use Rattle.query_run.specs.Inside.{GoesOn}
use Rattle.query_run.specs.Several.{AnsweredByOne}
use Rattle.query_run.specs.Taking.{GroupGoes, GroupStands}

module _ {St : Type 0} (under : StoreGhosts St) where
  -- each may be handed over to this one
  pub record MayGather (stores : List St) (ops : List Operator) (beside : St) (into : Operator) : Type 0 where
    pub many : length stores ≡ length ops
    pub stands : GroupStands into (under.holds beside) (under.signs beside)
    pub each : (k : ℕ) (d : St) (f : Operator) → k < length ops
        → GroupStands (slice_index_or ops k f) (under.holds (slice_index_or stores k d)) (under.signs (slice_index_or stores k d))
    pub alike : (k : ℕ) (d : St) (f : Operator) → k < length ops → (into.shape ≡ (slice_index_or ops k f).shape)
        × (page_of into (under.holds beside) ≡ page_of (slice_index_or ops k f) (under.holds (slice_index_or stores k d)))

  -- these rows were fed to the groupings, and each store tells what a pin shows
  pub record HoldLists (stores : List St) (ops : List Operator) (lists : List (List (List Value))) : Type 0 where
    pub len : length lists ≡ length ops
    pub each : (k : ℕ) (d : St) (f : Operator) → k < length ops → ((under.holds (slice_index_or stores k d)).told ≡ true)
        × Holds (slice_index_or lists k []) (slice_index_or ops k f) (under.holds (slice_index_or stores k d)) (under.signs (slice_index_or stores k d))

  -- whatever was fed to each of them, this one holds too
  abbrev pub AllHandedOver : List St → List Operator → St → Operator → St → Operator → Type 0
  AllHandedOver stores ops beside into beside' into' =
      (lists : List (List (List Value))) (mine : List (List Value)) → HoldLists stores ops lists → Holds mine into (under.holds beside) (under.signs beside)
      → HoldsBesides mine (flat_map (λ list. list) lists) into' (under.holds beside') (under.signs beside')

  -- it went on over its store, and takes rows still
  abbrev pub WentOn : St → Operator → St → Operator → Type 0
  WentOn beside into beside' into' = GroupGoes into into' (under.holds beside) (under.holds beside') (under.signs beside) (under.signs beside')

  -- each of the others is one over its store still
  pub record LeftAll (stores : List St) (ops : List Operator) (stores' : List St) (ops' : List Operator) : Type 0 where
    pub len : length stores' ≡ length stores
    pub many : length ops' ≡ length ops
    pub each : (k : ℕ) (d : St) (f : Operator) → k < length ops
        → GoesOn (slice_index_or ops k f) (slice_index_or ops' k f) (under.holds (slice_index_or stores k d)) (under.holds (slice_index_or stores' k d))
        (under.signs (slice_index_or stores k d)) (under.signs (slice_index_or stores' k d))

  -- one of the stores answered so, or the one beside them
  abbrev pub AnsweredBeside : List St → List St → St → St → PoolErr → Type 0
  AnsweredBeside stores stores' beside beside' e = AnsweredByOne under stores stores' e ⊎ WasAnswered e (under.signs beside) (under.signs beside')

  -- those before a place were handed over, and the others are as they were
  pub record GatheredTo (at : ℕ) (stores : List St) (ops : List Operator) (beside : St) (into : Operator) (stores' : List St) (ops' : List Operator) (beside' : St) (into' : Operator) : Type 0 where
    pub len : length stores' ≡ length stores
    pub many : length ops' ≡ length ops
    pub went : WentOn beside into beside' into'
    pub done : (k : ℕ) (d : St) (f : Operator) → k < at
        → GoesOn (slice_index_or ops k f) (slice_index_or ops' k f) (under.holds (slice_index_or stores k d)) (under.holds (slice_index_or stores' k d))
        (under.signs (slice_index_or stores k d)) (under.signs (slice_index_or stores' k d))
    pub rest_stores : (k : ℕ) (d : St) → at ≤ k → slice_index_or stores' k d ≡ slice_index_or stores k d
    pub rest_ops : (k : ℕ) (f : Operator) → at ≤ k → slice_index_or ops' k f ≡ slice_index_or ops k f
    pub holds : (lists : List (List (List Value))) (mine : List (List Value)) → HoldLists stores ops lists → Holds mine into (under.holds beside) (under.signs beside)
        → HoldsBesides mine (flat_map (λ list. list) (take at lists)) into' (under.holds beside') (under.signs beside')
