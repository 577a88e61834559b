-- What holds of legal traces. Statements alone.
use Rattle.std.specs.Prelude.{◌≡◌, List, [], ◌∷◌, ◌++◌}
use Rattle.std.specs.List.{AllZip}
use Rattle.reservation_tree.specs.Tracker.{FitsTree}
use Rattle.pool_model.specs.declared.entry.Entry.{Entry}
use Rattle.pool_model.specs.declared.skeleton.Skeleton.{Skeleton}
use Rattle.pool_model.specs.State.{Opening, State}
use Rattle.pool_model.specs.Sums.{charge_of, FitsClients, FitsMemory}
use Rattle.pool_model.specs.Legal.{state_after, IsLegal}
use Rattle.pool_model.specs.Traces.{skeleton_of, skeletons, HasTrace, IsLegalTrace, CanFollow}

-- the trace of a legal history is legal
abbrev pub LegalHistoriesHaveTraces : Type 0
LegalHistoriesHaveTraces = (o : Opening) (h : List Entry) → IsLegal o h → IsLegalTrace o (skeletons h)

-- a history has one entry for each skeleton of its trace, in its place
abbrev pub TracesSkipNothing : Type 0
TracesSkipNothing = (o : Opening) (h : List Entry) (trace : List Skeleton) → HasTrace o h trace → AllZip (λ e k. skeleton_of e ≡ k) h trace

-- every front of a legal trace is legal
abbrev pub TraceFronts : Type 0
TraceFronts = (o : Opening) (front more : List Skeleton) → IsLegalTrace o (front ++ more) → IsLegalTrace o front

-- a trace with one skeleton more is legal exactly where some legal history that has the trace can go on with it
pub record TraceGrows (o : Opening) (trace : List Skeleton) (k : Skeleton) : Type 0 where
  pub on : (h : List Entry) → HasTrace o h trace → CanFollow h (state_after o h) k → IsLegalTrace o (trace ++ k ∷ [])
  pub only : IsLegalTrace o (trace ++ k ∷ []) → (h : List Entry) × HasTrace o h trace × CanFollow h (state_after o h) k

abbrev pub TracesGrow : Type 0
TracesGrow = (o : Opening) (trace : List Skeleton) (k : Skeleton) → TraceGrows o trace k

-- the pool fits its trackers, its clients and its memory
pub record FitsPool (s : State) : Type 0 where
  pub trackers : FitsTree (charge_of s) s.trackers
  pub clients : FitsClients s
  pub memory : FitsMemory s

-- the pool fits after each front of a legal trace
abbrev pub TracesFit : Type 0
TracesFit = (o : Opening) (front more : List Skeleton) → IsLegalTrace o (front ++ more)
    → (h : List Entry) × HasTrace o h front × FitsPool (state_after o h)
