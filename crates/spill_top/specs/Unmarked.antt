-- What stops a query over a pool whose blocks have no marks: no load of it finds another mark than the wanted one.
use Rattle.std.specs.Prelude.{ℕ, Option, Result, IfErr, ⊤}
use Rattle.reservation_tree.specs.declared.errors.PoolErr.{PoolErr}
use Rattle.reservation_tree.specs.declared.errors.PoolErr.TheVariants.{Stale}
use Rattle.query_plan.specs.declared.plan.Query.{Query}
use Rattle.query_run.specs.Both.{Told}
use Rattle.query_run.specs.Causes.{OfPool}
use Rattle.query_run.specs.Run.{RanQuery, World}
use Rattle.query_run.specs.Stopped.{StoppedQuery}
use Rattle.query_plan.specs.declared.outcome.QueryErr.{QueryErr}
use Rattle.store_api.specs.Holdings.{Holdings}
use Rattle.store_api.specs.Signs.{Signs}
use Rattle.outside.specs.declared.stream.Sink.{Ghosts as SinkGhosts}
use Rattle.outside.specs.declared.stream.Source.{Ghosts as SourceGhosts}
use Rattle.store_api.specs.declared.store.Store.{Ghosts as StoreGhosts}
use Rattle.query_plan.specs.declared.outcome.Ran.{Ran}

-- an answer that needs no marks
abbrev pub IsUnmarked : PoolErr → Type 0
IsUnmarked (Stale wanted found) = ⊥
IsUnmarked _ = ⊤

-- the store over which the plan runs gave this answer, and it is one without marks
pub record StoppedUnmarked (plan : Query) (told : Option Told) (start : Holdings) (old new : Signs) (e : PoolErr) : Type 0 where
  pub by_store : StoppedQuery plan told start old new e
  pub unmarked : IsUnmarked e

abbrev pub MayStopUnmarked : Query → Option Told → Holdings → Signs → Signs → QueryErr → Type 0
MayStopUnmarked plan told start old new e = OfPool (StoppedUnmarked plan told start old new) e

-- a plan ran over a store, and what stopped it, if anything did, needs no marks
module _ {S K St : Type 0} (source : SourceGhosts S) (target : SinkGhosts K) (under : StoreGhosts St) where
  pub record RanUnmarked (plan : Query) (before after : World S K) (old new : St) (result : Result Ran QueryErr) : Type 0 where
    pub ran : RanQuery source target under plan before after old new result
    pub unmarked : IfErr result (OfPool IsUnmarked)
