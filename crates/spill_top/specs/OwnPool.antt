-- What a query leaves that ran over a pool of its own: what it read and wrote, why the pool stopped it, and its slots. What slots
-- count together is a tally: `slots` before the call, and `slots_now` that they came back.
use Rattle.std.specs.Prelude.{ℕ, Result, IfErr, OnOk}
use Rattle.outside.specs.declared.stream.Sink.{Ghosts as SinkGhosts}
use Rattle.outside.specs.declared.stream.Source.{Ghosts as SourceGhosts}
use Rattle.pin_core.specs.declared.conf.PoolConf.{PoolConf}
use Rattle.pin_core.specs.declared.tally.Tally.{Tally}
use Rattle.query_plan.specs.Sizes.{page_len}
use Rattle.query_plan.specs.declared.outcome.QueryErr.{QueryErr}
use Rattle.query_plan.specs.declared.outcome.Ran.{Ran}
use Rattle.query_plan.specs.declared.plan.Query.{Query}
use Rattle.query_run.specs.Causes.{OfPool}
use Rattle.query_run.specs.Run.{ReadAndWrote, World, inputs}
use Rattle.spill_top.specs.Pooled.{ComeBack, HaveFailed, IsPoolStop, all_tell, memory_of}
use Rattle.spill_top.specs.Sides.{if_told}
use Rattle.spill_top.specs.Storing.{HaveStored, owed}

module _ {S K : Type 0} (source : SourceGhosts S) (target : SinkGhosts K) where
  -- an answer is promised where all slots tell what they hold; its pages could take `quota` of them, all are there again, and where
  -- it has its answer, what it must keep beyond its memory was stored
  pub record RanPooled (query : Query) (conf : PoolConf) (quota : ℕ) (slots slots_now : Tally) (before after : World S K)
      (result : Result Ran QueryErr) : Type 0 where
    pub outside : ReadAndWrote source target query (page_len query conf.block_len) (all_tell slots) before after result
    pub pool : IfErr result (OfPool (IsPoolStop query (page_len query conf.block_len) (if_told (all_tell slots) (inputs source before)) quota
        (HaveFailed slots slots_now)))
    pub back : ComeBack slots slots_now
    pub stored : OnOk result (HaveStored conf.block_len (owed query (memory_of conf) (inputs source before)) slots slots_now)
