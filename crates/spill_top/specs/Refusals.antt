-- Which refusal the cause of a query is, and what a command says of it.
use Rattle.std.specs.Prelude.{◌≡◌, ℕ, List, Option, Some, None, ⊤}
use Rattle.outside.specs.Faults.{Faults}
use Rattle.reservation_tree.specs.declared.errors.PoolErr.{PoolErr}
use Rattle.reservation_tree.specs.declared.errors.PoolErr.TheVariants as pool
use Rattle.query_plan.specs.declared.outcome.QueryErr.{QueryErr}
use Rattle.query_plan.specs.declared.outcome.QueryErr.TheVariants as query
use Rattle.spill_top.specs.declared.report.Refusal.{Refusal}
use Rattle.spill_top.specs.declared.report.Refusal.TheVariants.{InputFault, Header, Csv, Large, Row, Scratch, Names, Write, Read}
use Rattle.spill_top.specs.Report.{TellsOrMisses, line_of, status_of}

-- the refusal of a pool; want of memory is none, and nothing else is answered to a query
abbrev pub refusal_of_pool : PoolErr → Option Refusal
refusal_of_pool (pool.ScratchFull need free) = Some (Scratch need free)
refusal_of_pool pool.NamesSpent = Some Names
refusal_of_pool (pool.WriteFault entry) = Some (Write entry)
refusal_of_pool (pool.ReadFault entry) = Some (Read entry)
refusal_of_pool _ = None

-- the refusal of an input or of a pool; a column of texts has no bad field, and a fault of the sink is none
abbrev pub refusal_for : QueryErr → Option Refusal
refusal_for (query.SourceFault side) = Some InputFault
refusal_for (query.BadHeader side) = Some Header
refusal_for (query.BadCsv side number) = Some (Csv number)
refusal_for (query.BadField side number column) = None
refusal_for (query.TooLarge side) = Some Large
refusal_for (query.RowTooLong side number bytes) = Some (Row number bytes)
refusal_for query.SinkFault = None
refusal_for (query.Pool e) = refusal_of_pool e

-- a refusal of the pool, which may come when some of the answer was written
abbrev pub IsOfPool : Refusal → Type 0
IsOfPool InputFault = ⊥
IsOfPool Header = ⊥
IsOfPool (Csv number) = ⊥
IsOfPool Large = ⊥
IsOfPool (Row number weight) = ⊥
IsOfPool _ = ⊤

-- the status is that of the refusal, and the report has its line, unless that found no memory
pub record Says (refusal : Refusal) (status : ℕ) (report report_now : Option (List ℕ)) (writes writes_now : Faults) : Type 0 where
  pub status_is : status ≡ status_of refusal
  pub tells : TellsOrMisses (line_of refusal) report report_now writes writes_now
