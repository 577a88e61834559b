-- What a run of a plan comes to: its status, its report, and what became of each query.
use Rattle.std.specs.Prelude.{◌≡◌, ◌≢◌, ◌+◌, ◌*◌, ◌++◌, ◌==◌, ◌⊎◌, ℕ, Bool, true, false, List, [], ◌∷◌, Option, Some, None, Ok, Err, IfSome, length, if◌then◌else◌}
use Rattle.std.specs.List.{list_all}
use Rattle.outside.specs.Counts.{Rose}
use Rattle.outside.specs.Faults.{Faults, FailsAt, NoneFailed}
use Rattle.query_plan.specs.PlanOf.{plan_of}
use Rattle.query_plan.specs.declared.error.PlanErr.{PlanErr}
use Rattle.query_plan.specs.declared.plan.Plan.{Plan}
use Rattle.query_plan.specs.declared.plan.Query.{Query}
use Rattle.run_report.specs.Report.{outcome_text}
use Rattle.run_report.specs.declared.cause.Cause.TheVariants as cause
use Rattle.run_report.specs.declared.outcome.Outcome.TheVariants.{Refused}
use Rattle.spill_top.specs.declared.ending.Ending.{Ending}
use Rattle.spill_top.specs.Endings.{outcome_of, status_of}
use Rattle.spill_top.specs.Report.{Tells, TellsOrMisses, shortage}
use Rattle.spill_top.specs.Reserving.{refusals_of}
use Rattle.spill_top.specs.Running.{HaveEnded, Seen, Went}
use Rattle.spill_top.specs.Storing.{HaveStored, all_owed}

-- the report: its bytes, where they are told, and its faults
pub record Telling : Type 0 where
  pub text : Option (List ℕ)
  pub faults : Faults

abbrev pub telling : Option (List ℕ) → Faults → Telling
telling text faults = record { text = text; faults = faults }

-- the line of the query at a place, which is counted from 0
abbrev pub line_of_query : ℕ → Query → Ending → List ℕ
line_of_query place query ending = outcome_text (Some (place + 1)) (outcome_of query ending)

-- the line, if it was made
abbrev pub if_made : Bool → List ℕ → List ℕ
if_made made line = if made then line else []

-- the lines of queries from a place on, but for those that found no memory
abbrev pub lines_from : ℕ → List Query → List Ending → List Bool → List ℕ
lines_from place (query ∷ queries) (ending ∷ ends) (made ∷ rest) = if_made made (line_of_query place query ending) ++ lines_from (place + 1) queries ends rest
lines_from place _ _ _ = []

-- the first status that is not 0, or 0
abbrev pub first_status : List Ending → ℕ
first_status [] = 0
first_status (ending ∷ ends) = if status_of ending == 0 then first_status ends else status_of ending

-- the status of all: where each query has its answer, a fault of the report is 9 and a line that is missing 10
abbrev pub IsRunStatus : ℕ → List Bool → Telling → Telling → ℕ → Type 0
IsRunStatus first made before now status =
    ((first ≢ 0) × (status ≡ first))
    ⊎ ((first ≡ 0) × (((status ≡ 0) × (list_all (λ is. is) made ≡ true) × NoneFailed before.faults now.faults) ⊎ ((status ≡ 9) × FailsAt before.faults now.faults now.text) ⊎ ((status ≡ 10) × (list_all (λ is. is) made ≡ false))))

-- a line for each query was appended to the report, or a front of them where its faults rose
pub record Reported (queries : List Query) (ends : List Ending) (before now : Telling) (status : ℕ) : Type 0 where
  pub made : List Bool
  pub each : length made ≡ length queries
  pub tells : Tells (lines_from 0 queries ends made) before.text now.text before.faults now.faults
  pub status_is : IsRunStatus (first_status ends) made before now status

-- the plan's file could not be read
pub record PlanUnread (file : List ℕ) (start now : Seen) (before after : Telling) (status : ℕ) : Type 0 where
  pub status_is : status ≡ 3
  pub fault : Rose (start.reads file) (now.reads file)
  pub tells : TellsOrMisses (outcome_text None (Refused 3 cause.PlanInput)) before.text after.text before.faults after.faults

-- its bytes are no plan over so many slots, for this first cause
pub record IsNoPlan (told : Option (List ℕ)) (slots : ℕ) (before after : Telling) (status : ℕ) : Type 0 where
  pub status_is : status ≡ 2
  pub why : PlanErr
  pub refused : IfSome told (λ bytes. plan_of bytes slots ≡ Err why)
  pub tells : TellsOrMisses (outcome_text None (Refused 2 (cause.Plan why))) before.text after.text before.faults after.faults

-- memory was wanting before anything was done for a query
pub record WantsMemory (before after : Telling) (status : ℕ) : Type 0 where
  pub status_is : status ≡ 10
  pub tells : Tells shortage before.text after.text before.faults after.faults

-- the queries of the plan ran, once its file was given back, and what those with an answer must keep beyond their memory was stored
pub record RanQueries (told : Option (List ℕ)) (slots : ℕ) (start now : Seen) (before after : Telling) (status : ℕ) : Type 0 where
  pub plan : Plan
  pub is_plan : IfSome told (λ bytes. plan_of bytes slots ≡ Ok plan)
  pub ready : Seen
  pub read : Went start ready
  pub untouched : (name : List ℕ) → ready.written name ≡ start.written name
  pub ends : List Ending
  pub as_many : length ends ≡ length plan.queries
  pub ended : HaveEnded ready now plan.block_len (refusals_of plan) plan.queries ends
  pub stored : HaveStored plan.block_len (all_owed (plan.blocks * plan.block_len) ready.files plan.queries ends) start.slots now.slots
  pub reported : Reported plan.queries ends before after status

-- one of the four; unless queries ran, nothing was done to outputs
abbrev pub RanPlan : List ℕ → ℕ → Seen → Seen → Telling → Telling → ℕ → Type 0
RanPlan file slots start now before after status =
    RanQueries (start.files file) slots start now before after status
    ⊎ (((name : List ℕ) → now.written name ≡ start.written name)
    × (PlanUnread file start now before after status ⊎ IsNoPlan (start.files file) slots before after status ⊎ WantsMemory before after status))
