-- What a check of the program comes to: its status, its report, and what its output holds.
use Rattle.std.specs.Prelude.{◌≡◌, ◌≤◌, ◌⊎◌, true, pos, ℕ, Bool, List, Option, Some, None, IsSome, slice_index_or}
use Rattle.std.specs.Io.KnownBytes.{Appends, Keeps}
use Rattle.outside.specs.Counts.{Rose}
use Rattle.outside.specs.Faults.{FailsAt, NoneFailed}
use Rattle.outside.specs.Names.{Written}
use Rattle.csv_edge.specs.Written.{AppendsFront}
use Rattle.pin_core.specs.declared.tally.Tally.{Tally}
use Rattle.spill_top.specs.Pooled.{memory_of}
use Rattle.query_run.specs.Answer.{Numbers}
use Rattle.query_run.specs.Through.{need}
use Rattle.query_plan.specs.declared.outcome.QueryErr.{QueryErr}
use Rattle.query_plan.specs.declared.outcome.QueryErr.TheVariants.{SinkFault, Pool}
use Rattle.query_plan.specs.declared.outcome.Ran.{Ran}
use Rattle.run_report.specs.Report.{outcome_text}
use Rattle.run_report.specs.declared.outcome.Outcome.{Outcome}
use Rattle.run_report.specs.declared.outcome.Outcome.TheVariants.{Summary}
use Rattle.spill_top.specs.declared.ending.Ending.{Ending}
use Rattle.spill_top.specs.declared.ending.Ending.TheVariants.{Lines, Reservation, Stopped}
use Rattle.spill_top.specs.declared.words.Check.{Check}
use Rattle.spill_top.specs.CheckPlan.{checking, checking_conf, output_name, refused_of, table_if, table_of}
use Rattle.spill_top.specs.Endings.{outcome_of, status_of}
use Rattle.spill_top.specs.Headline.{page_bytes}
use Rattle.spill_top.specs.Pooled.{HaveFailed, IsPoolStop, all_tell}
use Rattle.spill_top.specs.Ran.{Telling, WantsMemory}
use Rattle.spill_top.specs.Report.{TellsOrMisses}
use Rattle.spill_top.specs.Running.{HasNoOutput, HasOutput, Seen, WentAt}
use Rattle.spill_top.specs.Storing.{HaveStored, owed}

-- why its query stopped: writing has failed; or its pool stopped it, which may take so many slots, and tells what they hold or not. The
-- table itself is never refused
abbrev pub IsCheckStop : Check → Bool → ℕ → Type 0 → Type 0 → QueryErr → Type 0
IsCheckStop check tell quota slots_failed write_failed SinkFault = write_failed
IsCheckStop check tell quota slots_failed write_failed (Pool why) = IsPoolStop (checking check) page_bytes (table_if tell check) quota slots_failed why
IsCheckStop check tell quota slots_failed write_failed _ = ⊥

-- why it has no answer: the least reservation was refused for exactly this, or else its query stopped
abbrev pub IsCheckEnding : Check → Bool → ℕ → Type 0 → Type 0 → Ending → Type 0
IsCheckEnding check tell quota slots_failed write_failed (Lines lines) = ⊥
IsCheckEnding check tell quota slots_failed write_failed (Reservation root wanted room) = refused_of check ≡ Some (Reservation root wanted room)
IsCheckEnding check tell quota slots_failed write_failed (Stopped why) = (refused_of check ≡ None) × IsCheckStop check tell quota slots_failed write_failed why

-- the output at a time: what stands there, where that is told, and the faults of writing there
pub record Output : Type 0 where
  pub written : Option Written
  pub faults : ℕ

abbrev pub output_at : (List ℕ → Option Written) → (List ℕ → ℕ) → Output
output_at written faults = record { written = written output_name; faults = faults output_name }

-- it answered with these numbers, its output holds the whole answer over the table, of which all rows were read, and what it must keep
-- beyond its memory was stored
pub record HasAnswer (check : Check) (slots slots_now : Tally) (start now : Output) (ran : Ran) : Type 0 where
  pub reserved : refused_of check ≡ None
  pub rows : ran.left ≡ check.rows
  pub numbers : Numbers (checking check) page_bytes (all_tell slots) ran (table_of check)
  pub output : HasOutput (checking check) page_bytes (table_if (all_tell slots) check) start.written now.written (Lines ran.lines)
  pub stored : HaveStored page_bytes (owed (checking check) (memory_of (checking_conf check)) (Some (table_of check))) slots slots_now

-- it ended without an answer, and its output was not created, or holds a part of the answer
pub record HasNoAnswer (check : Check) (quota : ℕ) (slots slots_now : Tally) (start now : Output) (ending : Ending) : Type 0 where
  pub why : IsCheckEnding check (all_tell slots) quota (HaveFailed slots slots_now) (Rose start.faults now.faults) ending
  pub output : (HasNoOutput ending × (now.written ≡ start.written)) ⊎ HasOutput (checking check) page_bytes (table_if (all_tell slots) check) start.written now.written ending

-- the report's numbers: the rows that were read, the groups, and the sums of both aggregates over the groups
abbrev pub summary_of : Ran → Outcome
summary_of ran = Summary ran.left ran.lines (slice_index_or ran.totals 0 (pos 0)) (slice_index_or ran.totals 1 (pos 0))

-- the line of an answer was told: whole, or where the report failed a front of it, or it found no memory; the status says which
abbrev pub TellsAnswer : List ℕ → Telling → Telling → ℕ → Type 0
TellsAnswer line before after status =
    ((status ≡ 0) × Appends before.text after.text line × NoneFailed before.faults after.faults)
    ⊎ ((status ≡ 9) × AppendsFront before.text after.text line × FailsAt before.faults after.faults after.text)
    ⊎ ((status ≡ 10) × Keeps before.text after.text × NoneFailed before.faults after.faults)

-- the statuses of a check
abbrev pub IsCheckStatus : ℕ → Type 0
IsCheckStatus status = (status ≡ 0) ⊎ (status ≡ 6) ⊎ (status ≡ 7) ⊎ (status ≡ 8) ⊎ (status ≡ 9) ⊎ (status ≡ 10)

-- a check with an answer: what its output holds, and its numbers in the report
pub record Answered (check : Check) (slots slots_now : Tally) (start now : Output) (before after : Telling) (status : ℕ) : Type 0 where
  pub ran : Ran
  pub has : HasAnswer check slots slots_now start now ran
  pub tells : TellsAnswer (outcome_text None (summary_of ran)) before after status

-- a check without one: why, which is its status, and its line in the report
pub record NotAnswered (check : Check) (quota : ℕ) (slots slots_now : Tally) (start now : Output) (before after : Telling) (status : ℕ) : Type 0 where
  pub ending : Ending
  pub has : HasNoAnswer check quota slots slots_now start now ending
  pub status_is : status ≡ status_of ending
  pub tells : TellsOrMisses (outcome_text None (outcome_of (checking check) ending)) before.text after.text before.faults after.faults

-- nothing stands in the way of its answer: its least reservation fits, all slots tell what they hold and are as many as the pages that it
-- needs, and neither they nor its output nor the report had a fault
pub record IsCheckClear (check : Check) (quota : ℕ) (start now : Seen) (before after : Telling) : Type 0 where
  pub reserved : refused_of check ≡ None
  pub tell : all_tell start.slots ≡ true
  pub enough : need (checking check) page_bytes (table_of check) ≤ quota
  pub stored : HaveFailed start.slots now.slots → ⊥
  pub written : Rose (start.writes output_name) (now.writes output_name) → ⊥
  pub told : Rose before.faults.count after.faults.count → ⊥

-- what a check comes to over so many slots: an answer, or the cause of its status; or memory was wanting before anything was done.
-- Other outputs stay, and so do the inputs, and all slots are there again. Where nothing stands in its way it answers, or memory was wanting
pub record Checked (quota : ℕ) (start now : Seen) (before after : Telling) (status : ℕ) (check : Check) : Type 0 where
  pub comes_to : Answered check start.slots now.slots (output_at start.written start.writes) (output_at now.written now.writes) before after status
      ⊎ NotAnswered check quota start.slots now.slots (output_at start.written start.writes) (output_at now.written now.writes) before after status
      ⊎ ((now.written output_name ≡ start.written output_name) × WantsMemory before after status)
  pub status_is : IsCheckStatus status
  pub refused : status ≡ 6 → IsSome (refused_of check)
  pub refuses : IsSome (refused_of check) → (status ≡ 6) ⊎ (status ≡ 10)
  pub completes : IsCheckClear check quota start now before after → (status ≡ 0) ⊎ (status ≡ 10)
  pub went : WentAt output_name start now
