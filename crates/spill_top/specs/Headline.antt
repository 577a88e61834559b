-- When each status comes, and what the report says then.
use Rattle.std.specs.Prelude.{◌≡◌, ◌≢◌, ◌^◌, ◌≤◌, ◌<◌, ◌⊎◌, ℕ, List, [], Option, Some, IfSome, length, option_map, true}
use Rattle.std.specs.Io.KnownBytes.{Keeps}
use Rattle.outside.specs.Counts.{Rose}
use Rattle.outside.specs.Faults.{Faults, FailsAt, NoneFailed}
use Rattle.pin_core.specs.declared.tally.Tally.{Tally}
use Rattle.spill_top.specs.Pooled.{memory_of}
use Rattle.query_run.specs.Both.{Told, both_told}
use Rattle.query_run.specs.Input.{IsAccepted, IsRefusal, most_bytes, refusal_of}
use Rattle.query_run.specs.Through.{need, rows_through}
use Rattle.query_plan.specs.declared.outcome.QueryErr.{QueryErr}
use Rattle.spill_top.specs.declared.report.Refusal.{Refusal}
use Rattle.spill_top.specs.declared.report.Refusal.TheVariants.{InputFault, Header, Csv, Large, Row, Scratch, Names, Write, Read}
use Rattle.spill_top.specs.Counting.{counting, counting_conf}
use Rattle.spill_top.specs.OneInput.{WroteAnswerOver, WroteFrontOver}
use Rattle.spill_top.specs.Pooled.{HaveFailed, LacksSlots, MaySpendNames, all_tell}
use Rattle.spill_top.specs.Refusals.{IsOfPool, refusal_for}
use Rattle.spill_top.specs.Report.{Lengthens, Tells, TellsOrMisses, line_of, shortage, status_of}
use Rattle.spill_top.specs.Sides.{if_told}
use Rattle.spill_top.specs.Storing.{HaveStored, owed}
use Rattle.spill_top.specs.Words.{Command}

-- the bytes of a page of a count, which no row may pass
abbrev pub page_bytes : ℕ
page_bytes = 8192

-- the statuses of a count: an answer, or its cause
abbrev pub IsStatus : ℕ → Type 0
IsStatus status = (status ≡ 0) ⊎ (status ≡ 3) ⊎ (status ≡ 4) ⊎ (status ≡ 5) ⊎ (status ≡ 7) ⊎ (status ≡ 8) ⊎ (status ≡ 9) ⊎ (status ≡ 10)

-- those that the pool may answer before the input was read: slots were wanting, a write or a read failed, or memory was wanting
abbrev pub IsPoolStatus : ℕ → Type 0
IsPoolStatus status = (status ≡ 7) ⊎ (status ≡ 8) ⊎ (status ≡ 10)

-- the whole answer of the command was appended to the report, over the bytes that stand under its file, which is its only
-- input
abbrev pub Answers : (List ℕ → Option (List ℕ)) → Option (List ℕ) → Option (List ℕ) → Command → Type 0
Answers bytes_at before now command = WroteAnswerOver (counting command) page_bytes (bytes_at command.file) before now

-- a front of that answer was appended
abbrev pub AnswersInPart : (List ℕ → Option (List ℕ)) → Option (List ℕ) → Option (List ℕ) → Command → Type 0
AnswersInPart bytes_at before now command = WroteFrontOver (counting command) page_bytes (bytes_at command.file) before now

-- what the bytes of the input, if they are told, are refused for gives this refusal
abbrev pub IsOfInput : Option (List ℕ) → Command → Refusal → Type 0
IsOfInput told command refusal = IfSome told (λ bytes. (why : QueryErr) × IsRefusal (counting command) page_bytes bytes why × (refusal_for why ≡ Some refusal))

-- the bytes of the input, where they are told and all slots tell what they hold
abbrev pub told_with : Tally → Option (List ℕ) → Option Told
told_with slots told = if_told (all_tell slots) (both_told told (Some []))

-- why a command was refused: its file had a fault, or its bytes are refused; no slot was left for a page, which has one block, and there
-- are too few; no name was left; or a write or a read of a page failed
abbrev pub IsCause : Option (List ℕ) → ℕ → ℕ → Tally → Tally → Command → Refusal → Type 0
IsCause told before now slots slots_now command InputFault = Rose before now
IsCause told before now slots slots_now command Header = IsOfInput told command Header
IsCause told before now slots slots_now command (Csv number) = IsOfInput told command (Csv number)
IsCause told before now slots slots_now command Large = IsOfInput told command Large
IsCause told before now slots slots_now command (Row number weight) = IsOfInput told command (Row number weight)
IsCause told before now slots slots_now command (Scratch need free) = (need ≡ 1) × (free ≡ 0) × LacksSlots (counting command) page_bytes (told_with slots told) slots.slots
IsCause told before now slots slots_now command Names = MaySpendNames (counting command) (told_with slots told)
IsCause told before now slots slots_now command (Write entry) = HaveFailed slots slots_now
IsCause told before now slots slots_now command (Read entry) = HaveFailed slots slots_now

-- a front of the answer, which is not empty, was appended before the pool refused, and nothing behind it; no write failed
pub record Breaks (told : Option (List ℕ)) (slots : Tally) (report report_now : Option (List ℕ)) (writes writes_now : Faults) (command : Command) : Type 0 where
  pub front : all_tell slots ≡ true → WroteFrontOver (counting command) page_bytes told report report_now
  pub some : Lengthens report report_now
  pub quiet : NoneFailed writes writes_now

-- a refusal of this status: why, and its line in the report, unless that found no memory, or some of the answer was written
pub record Refuses (status : ℕ) (command : Command) (told : Option (List ℕ)) (faults faults_now : ℕ) (slots slots_now : Tally) (report report_now : Option (List ℕ)) (writes writes_now : Faults) : Type 0 where
  pub why : Refusal
  pub status_is : status ≡ status_of why
  pub cause : IsCause told faults faults_now slots slots_now command why
  pub tells : TellsOrMisses (line_of why) report report_now writes writes_now ⊎ (IsOfPool why × Breaks told slots report report_now writes writes_now command)

-- nothing was appended, or a front of the answer
abbrev pub WroteLess : (List ℕ → Option (List ℕ)) → Option (List ℕ) → Option (List ℕ) → Command → Type 0
WroteLess bytes_at before now command = Keeps before now ⊎ AnswersInPart bytes_at before now command

-- want of memory: the report has its line, or no more than a front of the answer and no new fault
abbrev pub LacksMemory : (List ℕ → Option (List ℕ)) → Tally → Option (List ℕ) → Option (List ℕ) → Faults → Faults → Command → Type 0
LacksMemory bytes_at slots report report_now writes writes_now command =
    Tells shortage report report_now writes writes_now ⊎ ((all_tell slots ≡ true → WroteLess bytes_at report report_now command) × NoneFailed writes writes_now)

-- the bytes of the input are told, and this is the first refusal in them; they are no more than allowed
pub record RefusesBytes (told : Option (List ℕ)) (command : Command) (why : QueryErr) : Type 0 where
  pub bytes : List ℕ
  pub told_is : told ≡ Some bytes
  pub fits : length bytes ≤ most_bytes
  pub first : refusal_of (counting command) page_bytes bytes ≡ Some why

-- the bytes of the input are told, and they are too many
pub record HasTooMany (told : Option (List ℕ)) : Type 0 where
  pub bytes : List ℕ
  pub told_is : told ≡ Some bytes
  pub more : most_bytes < length bytes

-- the bytes of the input are told, and accepted to their end
pub record AcceptsInput (told : Option (List ℕ)) (command : Command) : Type 0 where
  pub bytes : List ℕ
  pub told_is : told ≡ Some bytes
  pub accepted : IsAccepted (counting command) page_bytes bytes

-- the bytes of the input are told, all slots tell what they hold, and there are as many as the pages that the command needs; its rows are
-- fewer than names of pages last for
pub record Suffices (told : Option (List ℕ)) (slots : Tally) (command : Command) : Type 0 where
  pub both : Told
  pub told_is : told_with slots told ≡ Some both
  pub enough : need (counting command) page_bytes both ≤ slots.slots
  pub few : rows_through (counting command) both < 2 ^ 55

-- the status is that of this cause
abbrev pub IsStatusOf : QueryErr → ℕ → Type 0
IsStatusOf why status = option_map status_of (refusal_for why) ≡ Some status

-- the slots stored what a count of these bytes must keep beyond its memory
abbrev pub StoresCount : Option (List ℕ) → Tally → Tally → Command → Type 0
StoresCount told slots slots_now command = HaveStored page_bytes (owed (counting command) (memory_of counting_conf) (both_told told (Some []))) slots slots_now

-- a count: its answer, where all slots tell what they hold, or the cause of its status. Where they do and the bytes of the input
-- are refused, that is answered, unless it can't be read or the pool stopped the count before; where these are accepted and no
-- count rises, slots or memory can be wanting, and slots only where they don't suffice
pub record Counted (bytes_at : List ℕ → Option (List ℕ)) (faults faults_now : List ℕ → ℕ) (slots slots_now : Tally) (report report_now : Option (List ℕ)) (writes writes_now : Faults) (status : ℕ) (command : Command) : Type 0 where
  pub status_is : IsStatus status
  pub answer : all_tell slots ≡ true → status ≡ 0 → Answers bytes_at report report_now command
  pub input_fault : status ≡ 3 → Rose (faults command.file) (faults_now command.file)
  pub device_fault : status ≡ 8 → HaveFailed slots slots_now
  pub refused : status ≢ 0 → status ≢ 9 → status ≢ 10 → Refuses status command (bytes_at command.file) (faults command.file) (faults_now command.file) slots slots_now report report_now writes writes_now
  pub lacks_memory : status ≡ 10 → LacksMemory bytes_at slots report report_now writes writes_now command
  pub quiet : status ≡ 0 → NoneFailed writes writes_now
  pub stored : status ≡ 0 → StoresCount (bytes_at command.file) slots slots_now command
  pub output_fault : status ≡ 9 → FailsAt writes writes_now report_now
  pub part : all_tell slots ≡ true → status ≡ 9 → AnswersInPart bytes_at report report_now command
  pub refuses : all_tell slots ≡ true → (why : QueryErr) → RefusesBytes (bytes_at command.file) command why → IsStatusOf why status ⊎ (status ≡ 3) ⊎ IsPoolStatus status
  pub too_many : all_tell slots ≡ true → HasTooMany (bytes_at command.file) → (status ≡ 4) ⊎ (status ≡ 5) ⊎ (status ≡ 3) ⊎ IsPoolStatus status
  pub succeeds : AcceptsInput (bytes_at command.file) command → (Rose (faults command.file) (faults_now command.file) ⊎ Rose writes.count writes_now.count ⊎ HaveFailed slots slots_now) ⊎ ((status ≡ 0) ⊎ (status ≡ 7) ⊎ (status ≡ 10))
  pub suffices : Suffices (bytes_at command.file) slots command → status ≢ 7
