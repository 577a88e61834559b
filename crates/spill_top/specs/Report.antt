-- What the report says where there is no answer, and how much of it.
use Rattle.std.specs.Prelude.{◌≡◌, ◌<◌, ◌⊎◌, ℕ, List, Option, None, Some, length, ⊤}
use Rattle.std.specs.Io.KnownBytes.{Appends, Keeps}
use Rattle.outside.specs.Faults.{Faults, FailsAt, NoneFailed}
use Rattle.csv_edge.specs.Written.{AppendsFront}
use Rattle.query_plan.specs.declared.plan.Side.TheVariants.{Left}
use Rattle.run_report.specs.declared.cause.Cause.{Cause}
use Rattle.run_report.specs.declared.cause.Cause.TheVariants as cause
use Rattle.run_report.specs.declared.outcome.Outcome.{Outcome}
use Rattle.run_report.specs.declared.outcome.Outcome.TheVariants.{Refused}
use Rattle.run_report.specs.Report.{outcome_text}
use Rattle.spill_top.specs.declared.report.Refusal.{Refusal}
use Rattle.spill_top.specs.declared.report.Refusal.TheVariants.{InputFault, Header, Csv, Large, Row, Scratch, Names, Write, Read}

-- the line for words that are no command
abbrev pub usage : List ℕ
usage = outcome_text None (Refused 1 cause.Words)

-- the line for want of memory
abbrev pub shortage : List ℕ
shortage = outcome_text None (Refused 10 cause.Memory)

abbrev pub status_of : Refusal → ℕ
status_of InputFault = 3
status_of Header = 4
status_of (Csv number) = 4
status_of Large = 4
status_of (Row number weight) = 5
status_of (Scratch need free) = 7
status_of Names = 7
status_of (Write entry) = 8
status_of (Read entry) = 8

-- the cause that is printed
abbrev pub cause_of : Refusal → Cause
cause_of InputFault = cause.Input Left
cause_of Header = cause.Header Left
cause_of (Csv number) = cause.Csv Left number
cause_of Large = cause.Large Left
cause_of (Row number weight) = cause.Row Left number weight
cause_of (Scratch need free) = cause.Scratch need free
cause_of Names = cause.Names
cause_of (Write entry) = cause.Write entry
cause_of (Read entry) = cause.Read entry

abbrev pub outcome_of : Refusal → Outcome
outcome_of refusal = Refused (status_of refusal) (cause_of refusal)

-- the line of a refusal
abbrev pub line_of : Refusal → List ℕ
line_of refusal = outcome_text None (outcome_of refusal)

-- a line was appended to the report, of which no write failed; or one did, and a front of the line stands there, and nothing
-- behind that write
abbrev pub Tells : List ℕ → Option (List ℕ) → Option (List ℕ) → Faults → Faults → Type 0
Tells line old new before now = (Appends old new line × NoneFailed before now) ⊎ (FailsAt before now new × AppendsFront old new line)

-- the same, or where the line found no memory, nothing was appended
abbrev pub TellsOrMisses : List ℕ → Option (List ℕ) → Option (List ℕ) → Faults → Faults → Type 0
TellsOrMisses line old new before now = Tells line old new before now ⊎ (Keeps old new × NoneFailed before now)

-- what is known to stand there became longer
abbrev pub Lengthens : Option (List ℕ) → Option (List ℕ) → Type 0
Lengthens None new = ⊤
Lengthens (Some xs) None = ⊥
Lengthens (Some xs) (Some ys) = length xs < length ys

-- how long it is, as far as that is known
abbrev pub told_len : Option (List ℕ) → ℕ
told_len None = 0
told_len (Some xs) = length xs

-- the same two, one text after the other
abbrev pub StillTold : Option (List ℕ) → Option (List ℕ) → Type 0
StillTold old new = (xs : List ℕ) → old ≡ Some xs → new ≡ Some xs

abbrev pub LongerTold : Option (List ℕ) → Option (List ℕ) → Type 0
LongerTold old new = (xs : List ℕ) → old ≡ Some xs → length xs < told_len new
