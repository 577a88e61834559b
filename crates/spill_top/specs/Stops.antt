-- Why a count stopped, and what stands in its report then.
use Rattle.std.specs.Prelude.{◌≡◌, ℕ, List, Option, true}
use Rattle.std.specs.Io.KnownBytes.{Keeps}
use Rattle.outside.specs.Faults.{Faults, FailsAt, NoneFailed}
use Rattle.pin_core.specs.declared.tally.Tally.{Tally}
use Rattle.spill_top.specs.Headline.{AnswersInPart, Breaks, IsCause, WroteLess}
use Rattle.spill_top.specs.Pooled.{all_tell}
use Rattle.spill_top.specs.Refusals.{IsOfPool}
use Rattle.spill_top.specs.Words.{Command}
use Rattle.spill_top.specs.declared.count.Stop.{Stop}
use Rattle.spill_top.specs.declared.count.Stop.TheVariants.{Report, Memory, Short, Refused, Broken}

-- the report failed, and has a front of the answer; memory was wanting, and nothing or a front was written; or the count was
-- refused, and nothing was written, or some of the answer
abbrev pub IsStop : (List ℕ → Option (List ℕ)) → ℕ → ℕ → Tally → Tally → Option (List ℕ) → Option (List ℕ) → Faults → Faults → Command → Stop → Type 0
IsStop bytes_at faults faults_now slots slots_now report report_now writes writes_now command Report =
    FailsAt writes writes_now report_now × (all_tell slots ≡ true → AnswersInPart bytes_at report report_now command)
IsStop bytes_at faults faults_now slots slots_now report report_now writes writes_now command Memory =
    Keeps report report_now × NoneFailed writes writes_now
IsStop bytes_at faults faults_now slots slots_now report report_now writes writes_now command Short =
    (all_tell slots ≡ true → WroteLess bytes_at report report_now command) × NoneFailed writes writes_now
IsStop bytes_at faults faults_now slots slots_now report report_now writes writes_now command (Refused why) =
    IsCause (bytes_at command.file) faults faults_now slots slots_now command why × Keeps report report_now × NoneFailed writes writes_now
IsStop bytes_at faults faults_now slots slots_now report report_now writes writes_now command (Broken why) =
    IsCause (bytes_at command.file) faults faults_now slots slots_now command why × IsOfPool why × Breaks (bytes_at command.file) slots report report_now writes writes_now command
