-- What a command that was read asks for.
use Rattle.std.specs.Prelude.{ℕ, List, Option, Some, None}
use Rattle.spill_top.specs.declared.command.Task.{Task}
use Rattle.spill_top.specs.declared.command.Task.TheVariants as task
use Rattle.spill_top.specs.Words.{Command as Counting, Request, Count, Run, SelfCheck}
use Rattle.spill_top.specs.declared.words.Check.{Check}
use Rattle.spill_top.specs.declared.words.Command.{Command}
use Rattle.spill_top.specs.declared.words.Command.TheVariants as command

abbrev pub asked : Command → Request
asked (command.Count file column) = Count (record { file = file.now; column = column.now })
asked (command.Run plan) = Run plan.now
asked (command.SelfCheck check) = SelfCheck check

-- the count that is asked for, the plan's file, and the check
abbrev pub count_in : Option Task → Option Counting
count_in None = None
count_in (Some (task.Count file column)) = Some (record { file = file.now; column = column.now })
count_in (Some (task.Run plan)) = None
count_in (Some (task.Check check)) = None

abbrev pub plan_in : Option Task → Option (List ℕ)
plan_in None = None
plan_in (Some (task.Count file column)) = None
plan_in (Some (task.Run plan)) = Some plan.now
plan_in (Some (task.Check check)) = None

abbrev pub check_in : Option Task → Option Check
check_in None = None
check_in (Some (task.Count file column)) = None
check_in (Some (task.Run plan)) = None
check_in (Some (task.Check check)) = Some check
