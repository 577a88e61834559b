-- What `clap` is told of the words, and what it makes of them.
use Rattle.std.specs.Prelude.{List, Option, Some, None, codes, true, if◌then◌else◌}
use Rattle.std.specs.Str.{bytes_eq}
use Rattle.clap.specs.Words.{App, Row, Rule, Text, new_app, new_rule, first_of, with_rule, with_subcommand}
use Rattle.clap.specs.Simple.{on_top}
use Rattle.clap.specs.declared.builder.action.ArgAction.TheVariants.{Set}
use Rattle.spill_top.specs.Words.{Request, Count, Run, self_check_of}

-- a word that has to stand in its place
abbrev pub operand : Text → Rule
operand id = record (new_rule id) { required = true; action = Some Set }

-- each command has its operands, in this order
abbrev pub count_app : App
count_app = with_rule (with_rule (new_app (codes "count")) (operand (codes "FILE"))) (operand (codes "COLUMN"))

abbrev pub run_app : App
run_app = with_rule (new_app (codes "run")) (operand (codes "PLAN"))

abbrev pub self_check_app : App
self_check_app =
    with_rule (with_rule (with_rule (with_rule (new_app (codes "selfcheck")) (operand (codes "START"))) (operand (codes "ROWS"))) (operand (codes "GROUPS"))) (operand (codes "BLOCKS"))

-- the words come without the program's name, and there is no help among them
abbrev pub bare : App → App
bare = on_top (λ s. record s { no_binary_name = true; disable_help_flag = true; disable_help_subcommand = true; subcommand_required = true })

-- the program with its commands
abbrev pub spill_app : App
spill_app = with_subcommand (with_subcommand (with_subcommand (bare (new_app (codes "spill"))) count_app.top) run_app.top) self_check_app.top

-- what the texts of a count's operands ask for, if they are there
abbrev pub count_from : Option Text → Option Text → Option Request
count_from (Some file) (Some column) = Some (Count (record { file = file; column = column }))
count_from file column = None

-- the same of a run
abbrev pub run_from : Option Text → Option Request
run_from (Some plan) = Some (Run plan)
run_from None = None

-- the same of a check of the program
abbrev pub check_from : Option Text → Option Text → Option Text → Option Text → Option Request
check_from (Some start) (Some rows) (Some groups) (Some blocks) = self_check_of start rows groups blocks
check_from start rows groups blocks = None

-- what the matches of a command ask for, by the command's name
abbrev pub request_by : Text → List Row → Option Request
request_by name rows =
    if bytes_eq name (codes "count") then count_from (first_of (codes "FILE") rows) (first_of (codes "COLUMN") rows)
    else if bytes_eq name (codes "run") then run_from (first_of (codes "PLAN") rows)
    else check_from (first_of (codes "START") rows) (first_of (codes "ROWS") rows) (first_of (codes "GROUPS") rows) (first_of (codes "BLOCKS") rows)

-- what the command that was met asks for
abbrev pub request_met : Option (Text × List Row) → Option Request
request_met None = None
request_met (Some met) = request_by met.0 met.1
