-- The lines of a report: words with a space between each two, and a newline at the end. Numbers are in decimal,
-- names of columns and keys of plans as they are.
use Rattle.std.specs.Prelude.{codes, decimal, ℕ, ℤ, Bool, if◌then◌else◌, List, [], ◌∷◌, ◌++◌, flat_map, Option, Some, None}
use Rattle.std.specs.Fmt.{signed_decimal}
use Rattle.query_plan.specs.declared.plan.Side.{Side}
use Rattle.query_plan.specs.declared.plan.Side.TheVariants.{Left, Right}
use Rattle.query_plan.specs.declared.error.PlanErr.{PlanErr}
use Rattle.query_plan.specs.declared.error.PlanErr.TheVariants as err
use Rattle.reservation_tree.specs.declared.mark.Mark.{Mark}
use Rattle.run_report.specs.declared.cause.Cause.{Cause}
use Rattle.run_report.specs.declared.cause.Cause.TheVariants as cause
use Rattle.run_report.specs.declared.outcome.Outcome.{Outcome}
use Rattle.run_report.specs.declared.outcome.Outcome.TheVariants.{Lines, Summary, Refused}

-- each word with a space before it
abbrev pub spaced : List (List ℕ) → List ℕ
spaced words = flat_map (λ word. codes " " ++ word) words

-- words with a space between each two
abbrev pub joined : List (List ℕ) → List ℕ
joined [] = []
joined (first ∷ rest) = first ++ spaced rest

-- which input
abbrev pub side_word : Side → List ℕ
side_word Left = codes "left"
side_word Right = codes "right"

-- which tracker refused
abbrev pub tracker_word : Bool → List ℕ
tracker_word root = if root then codes "root" else codes "query"

-- a plan's error: its name, and its key
abbrev pub plan_words : PlanErr → List (List ℕ)
plan_words err.Syntax = codes "plan" ∷ codes "Syntax" ∷ []
plan_words (err.MissingKey key) = codes "plan" ∷ codes "MissingKey" ∷ key ∷ []
plan_words (err.WrongKind key) = codes "plan" ∷ codes "WrongKind" ∷ key ∷ []
plan_words (err.UnknownKey key) = codes "plan" ∷ codes "UnknownKey" ∷ key ∷ []
plan_words (err.UnknownColumn key) = codes "plan" ∷ codes "UnknownColumn" ∷ key ∷ []
plan_words (err.KindClash key) = codes "plan" ∷ codes "KindClash" ∷ key ∷ []
plan_words (err.Limit key) = codes "plan" ∷ codes "Limit" ∷ key ∷ []
plan_words (err.Repeated key) = codes "plan" ∷ codes "Repeated" ∷ key ∷ []
plan_words (err.SameOutput key) = codes "plan" ∷ codes "SameOutput" ∷ key ∷ []
plan_words (err.QuotaSum key) = codes "plan" ∷ codes "QuotaSum" ∷ key ∷ []
plan_words err.Memory = codes "memory" ∷ []

-- which block it is: its page's name, the version, and its number in the page
abbrev pub mark_words : Mark → List (List ℕ)
mark_words mark = decimal mark.name ∷ decimal mark.version ∷ decimal mark.block ∷ []

-- why something was refused
abbrev pub cause_words : Cause → List (List ℕ)
cause_words cause.Words = codes "words" ∷ []
cause_words (cause.Plan error) = plan_words error
cause_words cause.PlanInput = codes "input" ∷ codes "plan" ∷ []
cause_words (cause.Input side) = codes "input" ∷ side_word side ∷ []
cause_words (cause.Header side) = codes "header" ∷ side_word side ∷ []
cause_words (cause.Csv side number) = codes "csv" ∷ side_word side ∷ decimal number ∷ []
cause_words (cause.Field side number name) = codes "field" ∷ side_word side ∷ decimal number ∷ name ∷ []
cause_words (cause.Large side) = codes "large" ∷ side_word side ∷ []
cause_words (cause.Row side number weight) = codes "row" ∷ side_word side ∷ decimal number ∷ decimal weight ∷ []
cause_words (cause.Reservation root wanted room) = codes "reservation" ∷ tracker_word root ∷ decimal wanted ∷ decimal room ∷ []
cause_words (cause.Scratch need free) = codes "scratch" ∷ decimal need ∷ decimal free ∷ []
cause_words cause.Names = codes "names" ∷ []
cause_words (cause.Write entry) = codes "write" ∷ decimal entry ∷ []
cause_words (cause.Read entry) = codes "read" ∷ decimal entry ∷ []
cause_words (cause.Stale wanted found) = codes "stale" ∷ (mark_words wanted ++ mark_words found)
cause_words cause.Output = codes "output" ∷ []
cause_words cause.Memory = codes "memory" ∷ []

-- the sums of a self check over all groups: of the counts, and of the totals
abbrev pub sum_words : ℤ → ℤ → List (List ℕ)
sum_words counted total = codes "counted" ∷ signed_decimal counted ∷ codes "total" ∷ signed_decimal total ∷ []

-- an outcome: status 0 and the lines of the answer, the sums of a self check, or the status and why
abbrev pub outcome_words : Outcome → List (List ℕ)
outcome_words (Lines lines) = codes "0" ∷ codes "lines" ∷ decimal lines ∷ []
outcome_words (Summary rows groups counted total) =
    codes "rows" ∷ decimal rows ∷ codes "groups" ∷ decimal groups ∷ sum_words counted total
outcome_words (Refused status why) = decimal status ∷ cause_words why

-- the query that a line is for, counted from 1, if it is for one
abbrev pub query_front : Option ℕ → List ℕ
query_front None = []
query_front (Some number) = codes "query " ++ decimal number ++ codes ": "

-- the line of an outcome
abbrev pub outcome_text : Option ℕ → Outcome → List ℕ
outcome_text query outcome = query_front query ++ joined (outcome_words outcome) ++ codes "\n"
