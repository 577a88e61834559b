-- What an error of a query says of its inputs.
use Rattle.std.specs.Prelude.{◌≡◌, ◌≢◌, ℕ, List, Option, Some, IfSome, IsSomeAnd}
use Rattle.std.specs.Io.KnownBytes.{IsAtEnd}
use Rattle.outside.specs.Counts.{Rose}
use Rattle.outside.specs.declared.stream.Source.{Ghosts}
use Rattle.query_plan.specs.declared.plan.Query.{Query}
use Rattle.query_plan.specs.declared.plan.Side.{Side}
use Rattle.query_plan.specs.declared.plan.Side.TheVariants.{Left, Right}
use Rattle.query_plan.specs.declared.plan.SidePlan.{SidePlan}
use Rattle.query_run.specs.Causes.{IsOfBytes, IsSourceFault, NamesInt, side_of}
use Rattle.query_run.specs.Input.{IsAccepted, IsRefusalIn}
use Rattle.query_run.specs.Plans.{kinds_of_columns}
use Rattle.query_plan.specs.declared.outcome.QueryErr.{QueryErr}

-- an input over a call: its bytes and those that are left, where they are told, and its faults before and after
pub record Source : Type 0 where
  pub told : Option (List ℕ)
  pub rest : Option (List ℕ)
  pub faults : ℕ
  pub faults_now : ℕ

abbrev pub source : Option (List ℕ) → Option (List ℕ) → ℕ → ℕ → Source
source told rest faults faults_now = record { told = told; rest = rest; faults = faults; faults_now = faults_now }

-- a source over a call
abbrev pub input_over : {S : Type 0} → Ghosts S → S → S → Source
input_over ghosts before after = source (ghosts.remaining before) (ghosts.remaining after) (ghosts.faults before) (ghosts.faults after)

-- what an error says of a side is so: it speaks of no other one, the bytes, where they are told, are refused for this, a bad
-- field is one of a column of ints, and a fault of the source was counted
pub record SaysOfSide (plan : Query) (side : Side) (asked : SidePlan) (page : ℕ) (input : Source) (why : QueryErr) : Type 0 where
  pub alone : IfSome (side_of why) (λ other. other ≡ side)
  pub refused : IsOfBytes why → IfSome input.told (λ bytes. IsRefusalIn plan side asked page bytes why)
  pub field : NamesInt (kinds_of_columns asked.columns) why
  pub source_fault : IsSourceFault why → Rose input.faults input.faults_now

-- so it is of the right input, and the left one was accepted and read to its end before
pub record SaysOfRight (plan : Query) (right : SidePlan) (page : ℕ) (lefts rights : Source) (why : QueryErr) : Type 0 where
  pub accepted : IfSome lefts.told (IsAccepted plan page)
  pub read : IsAtEnd lefts.rest
  pub says : SaysOfSide plan Right right page rights why

-- what an error says of the inputs is so; it speaks of the right one only where the query joins
pub record SaysOfInputs (plan : Query) (page : ℕ) (lefts rights : Source) (why : QueryErr) : Type 0 where
  pub left : side_of why ≢ Some Right → SaysOfSide plan Left plan.left page lefts why
  pub right : side_of why ≡ Some Right → IsSomeAnd plan.right (λ right. SaysOfRight plan right page lefts rights why)
