-- The queries of a plan while it runs: what is open for each of them. About private fields.
use Rattle.std.specs.Prelude.{◌≡◌, ◌<◌, ◌⊎◌, ℕ, Bool, true, List, [], Option, Some, None, IfSome, IsSome, is_some, ⊤}
use Rattle.std.specs.Option.{IsSomeAnd, option_map}
use Rattle.outside.specs.Counts.{Rose}
use Rattle.outside.specs.Names.{Written, fresh}
use Rattle.outside.specs.Told.{GivesBytes}
use Rattle.query_plan.specs.declared.plan.Query.{Query}
use Rattle.query_plan.specs.declared.plan.Side.{Side}
use Rattle.query_plan.specs.Sizes.{joins, page_len}
use Rattle.query_run.specs.Answer.{WroteAnswer, WroteFront}
use Rattle.query_run.specs.Both.{Told}
use Rattle.query_run.specs.Causes.{side_of}
use Rattle.spill_top.specs.declared.ending.Ending.{Ending}
use Rattle.spill_top.specs.declared.ending.Ending.TheVariants.{Lines, Reservation, Stopped}
use Rattle.spill_top.specs.declared.job.Job.{Job}
use Rattle.spill_top.specs.Running.{HasNoOutput, HasOutput, IsEnding, Met, Seen, Went, met_with, told_over}
use Rattle.spill_top.specs.Sides.{bytes_on, faults_on, on_sides}

-- a source or a sink that is open: the bytes that it still gives or that it holds, where they are told, and its faults
pub record Opened : Type 0 where
  pub told : Option (List ℕ)
  pub faults : ℕ

abbrev pub opened : Option (List ℕ) → ℕ → Opened
opened told faults = record { told = told; faults = faults }

-- a query: how its least reservation was refused, if it was, its inputs and its output while they are open, and how it ended
pub record Work : Type 0 where
  pub refused : Option Ending
  pub left : Option Opened
  pub right : Option Opened
  pub output : Option Opened
  pub ended : Option Ending

-- its inputs, by side
abbrev pub inputs_of : Work → Side → Option Opened
inputs_of w side = on_sides w.left w.right side

-- what is shown of a query while its sources and its sink, if they are open, tell these
abbrev pub work_of : {S K St : Type 0} → (S → Option (List ℕ)) → (S → ℕ) → (K → Option (List ℕ)) → (K → ℕ) → Job S K St → Work
work_of remaining reads contents writes job =
    record {
      refused = job.refused;
      left = option_map (λ s. opened (remaining s) (reads s)) job.left;
      right = option_map (λ s. opened (remaining s) (reads s)) job.right;
      output = option_map (λ k. opened (contents k) (writes k)) job.sink;
      ended = job.ended;
    }

-- a query before anything is done for it
abbrev pub begun : Option Ending → Work
begun refused = record { refused = refused; left = None; right = None; output = None; ended = refused }

-- the faults of what is open
abbrev pub faults_of : Option Opened → ℕ
faults_of None = 0
faults_of (Some thing) = thing.faults

-- a count rose, or what is open has faults to be counted
abbrev pub HasFailed : ℕ → ℕ → Option Opened → Type 0
HasFailed before now thing = Rose before now ⊎ (0 < faults_of thing)

-- the same of a side
abbrev pub HasFailedOn : (Side → ℕ) → (Side → ℕ) → (Side → Option Opened) → Side → Type 0
HasFailedOn before now inputs side = HasFailed (before side) (now side) (inputs side)

-- a query that was not refused goes on
abbrev pub IsSoFar : Query → Met → Option Ending → Type 0
IsSoFar plan met None = met.refused ≡ None
IsSoFar plan met (Some ending) = IsEnding plan met ending

-- a call of a query that stopped left nothing in its sink where an input was at fault, and else at most a front of the answer
abbrev pub LeavesPart : Query → ℕ → Option Told → Option (List ℕ) → Option (List ℕ) → Option Side → Type 0
LeavesPart plan page told before now (Some side) = now ≡ before
LeavesPart plan page told before now None = (now ≡ before) ⊎ WroteFront plan page told before now

-- what a sink that tells its bytes holds while its query goes on, or when it has ended
abbrev pub SinkHolds : Query → ℕ → Option Told → Option (List ℕ) → Option Ending → Type 0
SinkHolds plan page told contents None = contents ≡ Some []
SinkHolds plan page told contents (Some (Lines lines)) = WroteAnswer plan page told (Some []) contents
SinkHolds plan page told contents (Some (Reservation root wanted room)) = ⊥
SinkHolds plan page told contents (Some (Stopped why)) = LeavesPart plan page told (Some []) contents (side_of why)

-- a query that has no output: it has not ended, or could not begin
abbrev pub HasNone : Option Ending → Type 0
HasNone None = ⊤
HasNone (Some ending) = HasNoOutput ending

-- its output: it is open; or it was never created; or it was given back
abbrev pub OutputStands : Query → ℕ → Option Told → Option Written → Option Written → Bool → Option Opened → Option Ending → Type 0
OutputStands plan page told before now created (Some sink) ended =
    (created ≡ true) × IfSome before (λ _. (now ≡ Some fresh) × SinkHolds plan page told sink.told ended)
OutputStands plan page told before now created None ended =
    (HasNone ended × (now ≡ before)) ⊎ IsSomeAnd ended (HasOutput plan page told before now)

-- an input, if it is open, gives the bytes of its file as long as the query goes on
abbrev pub InputStands : Option (List ℕ) → Option Opened → Option Ending → Type 0
InputStands told (Some source) None = GivesBytes told source.told × (source.faults ≡ 0)
InputStands told (Some source) (Some ending) = ⊤
InputStands told None ended = ⊤

-- a right input is open only where the query joins, and as long as it goes on there is one beside the left one exactly there
pub record HasSides (query : Query) (w : Work) : Type 0 where
  pub only : IsSome w.right → joins query ≡ true
  pub both : w.ended ≡ None → IsSome w.left → is_some w.right ≡ joins query

-- what it met so far, with what is open
abbrev pub met_so_far : Seen → Seen → ℕ → List Query → Query → Work → Met
met_so_far start now block_len all query w =
    met_with (HasFailedOn (faults_on query start.reads) (faults_on query now.reads) (inputs_of w))
    (HasFailed (start.writes query.output) (now.writes query.output) w.output) start now block_len all w.refused query

-- what stands of one of these queries between two of the calls for it, with blocks of so many bytes
pub record IsWork (start now : Seen) (block_len : ℕ) (all : List Query) (query : Query) (w : Work) : Type 0 where
  pub went : Went start now
  pub ending : IsSoFar query (met_so_far start now block_len all query w) w.ended
  pub inputs : (side : Side) → InputStands (bytes_on query start.files side) (inputs_of w side) w.ended
  pub sides : HasSides query w
  pub output : OutputStands query (page_len query block_len) (told_over query start) (start.written query.output) (now.written query.output) (now.created query.output) w.output w.ended
  pub fresh_sink : IfSome w.output (λ sink. w.ended ≡ None → sink.faults ≡ 0)

-- a call for a query left it so, whenever the plan started
abbrev pub KeepsWork : Seen → Seen → Query → Work → Work → Type 0
KeepsWork old now query before after = (start : Seen) (block_len : ℕ) (all : List Query) → IsWork start old block_len all query before → IsWork start now block_len all query after
