-- A query in whose way nothing stands, but what its inputs are refused for.
use Rattle.std.specs.Prelude.{◌≡◌, ◌*◌, ◌≤◌, ◌⊎◌, ℕ, List, false, length, true, Option, None, Some, IfSome}
use Rattle.std.specs.Option.{option_or}
use Rattle.reservation_tree.specs.declared.errors.PoolErr.TheVariants.{Memory}
use Rattle.outside.specs.Counts.{Rose}
use Rattle.store_api.specs.Holdings.{Holdings}
use Rattle.store_api.specs.Signs.{Signs}
use Rattle.query_plan.specs.declared.plan.Query.{Query}
use Rattle.query_plan.specs.declared.plan.Side.TheVariants.{Right}
use Rattle.query_plan.specs.declared.plan.SidePlan.{SidePlan}
use Rattle.query_plan.specs.Sizes.{page_len}
use Rattle.query_run.specs.Both.{AreAccepted, Told, both_told}
use Rattle.query_run.specs.Input.{most_bytes, refusal_in, refusal_of}
use Rattle.query_run.specs.Refused.{SaysOfInputs, Source}
use Rattle.query_run.specs.Stopped.{CountsSink, MayStop}
use Rattle.query_run.specs.Through.{need}
use Rattle.query_plan.specs.declared.outcome.QueryErr.{QueryErr}
use Rattle.query_plan.specs.declared.outcome.QueryErr.TheVariants.{Pool, SinkFault}

-- a query over a call: its inputs, its store at the start, what this showed before and after, and the faults that its sink counted
pub record Course : Type 0 where
  pub lefts : Source
  pub rights : Source
  pub start : Holdings
  pub old : Signs
  pub new : Signs
  pub writes : ℕ
  pub writes_now : ℕ

-- a source had no fault over a call
abbrev pub IsQuiet : Source → Type 0
IsQuiet input = Rose input.faults input.faults_now → ⊥

-- the store tells what a pin shows, and its quota has the slots of the pages that the query needs over these bytes; no write and no
-- read of a page failed, no load was stale, and a name is left
pub record StoreSuffices (plan : Query) (both : Told) (start : Holdings) (old new : Signs) : Type 0 where
  pub tells : start.told ≡ true
  pub enough : IfSome start.free_slots (λ free. need plan (page_len plan start.block_len) both * plan.page_blocks ≤ free)
  pub failures : new.failures ≡ old.failures
  pub stale : new.stale ≡ old.stale
  pub names : new.spent ≡ false

-- the bytes of the inputs are told, the store suffices for them, and neither a source nor the sink had a fault
pub record IsUnhindered (plan : Query) (both : Told) (course : Course) : Type 0 where
  pub told_is : both_told course.lefts.told course.rights.told ≡ Some both
  pub store : StoreSuffices plan both course.start course.old course.new
  pub lefts_quiet : IsQuiet course.lefts
  pub rights_quiet : IsQuiet course.rights
  pub sink_quiet : Rose course.writes course.writes_now → ⊥

-- nothing stands in the way of an answer: the inputs are accepted to their ends too
pub record IsClear (plan : Query) (course : Course) : Type 0 where
  pub both : Told
  pub accepted : AreAccepted plan (page_len plan course.start.block_len) both
  pub unhindered : IsUnhindered plan both course

-- the first refusal of the inputs in the order of reading: the left one's, or else where the query joins the right one's
abbrev pub right_refusal : Option SidePlan → Query → ℕ → List ℕ → Option QueryErr
right_refusal None plan page bytes = None
right_refusal (Some right) plan page bytes = refusal_in plan Right right page bytes

abbrev pub first_refusal_of : Query → ℕ → Told → Option QueryErr
first_refusal_of plan page both = option_or (refusal_of plan page both.left) (right_refusal plan.right plan page both.right)

-- the inputs are refused for this first, and nothing stands in the way before that place; neither has too many bytes
pub record IsRefusedFirst (plan : Query) (course : Course) (why : QueryErr) : Type 0 where
  pub both : Told
  pub refusal : first_refusal_of plan (page_len plan course.start.block_len) both ≡ Some why
  pub left_fits : length both.left ≤ most_bytes
  pub right_fits : length both.right ≤ most_bytes
  pub unhindered : IsUnhindered plan both course

-- what the query says of its inputs, of the pool, and of the sink, where it ended so
pub record HasSaid (plan : Query) (course : Course) (why : QueryErr) : Type 0 where
  pub inputs : SaysOfInputs plan (page_len plan course.start.block_len) course.lefts course.rights why
  pub pool : MayStop plan (both_told course.lefts.told course.rights.told) course.start course.old course.new why
  pub sink : CountsSink (why ≡ SinkFault) course.writes course.writes_now

-- where nothing stands in the way, only memory can have been wanting
abbrev pub Completes : Type 0
Completes = (plan : Query) (course : Course) (why : QueryErr)
    → IsClear plan course → HasSaid plan course why → why ≡ Pool Memory

-- and where an input is refused, the query says the first refusal, or memory was wanting
abbrev pub Refuses : Type 0
Refuses = (plan : Query) (course : Course) (why said : QueryErr)
    → IsRefusedFirst plan course why → HasSaid plan course said
    → (said ≡ why) ⊎ (said ≡ Pool Memory)
