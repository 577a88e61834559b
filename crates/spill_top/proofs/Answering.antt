-- What stands of a query that ran over its session.
use Rattle.std.proofs.Common.{◌≡◌, ◌⊎◌, ℕ, true, List, Option, Some, None, IfErr, IfSome, IsSome, Result, Ok, Err, get_or, refl, sym, subst, ap, ◌∙◌}
use Rattle.std.proofs.lemmas.Bool.{false≢true}
use Rattle.std.specs.List.{slice_get}
use Rattle.std.proofs.lemmas.Option.{get_or_from_slice_get}
use Rattle.std.specs.Io.KnownBytes.{IsAtEnd}
use Rattle.outside.specs.Counts.{Rose}
use Rattle.store_api.specs.Holdings.{Holdings}
use Rattle.store_api.specs.Signs.{Signs}
use Rattle.query_plan.specs.Sizes.{page_len}
use Rattle.query_plan.specs.declared.plan.Query.{Query}
use Rattle.query_run.specs.Answer.{Numbers, WroteAnswer, WroteFront}
use Rattle.query_run.specs.Both.{HoldsInput, Told, both_told, faults_in, told_in}
use Rattle.query_run.specs.Causes.{OfPool, side_of}
use Rattle.query_run.specs.Refused.{SaysOfInputs, source}
use Rattle.query_run.specs.Stopped.{MayStop, RanOver}
use Rattle.spill_top.specs.Unmarked.{IsUnmarked, MayStopUnmarked}
use Rattle.query_run.specs.Trail.{KeptRows}
use Rattle.query_plan.specs.declared.outcome.QueryErr.{QueryErr}
use Rattle.query_plan.specs.declared.outcome.QueryErr.TheVariants as cause
use Rattle.query_plan.specs.declared.outcome.Ran.{Ran}
use Rattle.spill_top.specs.declared.ending.Ending.{Ending}
use Rattle.spill_top.specs.declared.ending.Ending.TheVariants.{Lines, Stopped}
use Rattle.spill_top.specs.declared.job.Job.{Job}
use Rattle.spill_top.specs.Jobs.{IsWork, opened, work_of}
use Rattle.spill_top.specs.Pooled.{HaveFailed, IsSharedStop, all_tell}
use Rattle.spill_top.specs.Running.{Seen, SomeSpends}
use Rattle.spill_top.specs.Sides.{if_told}
use Rattle.spill_top.specs.Together.{IsAnswered}
use Rattle.spill_top.proofs.Answered.{job_answered, job_stopped}
use Rattle.spill_top.proofs.Stopped.{answer_told, lines_of, part_left, stopped_for}

-- a query whose inputs, if it has them, its output and its session are these
abbrev pub job_of : {S K St : Type 0} → Option Ending → S → Option S → K → Option Ending → St → Job S K St
job_of refused left right sink ended session = record { refused = refused; left = Some left; right = right; sink = Some sink; ended = ended; session = Some session }

-- one that goes on is so
pub goes_on : {S K St : Type 0} (job : Job S K St) (left : S) (sink : K) (session : St) → job.left ≡ Some left → job.sink ≡ Some sink → job.ended ≡ None → job.session ≡ Some session
    → job ≡ job_of job.refused left job.right sink None session
goes_on job left sink session lefts sinks on sits =
    ap (λ l. record { refused = job.refused; left = l; right = job.right; sink = job.sink; ended = job.ended; session = job.session }) lefts
    ∙ ap (λ k. record { refused = job.refused; left = Some left; right = job.right; sink = k; ended = job.ended; session = job.session }) sinks
    ∙ ap (λ e. record { refused = job.refused; left = Some left; right = job.right; sink = Some sink; ended = e; session = job.session }) on
    ∙ ap (λ s. record { refused = job.refused; left = Some left; right = job.right; sink = Some sink; ended = None; session = s }) sits

-- what stopped a query is an answer that needs no marks
pub stops_unmarked : (plan : Query) (told : Option Told) (start : Holdings) (old new : Signs) (why : QueryErr) → MayStop plan told start old new why → OfPool IsUnmarked why → MayStopUnmarked plan told start old new why
stops_unmarked plan told start old new (cause.Pool e) may unmarked = record { by_store = may; unmarked = unmarked }
stops_unmarked plan told start old new (cause.SourceFault side) may unmarked = tt
stops_unmarked plan told start old new (cause.BadHeader side) may unmarked = tt
stops_unmarked plan told start old new (cause.BadCsv side number) may unmarked = tt
stops_unmarked plan told start old new (cause.BadField side number column) may unmarked = tt
stops_unmarked plan told start old new (cause.TooLarge side) may unmarked = tt
stops_unmarked plan told start old new (cause.RowTooLong side number bytes) may unmarked = tt
stops_unmarked plan told start old new cause.SinkFault may unmarked = tt

pub all_unmarked : (plan : Query) (told : Option Told) (start : Holdings) (old new : Signs) (result : Result Ran QueryErr) → IfErr result (MayStop plan told start old new) → IfErr result (OfPool IsUnmarked)
    → IfErr result (MayStopUnmarked plan told start old new)
all_unmarked plan told start old new (Ok ran) may unmarked = tt
all_unmarked plan told start old new (Err why) may unmarked = stops_unmarked plan told start old new why may unmarked

-- what a call left at a place is there
pub at_place : {J : Type 0} (Became : J → J → Type 0) (before after : List J) (place : ℕ) (old new was now : J) → slice_get before place ≡ Some old → slice_get after place ≡ Some new
    → was ≡ get_or before place old → now ≡ get_or after place old → Became was now → Became old new
at_place Became before after place old new was now olds news is ends became =
    subst (λ j. Became j new) (is ∙ get_or_from_slice_get before place old old olds) (subst (λ j. Became was j) (ends ∙ get_or_from_slice_get after place new old news) became)

module _ {S K St : Type 0} (remaining : S → Option (List ℕ)) (reads : S → ℕ) (contents : K → Option (List ℕ)) (writes : K → ℕ) (holds : St → Holdings) (signs : St → Signs)
    (query : Query) (refused : Option Ending) (left left_now : S) (right right_now : Option S) (sink sink_now : K) (session later : St)
    (kept_right : HoldsInput reads right right_now)
    (over : RanOver query (both_told (remaining left) (told_in remaining right)) (holds session) (holds later) (signs session) (signs later)) where
  -- what the query is given
  abbrev given : Option Told
  given = both_told (remaining left) (told_in remaining right)

  -- the length of its pages
  abbrev page : ℕ
  page = page_len query (holds session).block_len

  -- it goes on, and has ended
  abbrev before : Job S K St
  before = job_of refused left right sink None session

  abbrev after : Ending → Job S K St
  after ending = job_of refused left_now right_now sink_now (Some ending) later

  -- with blocks as its store has them
  with_blocks : (start at : Seen) (block_len : ℕ) (all : List Query) (ending : Ending) → (holds session).block_len ≡ block_len
      → (IsWork start at (holds session).block_len all query (work_of remaining reads contents writes before) → IsWork start at (holds session).block_len all query (work_of remaining reads contents writes (after ending)))
      → IsWork start at block_len all query (work_of remaining reads contents writes before) → IsWork start at block_len all query (work_of remaining reads contents writes (after ending))
  with_blocks start at block_len all ending is works =
      subst (λ n. IsWork start at n all query (work_of remaining reads contents writes before) → IsWork start at n all query (work_of remaining reads contents writes (after ending))) is works

  -- the same of a job that was so, and that ended so
  pub of_job : (job : Job S K St) (ended : Option Ending) (ending : Ending) → job ≡ before → ended ≡ Some ending → IsAnswered remaining reads contents writes holds signs query before (after ending)
      → IsAnswered remaining reads contents writes holds signs query job (job_of refused left_now right_now sink_now ended later)
  of_job job ended ending is ends answered =
      subst (λ j. IsAnswered remaining reads contents writes holds signs query j (job_of refused left_now right_now sink_now ended later)) (sym is)
      (subst (λ e. IsAnswered remaining reads contents writes holds signs query before (job_of refused left_now right_now sink_now e later)) (sym ends) answered)

  -- its answer was written
  pub with_answer : (ran : Ran) → ((holds session).told ≡ true → WroteAnswer query page given (contents sink) (contents sink_now)) → IfSome given (Numbers query page (holds session).told ran)
      → KeptRows query page (remaining left) (told_in remaining right) (signs session).trail (signs later).trail → IsAnswered remaining reads contents writes holds signs query before (after (Lines ran.lines))
  with_answer ran wrote numbers kept = record {
    refused = refl;
    ended = refl;
    stays = λ never. absurd (false≢true never);
    ran = λ on. record {
      session = session;
      later = later;
      before = refl;
      after = refl;
      over = over;
      kept = λ has. kept;
      work = λ start at block_len all stops. with_blocks start at block_len all (Lines ran.lines) stops.block_len_is
          (job_answered remaining reads start at (holds session).block_len all query refused (opened (remaining left) (reads left)) (opened (remaining left_now) (reads left_now)) (opened (contents sink) (writes sink)) (opened (contents sink_now) (writes sink_now)) right right_now kept_right
          (holds session).told ran.lines stops.told (answer_told query page (holds session).told given (contents sink) (contents sink_now) wrote) (lines_of query page (holds session).told given ran numbers));
    };
  }

  -- it stopped
  pub with_stop : (why : QueryErr) → SaysOfInputs query page (source (remaining left) (remaining left_now) (reads left) (reads left_now)) (source (told_in remaining right) (told_in remaining right_now) (faults_in reads right) (faults_in reads right_now)) why
      → MayStopUnmarked query given (holds session) (signs session) (signs later) why → (why ≡ cause.SinkFault → Rose (writes sink) (writes sink_now)) → (IsSome (side_of why) → sink_now ≡ sink)
      → (sink_now ≡ sink) ⊎ ((IsAtEnd (remaining left_now) × IsAtEnd (told_in remaining right_now)) × ((holds session).told ≡ true → WroteFront query page given (contents sink) (contents sink_now)))
      → IsAnswered remaining reads contents writes holds signs query before (after (Stopped why))
  with_stop why says may fault untouched stopped = record {
    refused = refl;
    ended = refl;
    stays = λ never. absurd (false≢true never);
    ran = λ on. record {
      session = session;
      later = later;
      before = refl;
      after = refl;
      over = over;
      kept = λ has. absurd (false≢true has);
      work = λ start at block_len all stops. with_blocks start at block_len all (Stopped why) stops.block_len_is
          (job_stopped remaining reads start at (holds session).block_len all query refused (opened (remaining left) (reads left)) (opened (remaining left_now) (reads left_now)) (opened (contents sink) (writes sink)) (opened (contents sink_now) (writes sink_now)) right right_now kept_right
          (holds session).told why stops.told
          (stopped_for query page (source (remaining left) (remaining left_now) (reads left) (reads left_now)) (source (told_in remaining right) (told_in remaining right_now) (faults_in reads right) (faults_in reads right_now)) why (Rose (writes sink) (writes sink_now)) says fault)
          (subst (λ n. OfPool (IsSharedStop query (page_len query n) (if_told (all_tell start.slots) given) query.quota (HaveFailed start.slots at.slots) (SomeSpends all start)) why) (sym stops.block_len_is) (stops.stop given why may))
          (part_left contents query page (holds session).told given sink sink_now (side_of why) untouched stopped));
    };
  }
