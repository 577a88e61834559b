-- What stands of a query once its output was given back, whichever way it ended.
use Rattle.std.proofs.Common.{◌≡◌, ℕ, Bool, true, false, List, Option, Some, None, IsSome, Result, Ok, Err, refl, sym, subst}
use Rattle.std.specs.Option.{option_map, unwrap_or}
use Rattle.std.proofs.lemmas.Bool.{false≢true}
use Rattle.outside.specs.Counts.{Rose}
use Rattle.outside.specs.Names.{TakesBytes, TakesFaults}
use Rattle.query_plan.specs.Sizes.{page_len}
use Rattle.query_plan.specs.declared.plan.Query.{Query}
use Rattle.query_plan.specs.declared.outcome.QueryErr.TheVariants.{SinkFault}
use Rattle.spill_top.specs.declared.ending.Ending.{Ending}
use Rattle.spill_top.specs.declared.ending.Ending.TheVariants.{Lines, Reservation, Stopped}
use Rattle.spill_top.specs.declared.job.Job.{Job}
use Rattle.spill_top.specs.Endings.{is_answer}
use Rattle.spill_top.specs.Running.{Seen, Went, told_over}
use Rattle.spill_top.specs.Jobs.{IsWork, Opened, opened, work_of}
use Rattle.spill_top.proofs.Finished.{finished_answer, finished_failed, finished_so, finished_stopped, not_finished}

-- whether there is an answer
abbrev pub answered : Option Ending → Bool
answered ended = unwrap_or (option_map is_answer ended) false

module _ (E : Type 0) (start old now : Seen) (block_len : ℕ) (all : List Query) (query : Query) (refused : Option Ending) (left right : Option Opened) (sink : Opened) where
  -- it was given back without an answer
  pub short_so : (ended : Option Ending) (result : Result Unit E) → answered ended ≡ false → IsSome ended → Went old now → TakesFaults sink.faults (old.writes query.output) (now.writes query.output)
      → TakesBytes (old.written query.output) (now.written query.output) sink.told false result
      → IsWork start old block_len all query (record { refused = refused; left = left; right = right; output = Some sink; ended = ended })
      → IsWork start now block_len all query (record { refused = refused; left = left; right = right; output = None; ended = ended })
  short_so None result short some went faults takes is = absurd (false≢true some)
  short_so (Some (Lines lines)) result short some went faults takes is = absurd (false≢true (sym short))
  short_so (Some (Reservation root wanted room)) result short some went faults takes is =
      finished_so start old now block_len all query refused left right sink (Reservation root wanted room) went faults
      (finished_stopped query (page_len query block_len) (told_over query start) (start.written query.output) (old.written query.output) (now.written query.output) sink.told (Reservation root wanted room) result refl is.output.1 takes) is
  short_so (Some (Stopped why)) result short some went faults takes is =
      finished_so start old now block_len all query refused left right sink (Stopped why) went faults
      (finished_stopped query (page_len query block_len) (told_over query start) (start.written query.output) (old.written query.output) (now.written query.output) sink.told (Stopped why) result refl is.output.1 takes) is

  -- it was given back with an answer
  pub whole_so : (ended : Option Ending) → answered ended ≡ true → Went old now → TakesFaults sink.faults (old.writes query.output) (now.writes query.output)
      → TakesBytes {E = E} (old.written query.output) (now.written query.output) sink.told true (Ok tt)
      → IsWork start old block_len all query (record { refused = refused; left = left; right = right; output = Some sink; ended = ended })
      → IsWork start now block_len all query (record { refused = refused; left = left; right = right; output = None; ended = ended })
  whole_so None whole went faults takes is = absurd (false≢true whole)
  whole_so (Some (Lines lines)) whole went faults takes is =
      finished_so start old now block_len all query refused left right sink (Lines lines) went faults
      (finished_answer E query (page_len query block_len) lines (told_over query start) (start.written query.output) (old.written query.output) (now.written query.output) sink.told is.output.1 takes) is
  whole_so (Some (Reservation root wanted room)) whole went faults takes is = absurd (false≢true whole)
  whole_so (Some (Stopped why)) whole went faults takes is = absurd (false≢true whole)

  -- it had an answer, and its end failed
  pub failed_so : (ended : Option Ending) (e : E) → answered ended ≡ true → Went old now → Rose (old.writes query.output) (now.writes query.output)
      → TakesBytes (old.written query.output) (now.written query.output) sink.told true (Err e)
      → IsWork start old block_len all query (record { refused = refused; left = left; right = right; output = Some sink; ended = ended })
      → IsWork start now block_len all query (record { refused = refused; left = left; right = right; output = None; ended = Some (Stopped SinkFault) })
  failed_so None e whole went rose takes is = absurd (false≢true whole)
  failed_so (Some (Lines lines)) e whole went rose takes is =
      not_finished start old now block_len lines all query refused left right sink went rose
      (finished_failed query (page_len query block_len) lines (told_over query start) (start.written query.output) (old.written query.output) (now.written query.output) sink.told e is.output.1 takes) is
  failed_so (Some (Reservation root wanted room)) e whole went rose takes is = absurd (false≢true whole)
  failed_so (Some (Stopped why)) e whole went rose takes is = absurd (false≢true whole)

  -- both where it was given back without a fault
  pub given_so : (ended : Option Ending) (whole : Bool) → whole ≡ answered ended → IsSome ended → Went old now → TakesFaults sink.faults (old.writes query.output) (now.writes query.output)
      → TakesBytes {E = E} (old.written query.output) (now.written query.output) sink.told whole (Ok tt)
      → IsWork start old block_len all query (record { refused = refused; left = left; right = right; output = Some sink; ended = ended })
      → IsWork start now block_len all query (record { refused = refused; left = left; right = right; output = None; ended = ended })
  given_so ended true whole some went faults takes is = whole_so ended (sym whole) went faults takes is
  given_so ended false whole some went faults takes is = short_so ended (Ok tt) (sym whole) some went faults takes is

module _ {S K St : Type 0} (remaining : S → Option (List ℕ)) (reads : S → ℕ) (contents : K → Option (List ℕ)) (writes : K → ℕ) where
  with_sink : (start old : Seen) (block_len : ℕ) (all : List Query) (query : Query) (job : Job S K St) (sink : Option K) → job.sink ≡ sink → IsWork start old block_len all query (work_of remaining reads contents writes job)
      → IsWork start old block_len all query (work_of remaining reads contents writes (record { refused = job.refused; left = job.left; right = job.right; sink = sink; ended = job.ended; session = job.session }))
  with_sink start old block_len all query job sink same is =
      subst (λ (s : Option K). IsWork start old block_len all query (work_of remaining reads contents writes (record { refused = job.refused; left = job.left; right = job.right; sink = s; ended = job.ended; session = job.session }))) same is

  without_sink : (start old : Seen) (block_len : ℕ) (all : List Query) (query : Query) (refused : Option Ending) (left right : Option S) (taken : Option K) (ended : Option Ending) (session : Option St) → taken ≡ None
      → IsWork start old block_len all query (work_of remaining reads contents writes (record { refused = refused; left = left; right = right; sink = None; ended = ended; session = session }))
      → IsWork start old block_len all query (work_of remaining reads contents writes (record { refused = refused; left = left; right = right; sink = taken; ended = ended; session = session }))
  without_sink start old block_len all query refused left right taken ended session none is =
      subst (λ (s : Option K). IsWork start old block_len all query (work_of remaining reads contents writes (record { refused = refused; left = left; right = right; sink = s; ended = ended; session = session }))) (sym none) is

  pub job_given : (E : Type 0) (start old now : Seen) (block_len : ℕ) (all : List Query) (query : Query) (job : Job S K St) (sink : K) (taken : Option K) (whole : Bool) → job.sink ≡ Some sink → taken ≡ None
      → whole ≡ answered job.ended → IsSome job.ended → Went old now → TakesFaults (writes sink) (old.writes query.output) (now.writes query.output)
      → TakesBytes {E = E} (old.written query.output) (now.written query.output) (contents sink) whole (Ok tt)
      → IsWork start old block_len all query (work_of remaining reads contents writes job)
      → IsWork start now block_len all query (work_of remaining reads contents writes (record { refused = job.refused; left = job.left; right = job.right; sink = taken; ended = job.ended; session = job.session }))
  job_given E start old now block_len all query job sink taken whole same none answer some went faults takes is =
      without_sink start now block_len all query job.refused job.left job.right taken job.ended job.session none
      (given_so E start old now block_len all query job.refused (option_map (λ s. opened (remaining s) (reads s)) job.left) (option_map (λ s. opened (remaining s) (reads s)) job.right) (opened (contents sink) (writes sink)) job.ended whole answer some went faults takes
      (with_sink start old block_len all query job (Some sink) same is))

  pub job_short : (E : Type 0) (start old now : Seen) (block_len : ℕ) (all : List Query) (query : Query) (job : Job S K St) (sink : K) (taken : Option K) (result : Result Unit E) → job.sink ≡ Some sink → taken ≡ None
      → answered job.ended ≡ false → IsSome job.ended → Went old now → TakesFaults (writes sink) (old.writes query.output) (now.writes query.output)
      → TakesBytes (old.written query.output) (now.written query.output) (contents sink) false result
      → IsWork start old block_len all query (work_of remaining reads contents writes job)
      → IsWork start now block_len all query (work_of remaining reads contents writes (record { refused = job.refused; left = job.left; right = job.right; sink = taken; ended = job.ended; session = job.session }))
  job_short E start old now block_len all query job sink taken result same none short some went faults takes is =
      without_sink start now block_len all query job.refused job.left job.right taken job.ended job.session none
      (short_so E start old now block_len all query job.refused (option_map (λ s. opened (remaining s) (reads s)) job.left) (option_map (λ s. opened (remaining s) (reads s)) job.right) (opened (contents sink) (writes sink)) job.ended result short some went faults takes
      (with_sink start old block_len all query job (Some sink) same is))

  pub job_failed : (E : Type 0) (start old now : Seen) (block_len : ℕ) (all : List Query) (query : Query) (job : Job S K St) (sink : K) (taken : Option K) (e : E) → job.sink ≡ Some sink → taken ≡ None
      → answered job.ended ≡ true → Went old now → Rose (old.writes query.output) (now.writes query.output)
      → TakesBytes (old.written query.output) (now.written query.output) (contents sink) true (Err e)
      → IsWork start old block_len all query (work_of remaining reads contents writes job)
      → IsWork start now block_len all query (work_of remaining reads contents writes (record { refused = job.refused; left = job.left; right = job.right; sink = taken; ended = Some (Stopped SinkFault); session = job.session }))
  job_failed E start old now block_len all query job sink taken e same none whole went rose takes is =
      without_sink start now block_len all query job.refused job.left job.right taken (Some (Stopped SinkFault)) job.session none
      (failed_so E start old now block_len all query job.refused (option_map (λ s. opened (remaining s) (reads s)) job.left) (option_map (λ s. opened (remaining s) (reads s)) job.right) (opened (contents sink) (writes sink)) job.ended e whole went rose takes
      (with_sink start old block_len all query job (Some sink) same is))
