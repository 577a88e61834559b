-- The calls for all queries of a plan, one kind after the other.
use Rattle.std.proofs.Common.{◌≡◌, ◌∙◌, ℕ, suc, true, List, [], ◌∷◌, Option, Some, None, All, IsSome, length, map, refl, sym, subst, ap}
use Rattle.std.specs.Option.{option_map}
use Rattle.std.proofs.lemmas.Bool.{false≢true}
use Rattle.std.proofs.lemmas.List.{length-map}
use Rattle.std.proofs.lemmas.List.Elements.{All-cons, All-nil}
use Rattle.query_plan.specs.Sizes.{least_of}
use Rattle.query_plan.specs.declared.plan.Query.{Query}
use Rattle.spill_top.specs.declared.ending.Ending.{Ending}
use Rattle.spill_top.specs.declared.job.Job.{Job}
use Rattle.spill_top.specs.Reserving.{refusal, refusals, room_behind}
use Rattle.spill_top.specs.Running.{HaveEnded, Seen, Went, told_over}
use Rattle.spill_top.specs.Jobs.{HasSides, Opened, OutputStands, Work, begun, work_of}
use Rattle.spill_top.specs.Steps.{AreAll, AreClosed, AreEach, AreMade, AreWorks, IsBegun, IsDone, KeepRefused, KeepsWorks}
use Rattle.spill_top.proofs.Whole.{all_ended, begun_all, begun_works}
use Rattle.spill_top.proofs.Works.{went_on}

-- every query has its refusal, or none
pub refusals_len : (block_len room : ℕ) (queries : List Query) → length (refusals block_len room queries) ≡ length queries
refusals_len block_len room [] = refl
refusals_len block_len room (query ∷ queries) =
    ap (λ (n : ℕ). suc n) (refusals_len block_len (room_behind (refusal query.limit (least_of query block_len) room) (least_of query block_len) room) queries)

-- an output that is open was created
open-made : (query : Query) (w : Work) (start now : Seen) (page : ℕ) (output : Option Opened) (ended : Option Ending) → IsSome output
    → OutputStands query page (told_over query start) (start.written query.output) (now.written query.output) (now.created query.output) output ended → now.created query.output ≡ true
open-made query w start now page None ended some is = absurd (false≢true some)
open-made query w start now page (Some sink) ended some is = is.0

pub made_of : (start now : Seen) (block_len : ℕ) (queries : List Query) (works : List Work) → AreWorks start now block_len queries works → AreMade now.created queries works
made_of start now block_len queries works are = λ place query w at_query at some.
    open-made query w start now _ w.output w.ended some ((are place query w at_query at).output)

-- right inputs that are open are those of queries that join
pub sided_of : (start now : Seen) (block_len : ℕ) (queries : List Query) (works : List Work) → AreWorks start now block_len queries works → AreEach HasSides queries works
sided_of start now block_len queries works are = λ place query w at_query at. (are place query w at_query at).sides

none-mapped : {X Y : Type 0} → (f : X → Y) (o : Option X) → option_map f o ≡ None → o ≡ None
none-mapped f None is = refl
none-mapped f (Some x) is = cc

-- how queries were refused that have only begun
pub begun_refused : (all : List (Option Ending)) → map (λ (w : Work). w.refused) (map begun all) ≡ all
begun_refused [] = refl
begun_refused (refused ∷ all) = ap (λ (rest : List (Option Ending)). refused ∷ rest) (begun_refused all)

module _ {S K St : Type 0} (remaining : S → Option (List ℕ)) (reads : S → ℕ) (contents : K → Option (List ℕ)) (writes : K → ℕ) where
  pub begun_len : (block_len room : ℕ) (queries : List Query) (jobs : List (Job S K St)) → map (work_of remaining reads contents writes) jobs ≡ map begun (refusals block_len room queries) → length queries ≡ length jobs
  begun_len block_len room queries jobs first =
      sym (sym (length-map jobs (work_of remaining reads contents writes))
      ∙ (ap (λ (works : List Work). length works) first ∙ (length-map (refusals block_len room queries) begun ∙ refusals_len block_len room queries)))

  first-refused : (block_len room : ℕ) (queries : List Query) (jobs : List (Job S K St)) → map (work_of remaining reads contents writes) jobs ≡ map begun (refusals block_len room queries)
      → map (λ (w : Work). w.refused) (map (work_of remaining reads contents writes) jobs) ≡ refusals block_len room queries
  first-refused block_len room queries jobs first = ap (λ (works : List Work). map (λ (w : Work). w.refused) works) first ∙ begun_refused (refusals block_len room queries)

  -- how the jobs ended
  pub jobs_ended : (jobs : List (Job S K St)) → map (λ (w : Work). w.ended) (map (work_of remaining reads contents writes) jobs) ≡ map (λ job. job.ended) jobs
  jobs_ended [] = refl
  jobs_ended (job ∷ jobs) = ap (λ (rest : List (Option Ending)). job.ended ∷ rest) (jobs_ended jobs)

  rest-done : (job : Job S K St) (jobs : List (Job S K St)) → AreAll IsDone (map (work_of remaining reads contents writes) (job ∷ jobs)) → AreAll IsDone (map (work_of remaining reads contents writes) jobs)
  rest-done job jobs done = λ place w at. done (suc place) w at

  pub all_have_ended : (jobs : List (Job S K St)) → AreAll IsDone (map (work_of remaining reads contents writes) jobs) → All (λ job. IsSome job.ended) jobs
  all_have_ended [] done = All-nil (λ (job : Job S K St). IsSome job.ended)
  all_have_ended (job ∷ jobs) done = All-cons (λ (job : Job S K St). IsSome job.ended) job jobs ((done 0 (work_of remaining reads contents writes job) refl).0) (all_have_ended jobs (rest-done job jobs done))

  closed-one : (job : Job S K St) → IsDone (work_of remaining reads contents writes job) → (job.left ≡ None) × (job.right ≡ None) × (job.sink ≡ None)
  closed-one job done = (none-mapped _ job.left done.1, none-mapped _ job.right done.2, none-mapped _ job.sink done.3)

  pub all_closed : (jobs : List (Job S K St)) → AreAll IsDone (map (work_of remaining reads contents writes) jobs) → AreClosed jobs
  all_closed [] done = All-nil (λ (job : Job S K St). (job.left ≡ None) × (job.right ≡ None) × (job.sink ≡ None))
  all_closed (job ∷ jobs) done = All-cons (λ (job : Job S K St). (job.left ≡ None) × (job.right ≡ None) × (job.sink ≡ None)) job jobs (closed-one job (done 0 (work_of remaining reads contents writes job) refl)) (all_closed jobs (rest-done job jobs done))

  pub all_begun : (block_len room : ℕ) (queries : List Query) (jobs : List (Job S K St)) → map (work_of remaining reads contents writes) jobs ≡ map begun (refusals block_len room queries)
      → AreAll IsBegun (map (work_of remaining reads contents writes) jobs)
  all_begun block_len room queries jobs first = subst (λ (works : List Work). AreAll IsBegun works) (sym first) (begun_all (refusals block_len room queries))

  pub works_begin : (start : Seen) (block_len room : ℕ) (queries : List Query) (jobs : List (Job S K St)) → map (work_of remaining reads contents writes) jobs ≡ map begun (refusals block_len room queries)
      → AreWorks start start block_len queries (map (work_of remaining reads contents writes) jobs)
  works_begin start block_len room queries jobs first = subst (λ (works : List Work). AreWorks start start block_len queries works) (sym first) (begun_works start block_len room queries)

  -- what the five kinds of calls make of queries that have begun
  pub ran_so : (start s1 s2 s3 s4 s5 : Seen) (block_len room : ℕ) (queries : List Query) (j0 j1 j2 j3 j4 j5 : List (Job S K St)) (ends : List Ending)
      → map (work_of remaining reads contents writes) j0 ≡ map begun (refusals block_len room queries)
      → AreWorks start start block_len queries (map (work_of remaining reads contents writes) j0)
      → KeepsWorks start s1 queries (map (work_of remaining reads contents writes) j0) (map (work_of remaining reads contents writes) j1)
      → KeepsWorks s1 s2 queries (map (work_of remaining reads contents writes) j1) (map (work_of remaining reads contents writes) j2)
      → (AreWorks start s2 block_len queries (map (work_of remaining reads contents writes) j2) → AreWorks start s3 block_len queries (map (work_of remaining reads contents writes) j3))
      → KeepsWorks s3 s4 queries (map (work_of remaining reads contents writes) j3) (map (work_of remaining reads contents writes) j4)
      → KeepsWorks s4 s5 queries (map (work_of remaining reads contents writes) j4) (map (work_of remaining reads contents writes) j5)
      → AreAll IsDone (map (work_of remaining reads contents writes) j5)
      → KeepRefused (map (work_of remaining reads contents writes) j0) (map (work_of remaining reads contents writes) j1)
      → KeepRefused (map (work_of remaining reads contents writes) j1) (map (work_of remaining reads contents writes) j2)
      → KeepRefused (map (work_of remaining reads contents writes) j2) (map (work_of remaining reads contents writes) j3)
      → KeepRefused (map (work_of remaining reads contents writes) j3) (map (work_of remaining reads contents writes) j4)
      → KeepRefused (map (work_of remaining reads contents writes) j4) (map (work_of remaining reads contents writes) j5)
      → map (λ ending. Some ending) ends ≡ map (λ (job : Job S K St). job.ended) j5
      → HaveEnded start s5 block_len (refusals block_len room queries) queries ends
  ran_so start s1 s2 s3 s4 s5 block_len room queries j0 j1 j2 j3 j4 j5 ends first are created opened answered closed finished done r1 r2 r3 r4 r5 alike =
      all_ended start s5 block_len queries (map (work_of remaining reads contents writes) j5) (refusals block_len room queries) ends
      (finished start block_len (closed start block_len (answered (opened start block_len (created start block_len are))))) done
      (r5 ∙ (r4 ∙ (r3 ∙ (r2 ∙ (r1 ∙ first-refused block_len room queries j0 first))))) (alike ∙ sym (jobs_ended j5))

  -- before the last of them, outputs that are open are created
  pub made_so : (start s1 s2 s3 s4 : Seen) (block_len : ℕ) (queries : List Query) (j0 j1 j2 j3 j4 : List (Job S K St))
      → AreWorks start start block_len queries (map (work_of remaining reads contents writes) j0)
      → KeepsWorks start s1 queries (map (work_of remaining reads contents writes) j0) (map (work_of remaining reads contents writes) j1)
      → KeepsWorks s1 s2 queries (map (work_of remaining reads contents writes) j1) (map (work_of remaining reads contents writes) j2)
      → (AreWorks start s2 block_len queries (map (work_of remaining reads contents writes) j2) → AreWorks start s3 block_len queries (map (work_of remaining reads contents writes) j3))
      → KeepsWorks s3 s4 queries (map (work_of remaining reads contents writes) j3) (map (work_of remaining reads contents writes) j4)
      → AreMade s4.created queries (map (work_of remaining reads contents writes) j4)
  made_so start s1 s2 s3 s4 block_len queries j0 j1 j2 j3 j4 are created opened answered closed =
      made_of start s4 block_len queries (map (work_of remaining reads contents writes) j4) (closed start block_len (answered (opened start block_len (created start block_len are))))

  -- and the right inputs that are open are those of queries that join, before and after the queries are answered
  pub sided_so : (start s1 s2 : Seen) (block_len : ℕ) (queries : List Query) (j0 j1 j2 : List (Job S K St))
      → AreWorks start start block_len queries (map (work_of remaining reads contents writes) j0)
      → KeepsWorks start s1 queries (map (work_of remaining reads contents writes) j0) (map (work_of remaining reads contents writes) j1)
      → KeepsWorks s1 s2 queries (map (work_of remaining reads contents writes) j1) (map (work_of remaining reads contents writes) j2)
      → AreEach HasSides queries (map (work_of remaining reads contents writes) j2)
  sided_so start s1 s2 block_len queries j0 j1 j2 are created opened =
      sided_of start s2 block_len queries (map (work_of remaining reads contents writes) j2) (opened start block_len (created start block_len are))

  pub sided_then : (start s1 s2 s3 : Seen) (block_len : ℕ) (queries : List Query) (j0 j1 j2 j3 : List (Job S K St))
      → AreWorks start start block_len queries (map (work_of remaining reads contents writes) j0)
      → KeepsWorks start s1 queries (map (work_of remaining reads contents writes) j0) (map (work_of remaining reads contents writes) j1)
      → KeepsWorks s1 s2 queries (map (work_of remaining reads contents writes) j1) (map (work_of remaining reads contents writes) j2)
      → (AreWorks start s2 block_len queries (map (work_of remaining reads contents writes) j2) → AreWorks start s3 block_len queries (map (work_of remaining reads contents writes) j3))
      → AreEach HasSides queries (map (work_of remaining reads contents writes) j3)
  sided_then start s1 s2 s3 block_len queries j0 j1 j2 j3 are created opened answered =
      sided_of start s3 block_len queries (map (work_of remaining reads contents writes) j3) (answered (opened start block_len (created start block_len are)))

  -- as many endings as jobs
  pub as_many : (jobs : List (Job S K St)) (ends : List Ending) → map (λ ending. Some ending) ends ≡ map (λ (job : Job S K St). job.ended) jobs → length ends ≡ length jobs
  as_many jobs ends alike =
      sym (length-map ends (λ (ending : Ending). Some ending)) ∙ (ap (λ (list : List (Option Ending)). length list) alike ∙ length-map jobs (λ (job : Job S K St). job.ended))

pub went_through : (a b c d e f : Seen) → Went a b → Went b c → Went c d → Went d e → Went e f → Went a f
went_through a b c d e f one two three four five = went_on a b f one (went_on b c f two (went_on c d f three (went_on d e f four five)))
