-- Queries whose sessions came, before they run: each that goes on has its session, as it came.
use Rattle.std.proofs.Common.{◌≡◌, ◌∙◌, ℕ, zero, suc, Bool, List, [], ◌∷◌, Option, Some, None, IsSome, All, map, refl, sym, ap, subst}
use Rattle.std.specs.List.{AllByRecursion, slice_get}
use Rattle.std.specs.Option.{option_map}
use Rattle.std.proofs.lemmas.List.Elements.{All-head, All-tail}
use Rattle.std.proofs.lemmas.Option.{none-some, same_Some}
use Rattle.turn_table.specs.Face.{Spot}
use Rattle.pool_model.specs.State.{Opening}
use Rattle.pool.specs.Asking.{Answers, AreNew}
use Rattle.pool.specs.declared.item.Item.{Item}
use Rattle.pool.specs.Sitting.{Sitting}
use Rattle.query_plan.specs.Rules.{KeepsQuery}
use Rattle.query_plan.specs.declared.plan.Query.{Query}
use Rattle.spill_top.specs.declared.job.Job.{Job}
use Rattle.spill_top.specs.Jobs.{Work, work_of}
use Rattle.spill_top.specs.Running.{Seen}
use Rattle.spill_top.specs.Steps.{AreAll, AreWorks, IsOpen, KeepRefused}
use Rattle.spill_top.specs.Together.{AllCanRun, ask_of, job_with, over_seat}
use Rattle.spill_top.proofs.Coming.{Shape}
use Rattle.spill_top.proofs.Sessions.{HasCome, can_run, holds, signs}
use Rattle.spill_top.proofs.Stepping.{at_part, new_at, same_part, seated_at}

-- what all keep one does
each_keeps : (queries : List Query) → All KeepsQuery queries → (place : ℕ) (query : Query) → slice_get queries place ≡ Some query → KeepsQuery query
each_keeps [] keep place query at = absurd (none-some query at)
each_keeps (first ∷ queries) keep zero query at = subst KeepsQuery (same_Some first query at) (All-head KeepsQuery first queries keep)
each_keeps (first ∷ queries) keep (suc place) query at = each_keeps queries (All-tail KeepsQuery first queries keep) place query at

-- a session is there if it is seen
some_seen : {St : Type 0} (see : St → Sitting) (session : Option St) → IsSome (option_map see session) → IsSome session
some_seen see None is = is
some_seen see (Some s) is = refl

module _ {S K St : Type 0} (see : St → Sitting) (remaining : S → Option (List ℕ)) (reads : S → ℕ) (contents : K → Option (List ℕ)) (writes : K → ℕ) (o : Opening) (told : Bool) (mid : Spot Item)
    (queries : List Query) (seen : Answers) (are : AllByRecursion Shape seen) (new : AreNew o told mid (map (ask_of o.block_len) queries) seen)
    (j0 j2 : List (Job S K St)) (first : map (over_seat see) j0 ≡ map job_with seen)
    (refused_stay : KeepRefused (map (work_of remaining reads contents writes) j0) (map (work_of remaining reads contents writes) j2)) (sessions_stay : map (λ (job : Job S K St). job.session) j2 ≡ map (λ (job : Job S K St). job.session) j0) where
  -- a query as it was when its session had come
  record Began (place : ℕ) (job : Job S K St) : Type 0 where
    was : Job S K Sitting
    at : slice_get (map job_with seen) place ≡ Some was
    session : was.session ≡ option_map see job.session
    refused : was.refused ≡ job.refused

  began : (place : ℕ) (job : Job S K St) → slice_get j2 place ≡ Some job → Began place job
  began place job at =
      let one = same_part (λ (x : Job S K St). x.session) (λ (x : Job S K St). x.session) j0 j2 place job (sym sessions_stay) at in
      let two = same_part (λ (w : Work). w.refused) (λ (w : Work). w.refused) (map (work_of remaining reads contents writes) j0) (map (work_of remaining reads contents writes) j2) place (work_of remaining reads contents writes job) (sym refused_stay)
      (at_part (work_of remaining reads contents writes) j2 place job at) in
      let same : work_of remaining reads contents writes one.0 ≡ two.0 = same_Some (work_of remaining reads contents writes one.0) two.0 (sym (at_part (work_of remaining reads contents writes) j0 place one.0 one.1) ∙ two.1) in
      record {
        was = over_seat see one.0;
        at = subst (λ (js : List (Job S K Sitting)). slice_get js place ≡ Some (over_seat see one.0)) first (at_part (over_seat see) j0 place one.0 one.1);
        session = ap (option_map see) one.2;
        refused = ap (λ (w : Work). w.refused) same ∙ two.2;
      }

  pub come_at : (place : ℕ) (query : Query) (job : Job S K St) → slice_get queries place ≡ Some query → slice_get j2 place ≡ Some job → HasCome remaining reads contents writes o told see query job
  come_at place query job at_query at = λ s is.
      let it = began place job at in
      (new_at S K o told mid o.block_len queries seen place query it.was (see s) new at_query it.at (it.session ∙ ap (option_map see) is)).held

  pub all_can : (start at : Seen) → All KeepsQuery queries → AreAll IsOpen (map (work_of remaining reads contents writes) j2) → AreWorks start at o.block_len queries (map (work_of remaining reads contents writes) j2)
      → AllCanRun remaining reads contents writes (holds remaining reads contents writes o told see) (signs remaining reads contents writes o told see) queries j2
  all_can start at rules opens works = λ place query job at_query at_job.
      let it = began place job at_job in
      let at_work = at_part (work_of remaining reads contents writes) j2 place job at_job in
      can_run remaining reads contents writes o told see start at queries query job (each_keeps queries rules place query at_query) (opens place (work_of remaining reads contents writes job) at_work)
      (works place query (work_of remaining reads contents writes job) at_query at_work)
      (λ none. some_seen see job.session (subst (λ (x : Option Sitting). IsSome x) it.session (seated_at S K seen place it.was are it.at (it.refused ∙ none)))) (come_at place query job at_query at_job)
