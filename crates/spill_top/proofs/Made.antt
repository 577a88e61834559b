-- Outputs that are open were created.
use Rattle.std.proofs.Common.{◌≡◌, ◌∙◌, inl, inr, ℕ, Bool, true, List, Option, Some, None, IsSome, map, set, refl, sym, subst, ap}
use Rattle.std.specs.List.{slice_get}
use Rattle.std.specs.Option.{option_map}
use Rattle.std.proofs.lemmas.Bool.{false≢true}
use Rattle.std.proofs.lemmas.List.{map-set}
use Rattle.outside.specs.Names.{StaysCreated}
use Rattle.query_plan.specs.declared.plan.Query.{Query}
use Rattle.spill_top.specs.declared.job.Job.{Job}
use Rattle.spill_top.specs.Jobs.{Opened, Work, work_of}
use Rattle.spill_top.specs.Steps.{AreMade}
use Rattle.spill_top.proofs.Places.{map_get, set_get}

none-open : (output : Option Opened) → output ≡ None → IsSome output → {A : Type 0} → A
none-open None none some = absurd (false≢true some)
none-open (Some thing) none some = cc

-- an output was given back, and those that are open stay created
pub made_step : (was is_now : List ℕ → Bool) (queries : List Query) (works : List Work) (place : ℕ) (w : Work) → StaysCreated was is_now → w.output ≡ None → AreMade was queries works → AreMade is_now queries (set works place w)
made_step was is_now queries works place w stays none made = λ j q x at_q at_x some.
    elim (set_get works place j w x at_x) [
      | inl here ↦ none-open x.output (ap (λ (y : Work). y.output) here.1 ∙ none) some
      | inr there ↦ stays q.output (made j q x at_q there.1 some)
    ]

some-mapped : {X Y : Type 0} → (f : X → Y) (o : Option X) → IsSome o → IsSome (option_map f o)
some-mapped f None some = absurd (false≢true some)
some-mapped f (Some x) some = refl

module _ {S K St : Type 0} (remaining : S → Option (List ℕ)) (reads : S → ℕ) (contents : K → Option (List ℕ)) (writes : K → ℕ) where
  pub made_at : (created : List ℕ → Bool) (queries : List Query) (jobs : List (Job S K St)) (place : ℕ) (query : Query) (job : Job S K St) → slice_get queries place ≡ Some query → slice_get jobs place ≡ Some job
      → AreMade created queries (map (work_of remaining reads contents writes) jobs) → IsSome job.sink → created query.output ≡ true
  made_at created queries jobs place query job at_query at made some =
      made place query (work_of remaining reads contents writes job) at_query (map_get (work_of remaining reads contents writes) jobs place job at) (some-mapped _ job.sink some)

  pub made_call : (was is_now : List ℕ → Bool) (queries : List Query) (jobs : List (Job S K St)) (place : ℕ) (job : Job S K St) → StaysCreated was is_now → (work_of remaining reads contents writes job).output ≡ None
      → AreMade was queries (map (work_of remaining reads contents writes) jobs) → AreMade is_now queries (map (work_of remaining reads contents writes) (set jobs place job))
  made_call was is_now queries jobs place job stays none made =
      subst (λ (works : List Work). AreMade is_now queries works) (sym (map-set (work_of remaining reads contents writes) jobs place job))
      (made_step was is_now queries (map (work_of remaining reads contents writes) jobs) place (work_of remaining reads contents writes job) stays none made)
