-- A fact of each query and what stands of it, as far as calls weren't made yet.
use Rattle.std.proofs.Common.{◌≡◌, ◌≤◌, ◌+◌, inl, inr, ℕ, List, Some, map, set, sym, subst, arith}
use Rattle.std.specs.List.{slice_get}
use Rattle.std.proofs.lemmas.List.{map-set}
use Rattle.query_plan.specs.declared.plan.Query.{Query}
use Rattle.spill_top.specs.Jobs.{Work}
use Rattle.spill_top.specs.Steps.{AreEach}
use Rattle.spill_top.proofs.Places.{map_get, set_get}

-- so it is from a place on
abbrev pub AreEachFrom : (Query → Work → Type 0) → ℕ → List Query → List Work → Type 0
AreEachFrom Fact place queries works = (j : ℕ) (query : Query) (w : Work) → place ≤ j → slice_get queries j ≡ Some query → slice_get works j ≡ Some w → Fact query w

pub each_first : (Fact : Query → Work → Type 0) (queries : List Query) (works : List Work) → AreEach Fact queries works → AreEachFrom Fact 0 queries works
each_first Fact queries works each = λ j query w from at_query at. each j query w at_query at

pub each_step : (Fact : Query → Work → Type 0) (queries : List Query) (works : List Work) (place : ℕ) (w : Work) → AreEachFrom Fact place queries works → AreEachFrom Fact (place + 1) queries (set works place w)
each_step Fact queries works place w each = λ j query x from at_query at_x.
    elim (set_get works place j w x at_x) [
      | inl here ↦ (let same = here.0 in absurd (omega (arith, same, from)))
      | inr there ↦ each j query x (omega (arith, from)) at_query there.1
    ]

-- the same of what the jobs show
module _ {J : Type 0} (f : J → Work) (Fact : Query → Work → Type 0) where
  pub each_now : (queries : List Query) (jobs : List J) (place : ℕ) (query : Query) (job : J) → slice_get queries place ≡ Some query → slice_get jobs place ≡ Some job → AreEachFrom Fact place queries (map f jobs)
      → Fact query (f job)
  each_now queries jobs place query job at_query at each = each place query (f job) (omega arith) at_query (map_get f jobs place job at)

  pub each_call : (queries : List Query) (jobs : List J) (place : ℕ) (job : J) → AreEachFrom Fact place queries (map f jobs) → AreEachFrom Fact (place + 1) queries (map f (set jobs place job))
  each_call queries jobs place job each =
      subst (λ (works : List Work). AreEachFrom Fact (place + 1) queries works) (sym (map-set f jobs place job)) (each_step Fact queries (map f jobs) place (f job) each)
