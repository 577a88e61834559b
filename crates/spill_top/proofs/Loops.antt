-- Calls for each query of a plan in turn.
use Rattle.std.proofs.Common.{◌≡◌, ◌≢◌, ◌∙◌, ◌≤◌, ◌+◌, ℕ, List, Some, length, map, set, refl, sym, subst, arith}
use Rattle.std.specs.List.{slice_get}
use Rattle.std.proofs.lemmas.List.{length-map, map-set}
use Rattle.query_plan.specs.declared.plan.Query.{Query}
use Rattle.pin_core.specs.declared.tally.Tally.{Tally}
use Rattle.pin_core.proofs.Tallied.{uncounted_yet}
use Rattle.spill_top.specs.Pooled.{ComeBack}
use Rattle.spill_top.specs.Running.{Seen, Went}
use Rattle.spill_top.specs.Jobs.{KeepsWork, Work}
use Rattle.spill_top.specs.Steps.{AreAll, AreWorks, KeepRefused, KeepsWorks, with_slots}
use Rattle.spill_top.proofs.Places.{Passing, map_get, passing_end, passing_init, passing_step, same_set}
use Rattle.spill_top.proofs.Works.{work_later, works_step}

-- as far as a place calls were made
pub record Going (Before After : Work → Type 0) (place : ℕ) (started works : List Work) : Type 0 where
  pub passing : Passing Before After place works
  pub refused : KeepRefused started works

pub going_init : (Before After : Work → Type 0) (works : List Work) → AreAll Before works → Going Before After 0 works works
going_init Before After works all = record { passing = passing_init Before After works all; refused = refl }

pub going_end : (Before After : Work → Type 0) (place : ℕ) (started works : List Work) → length works ≤ place → Going Before After place started works → AreAll After works
going_end Before After place started works long going = passing_end Before After place works long going.passing

pub going_now : (Before After : Work → Type 0) (place : ℕ) (started works : List Work) (w : Work) → slice_get works place ≡ Some w → Going Before After place started works → Before w
going_now Before After place started works w at going = going.passing.waits place w at (omega arith)

pub going_step : (Before After : Work → Type 0) (place : ℕ) (started works : List Work) (w w' : Work) → slice_get works place ≡ Some w → w'.refused ≡ w.refused → After w' → Going Before After place started works
    → Going Before After (place + 1) started (set works place w')
going_step Before After place started works w w' at same after going = record {
  passing = passing_step Before After place works w' going.passing after;
  refused = same_set (λ (x : Work). x.refused) works place w w' at same ∙ going.refused;
}

-- the calls for one query, after those for the queries before it
pub kept_step : (start old now : Seen) (queries : List Query) (started works : List Work) (place : ℕ) (query : Query) (w w' : Work) → slice_get queries place ≡ Some query → slice_get works place ≡ Some w
    → Went old now → ((j : ℕ) (q : Query) → slice_get queries j ≡ Some q → j ≢ place → now.written q.output ≡ old.written q.output)
    → KeepsWorks start old queries started works → KeepsWork old now query w w' → KeepsWorks start now queries started (set works place w')
kept_step start old now queries started works place query w w' at_query at went others before call = λ begin block_len are.
    let now_are = before begin block_len are in
    works_step begin old now block_len queries works place query w' at_query went others now_are (call begin block_len queries (now_are place query w at_query at))

pub went_nowhere : (now : Seen) → Went now now
went_nowhere now = record { files = λ name. refl; reads = λ name. omega arith; created = λ name is. is; writes = λ name. omega arith; slots = uncounted_yet now.slots }

-- calls that only use the slots
pub went_slots : (before now : Tally) (at : Seen) → ComeBack before now → Went (with_slots before at) (with_slots now at)
went_slots before now at back = record { files = λ name. refl; reads = λ name. omega arith; created = λ name is. is; writes = λ name. omega arith; slots = back }

pub works_slots : (start at : Seen) (now : Tally) (block_len : ℕ) (queries : List Query) (works : List Work) → ComeBack at.slots now → AreWorks start at block_len queries works
    → AreWorks start (with_slots now at) block_len queries works
works_slots start at now block_len queries works back are = λ place query w at_query at_w.
    work_later start at (with_slots now at) block_len queries query w (went_slots at.slots now at back) refl (are place query w at_query at_w)

-- the same of what the jobs show
module _ {J : Type 0} (f : J → Work) where
  pub going_first : (Before After : Work → Type 0) (place : ℕ) (started : List Work) (jobs : List J) (job : J) → slice_get jobs place ≡ Some job → Going Before After place started (map f jobs) → Before (f job)
  going_first Before After place started jobs job at going = going_now Before After place started (map f jobs) (f job) (map_get f jobs place job at) going

  pub going_all : (Before After : Work → Type 0) (place : ℕ) (started : List Work) (jobs : List J) → length jobs ≤ place → Going Before After place started (map f jobs) → AreAll After (map f jobs)
  going_all Before After place started jobs long going = let len = length-map jobs f in going_end Before After place started (map f jobs) (omega (arith, len, long)) going

  pub going_call : (Before After : Work → Type 0) (place : ℕ) (started : List Work) (jobs : List J) (job job' : J) → slice_get jobs place ≡ Some job → (f job').refused ≡ (f job).refused → After (f job')
      → Going Before After place started (map f jobs) → Going Before After (place + 1) started (map f (set jobs place job'))
  going_call Before After place started jobs job job' at same after going =
      subst (λ (works : List Work). Going Before After (place + 1) started works) (sym (map-set f jobs place job'))
      (going_step Before After place started (map f jobs) (f job) (f job') (map_get f jobs place job at) same after going)

  pub kept_call : (start old now : Seen) (queries : List Query) (started : List Work) (jobs : List J) (place : ℕ) (query : Query) (job job' : J) → slice_get queries place ≡ Some query → slice_get jobs place ≡ Some job
      → Went old now → ((j : ℕ) (q : Query) → slice_get queries j ≡ Some q → j ≢ place → now.written q.output ≡ old.written q.output)
      → KeepsWorks start old queries started (map f jobs) → KeepsWork old now query (f job) (f job') → KeepsWorks start now queries started (map f (set jobs place job'))
  kept_call start old now queries started jobs place query job job' at_query at went others before call =
      subst (λ (works : List Work). KeepsWorks start now queries started works) (sym (map-set f jobs place job'))
      (kept_step start old now queries started (map f jobs) place query (f job) (f job') at_query (map_get f jobs place job at) went others before call)
