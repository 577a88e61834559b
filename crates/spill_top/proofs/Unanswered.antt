-- Calls that give no query an answer.
use Rattle.std.proofs.Common.{◌≡◌, ◌∙◌, inl, inr, ℕ, true, List, Option, Some, length, map, set, sym, subst, ap, arith}
use Rattle.std.specs.List.{slice_get}
use Rattle.std.proofs.lemmas.Bool.{false≢true}
use Rattle.std.proofs.lemmas.List.{map-set}
use Rattle.std.proofs.lemmas.Option.{same_Some, slice_get_cases, slice_get_within}
use Rattle.spill_top.specs.declared.ending.Ending.{Ending}
use Rattle.spill_top.specs.Jobs.{Work}
use Rattle.spill_top.specs.Steps.{GiveNoAnswers, GivesNoAnswer, has_answer}
use Rattle.spill_top.proofs.Places.{map_get, set_get}

-- one after the other
pub gives_then : (first mid last : Option Ending) → GivesNoAnswer first mid → GivesNoAnswer mid last → GivesNoAnswer first last
gives_then first mid last one (inr none) = inr none
gives_then first mid last (inl same) (inl then) = inl (then ∙ same)
gives_then first mid last (inr none) (inl then) = inr (ap has_answer then ∙ none)

-- an answer was there before
pub answer_before : (before now : Option Ending) → GivesNoAnswer before now → has_answer now ≡ true → now ≡ before
answer_before before now (inl same) has = same
answer_before before now (inr none) has = absurd (false≢true (sym none ∙ has))

-- what stands at a place of a list that has such a place
there : {X Y : Type 0} → (xs : List X) (ys : List Y) (place : ℕ) (x : X) → length xs ≡ length ys → slice_get xs place ≡ Some x → (y : Y) × (slice_get ys place ≡ Some y)
there xs ys place x many at =
    elim (slice_get_cases ys place).1 [
      | inl found ↦ (found.0, found.2)
      | inr past ↦ (let inside = slice_get_within xs place x at in let short = past.0 in absurd (omega (arith, inside, short, many)))
    ]

pub unanswered_first : (works : List Work) → GiveNoAnswers works works
unanswered_first works = λ place w later at at_later. inl (ap (λ (x : Work). x.ended) (same_Some later w (sym at_later ∙ at)))

pub unanswered_on : (first mid last : List Work) → length first ≡ length mid → GiveNoAnswers first mid → GiveNoAnswers mid last → GiveNoAnswers first last
unanswered_on first mid last many one two = λ place w later at at_later.
    let between = there first mid place w many at in
    gives_then w.ended between.0.ended later.ended (one place w between.0 at between.1) (two place between.0 later between.1 at_later)

-- a call for the query at a place, of what the jobs show
pub unanswered_call : {J : Type 0} → (f : J → Work) (started : List Work) (jobs : List J) (place : ℕ) (job job' : J) → slice_get jobs place ≡ Some job → GivesNoAnswer (f job).ended (f job').ended
    → GiveNoAnswers started (map f jobs) → GiveNoAnswers started (map f (set jobs place job'))
unanswered_call f started jobs place job job' at gives before = λ j w later at_w at_later.
    elim (set_get (map f jobs) place j (f job') later (subst (λ (works : List Work). slice_get works j ≡ Some later) (map-set f jobs place job') at_later)) [
      | inl here ↦ (let at_first : slice_get started place ≡ Some w = subst (λ (n : ℕ). slice_get started n ≡ Some w) here.0 at_w in
          subst (λ (x : Work). GivesNoAnswer w.ended x.ended) (sym here.1)
          (gives_then w.ended (f job).ended (f job').ended (before place w (f job) at_first (map_get f jobs place job at)) gives))
      | inr other ↦ before j w later at_w other.1
    ]
