-- The queries of a plan in turn: what stands of all of them, and how far they are. About private fields.
use Rattle.std.specs.Prelude.{◌≡◌, ◌⊎◌, ℕ, Bool, true, false, List, Option, Some, None, All, IsSome, map, slice_get}
use Rattle.std.specs.Option.{option_map, unwrap_or}
use Rattle.pin_core.specs.declared.tally.Tally.{Tally}
use Rattle.query_plan.specs.declared.plan.Query.{Query}
use Rattle.spill_top.specs.declared.ending.Ending.{Ending}
use Rattle.spill_top.specs.declared.job.Job.{Job}
use Rattle.spill_top.specs.Endings.{is_answer}
use Rattle.spill_top.specs.Running.{Seen}
use Rattle.spill_top.specs.Jobs.{IsWork, Work}

-- what stands of all queries
abbrev pub AreWorks : Seen → Seen → ℕ → List Query → List Work → Type 0
AreWorks start now block_len queries works =
    (place : ℕ) (query : Query) (w : Work) → slice_get queries place ≡ Some query → slice_get works place ≡ Some w → IsWork start now block_len queries query w

-- inputs and outputs at a time, while the slots count this
abbrev pub with_slots : Tally → Seen → Seen
with_slots slots at = record at { slots = slots }

-- calls for them left it so, whenever the plan started
abbrev pub KeepsWorks : Seen → Seen → List Query → List Work → List Work → Type 0
KeepsWorks old now queries before after = (start : Seen) (block_len : ℕ) → AreWorks start old block_len queries before → AreWorks start now block_len queries after

-- how the least reservations were refused stays
abbrev pub KeepRefused : List Work → List Work → Type 0
KeepRefused before after = map (λ w. w.refused) after ≡ map (λ w. w.refused) before

-- a fact of each
abbrev pub AreAll : (Work → Type 0) → List Work → Type 0
AreAll Fact works = (place : ℕ) (w : Work) → slice_get works place ≡ Some w → Fact w

-- the steps: nothing is open; the output is; the inputs are; it has ended; the inputs are back; all is
abbrev pub IsBegun : Work → Type 0
IsBegun w = (w.left ≡ None) × (w.right ≡ None) × (w.output ≡ None)

abbrev pub IsCreated : Work → Type 0
IsCreated w = (w.left ≡ None) × (w.right ≡ None) × (w.ended ≡ None → IsSome w.output)

abbrev pub IsOpen : Work → Type 0
IsOpen w = w.ended ≡ None → IsSome w.left × IsSome w.output

abbrev pub IsEnded : Work → Type 0
IsEnded w = IsSome w.ended

abbrev pub IsRead : Work → Type 0
IsRead w = IsSome w.ended × (w.left ≡ None) × (w.right ≡ None)

abbrev pub IsDone : Work → Type 0
IsDone w = IsSome w.ended × (w.left ≡ None) × (w.right ≡ None) × (w.output ≡ None)

-- nothing is open for any of them
abbrev pub AreClosed : {S K St : Type 0} → List (Job S K St) → Type 0
AreClosed jobs = All (λ job. (job.left ≡ None) × (job.right ≡ None) × (job.sink ≡ None)) jobs

-- the names of the outputs that are open were created
abbrev pub AreMade : (List ℕ → Bool) → List Query → List Work → Type 0
AreMade created queries works =
    (place : ℕ) (query : Query) (w : Work) → slice_get queries place ≡ Some query → slice_get works place ≡ Some w → IsSome w.output → created query.output ≡ true

-- a fact of each query and what stands of it
abbrev pub AreEach : (Query → Work → Type 0) → List Query → List Work → Type 0
AreEach Fact queries works = (place : ℕ) (query : Query) (w : Work) → slice_get queries place ≡ Some query → slice_get works place ≡ Some w → Fact query w

-- whether a query has ended with an answer
abbrev pub has_answer : Option Ending → Bool
has_answer ended = unwrap_or (option_map is_answer ended) false

-- a call gave a query no answer: it ended as before, or without one
abbrev pub GivesNoAnswer : Option Ending → Option Ending → Type 0
GivesNoAnswer before now = (now ≡ before) ⊎ (has_answer now ≡ false)

-- calls for them gave none of them an answer
abbrev pub GiveNoAnswers : List Work → List Work → Type 0
GiveNoAnswers before after =
    (place : ℕ) (w later : Work) → slice_get before place ≡ Some w → slice_get after place ≡ Some later → GivesNoAnswer w.ended later.ended
