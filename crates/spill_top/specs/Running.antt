-- What becomes of a query of a plan. What its files hold is told or not, and nothing is said where it isn't.
use Rattle.std.specs.Prelude.{◌≡◌, ◌⊎◌, ◌*◌, ◌≤◌, ◌++◌, ℕ, Bool, true, false, List, [], Option, Some, None, IfSome, length, slice_get, ⊤}
use Rattle.std.specs.Option.{IsSomeAnd, option_flatten}
use Rattle.outside.specs.Counts.{NoneFell, Rose}
use Rattle.outside.specs.Names.{AllStay, OthersStay, StaysCreated, Written}
use Rattle.pin_core.specs.declared.tally.Tally.{Tally}
use Rattle.query_plan.specs.declared.plan.Query.{Query}
use Rattle.query_plan.specs.declared.plan.Side.{Side}
use Rattle.query_plan.specs.declared.plan.Side.TheVariants.{Left, Right}
use Rattle.query_plan.specs.Sizes.{page_len}
use Rattle.query_run.specs.Answer.{IsAnswer}
use Rattle.query_run.specs.Both.{AreAccepted, Told}
use Rattle.query_run.specs.Causes.{IsOfBytes, OfPool, side_of}
use Rattle.query_run.specs.Input.{IsAccepted, IsRefusal, IsRefusalIn}
use Rattle.query_plan.specs.declared.outcome.QueryErr.{QueryErr}
use Rattle.query_run.specs.Through.{need}
use Rattle.query_plan.specs.declared.outcome.QueryErr.TheVariants.{Pool, SinkFault, SourceFault}
use Rattle.reservation_tree.specs.declared.errors.PoolErr.TheVariants.{Memory}
use Rattle.spill_top.specs.declared.ending.Ending.{Ending}
use Rattle.spill_top.specs.declared.ending.Ending.TheVariants.{Lines, Reservation, Stopped}
use Rattle.spill_top.specs.Pooled.{ComeBack, HaveFailed, IsSharedStop, MaySpendNames, all_tell}
use Rattle.spill_top.specs.Sides.{RoseOn, bytes_on, faults_on, if_told, told_of}

-- inputs and outputs at a time, by name: the bytes of files, and the faults of reading; what was written, which names were created, and the faults of writing.
-- And what the slots count together
pub record Seen : Type 0 where
  pub files : List ℕ → Option (List ℕ)
  pub reads : List ℕ → ℕ
  pub written : List ℕ → Option Written
  pub created : List ℕ → Bool
  pub writes : List ℕ → ℕ
  pub slots : Tally

abbrev pub seen : (List ℕ → Option (List ℕ)) → (List ℕ → ℕ) → (List ℕ → Option Written) → (List ℕ → Bool) → (List ℕ → ℕ) → Tally → Seen
seen files reads written created writes slots = record { files = files; reads = reads; written = written; created = created; writes = writes; slots = slots }

-- the bytes of both inputs of a query, where they are told and all slots tell what they hold
abbrev pub told_over : Query → Seen → Option Told
told_over query start = if_told (all_tell start.slots) (told_of query start.files)

-- the files stayed, no count fell, what was created stays so, and all slots are there again
pub record Went (old new : Seen) : Type 0 where
  pub files : AllStay old.files new.files
  pub reads : NoneFell old.reads new.reads
  pub created : StaysCreated old.created new.created
  pub writes : NoneFell old.writes new.writes
  pub slots : ComeBack old.slots new.slots

-- and every output but this one stayed
pub record WentAt (name : List ℕ) (old new : Seen) : Type 0 where
  pub went : Went old new
  pub others : OthersStay name old.written new.written

-- the bytes of an input, where they are told, are refused for this; before a right one is, the left one was accepted
abbrev pub IsRefusedOn : Query → ℕ → (Side → Option (List ℕ)) → QueryErr → Side → Type 0
IsRefusedOn plan page bytes why Left = IfSome (bytes Left) (λ left. IsRefusal plan page left why)
IsRefusedOn plan page bytes why Right =
    IfSome (bytes Left) (IsAccepted plan page) × IsSomeAnd plan.right (λ asked. IfSome (bytes Right) (λ right. IsRefusalIn plan Right asked page right why))

-- one of these queries has so many rows that no name of a page may be left to any
abbrev pub SomeSpends : List Query → Seen → Type 0
SomeSpends all start = (place : ℕ) × (query : Query) × (slice_get all place ≡ Some query) × MaySpendNames query (told_over query start)

-- what a query meets: how long its pages are; the bytes of each input, where they are told, and those that an answer is over; whether
-- reading an input, writing its output or a slot failed, and the names of pages may be spent; and how its least reservation was
-- refused, if it was
pub record Met : Type 1 where
  pub page : ℕ
  pub bytes : Side → Option (List ℕ)
  pub told : Option Told
  pub read_failed : Side → Type 0
  pub write_failed : Type 0
  pub slots_failed : Type 0
  pub names : Type 0
  pub refused : Option Ending

-- the same of one of these queries since a time, where reading and writing failed so
abbrev pub met_with : (Side → Type 0) → Type 0 → Seen → Seen → ℕ → List Query → Option Ending → Query → Met
met_with read_failed write_failed start now block_len all refused query = record {
  page = page_len query block_len;
  bytes = bytes_on query start.files;
  told = told_over query start;
  read_failed = read_failed;
  write_failed = write_failed;
  slots_failed = HaveFailed start.slots now.slots;
  names = SomeSpends all start;
  refused = refused;
}

-- and where a fault of them was counted if one failed
abbrev pub met_by : Seen → Seen → ℕ → List Query → Option Ending → Query → Met
met_by start now block_len all refused query =
    met_with (RoseOn (faults_on query start.reads) (faults_on query now.reads)) (Rose (start.writes query.output) (now.writes query.output))
    start now block_len all refused query

-- why a query stopped over a pool that it shares: the bytes of the input that the cause names are refused for this; reading that input, or writing, has
-- failed; or the pool stopped it, whose pages may take as many slots as its quota
pub record IsStopped (plan : Query) (met : Met) (why : QueryErr) : Type 0 where
  pub refused : IsOfBytes why → IsSomeAnd (side_of why) (IsRefusedOn plan met.page met.bytes why)
  pub source_fault : (side : Side) → why ≡ SourceFault side → met.read_failed side
  pub sink_fault : why ≡ SinkFault → met.write_failed
  pub pool : OfPool (IsSharedStop plan met.page met.told plan.quota met.slots_failed met.names) why

-- an answer over these bytes has so many lines behind its first one
pub record HasLines (plan : Query) (page lines : ℕ) (told : Told) : Type 0 where
  pub text : List ℕ
  pub answer : IsAnswer plan page told text
  pub many : lines ≡ length answer.out

-- how a query ended is so, where an answer is over the bytes that are told: its least reservation was refused for exactly this, if it was
abbrev pub IsEnding : Query → Met → Ending → Type 0
IsEnding plan met (Lines lines) = (met.refused ≡ None) × IfSome met.told (HasLines plan met.page lines)
IsEnding plan met (Reservation root wanted room) = met.refused ≡ Some (Reservation root wanted room)
IsEnding plan met (Stopped why) = (met.refused ≡ None) × IsStopped plan met why

-- an answer over these bytes, or a front of it, or nothing
abbrev pub IsPart : Query → ℕ → Told → List ℕ → Type 0
IsPart plan page told text = (text ≡ []) ⊎ ((whole : List ℕ) × (rest : List ℕ) × IsAnswer plan page told whole × (text ++ rest ≡ whole))

-- an output holds a text, and whether it was said to be whole
abbrev pub Holds : Option Written → Bool → (List ℕ → Type 0) → Type 0
Holds written whole IsText = (text : List ℕ) × (written ≡ Some (record { bytes = text; whole = whole })) × IsText text

-- the same where a query stopped: nothing where an input was at fault
abbrev pub HoldsPart : Query → ℕ → Option Told → Option Written → Option Side → Type 0
HoldsPart plan page told written (Some side) = Holds written false (λ text. text ≡ [])
HoldsPart plan page told written None = IfSome told (λ both. Holds written false (IsPart plan page both))

-- an output that was created and given back is so: it holds the answer where the query ended with one
abbrev pub HasOutput : Query → ℕ → Option Told → Option Written → Option Written → Ending → Type 0
HasOutput plan page told None written ending = ⊤
HasOutput plan page told (Some before) written (Lines lines) = IfSome told (λ both. Holds written true (IsAnswer plan page both))
HasOutput plan page told (Some before) written (Reservation root wanted room) = ⊥
HasOutput plan page told (Some before) written (Stopped why) = HoldsPart plan page told written (side_of why)

-- nothing was done to the output of a query that could not begin
abbrev pub HasNoOutput : Ending → Type 0
HasNoOutput (Lines lines) = ⊥
HasNoOutput (Reservation root wanted room) = ⊤
HasNoOutput (Stopped why) = why ≡ SinkFault

-- nothing stands in the way of an answer: the least reservation was not refused; the bytes of the inputs are told, and accepted; the
-- quota has the slots of the pages that the query needs; no query spends all names of pages; no fault was counted
pub record IsClear (plan : Query) (met : Met) : Type 0 where
  pub reserved : met.refused ≡ None
  pub both : Told
  pub told_is : met.told ≡ Some both
  pub accepted : AreAccepted plan met.page both
  pub enough : need plan met.page both * plan.page_blocks ≤ plan.quota
  pub few : met.names → ⊥
  pub read : (side : Side) → met.read_failed side → ⊥
  pub written : met.write_failed → ⊥
  pub stored : met.slots_failed → ⊥

-- the query ended with an answer, or for want of memory
abbrev pub IsComplete : Ending → Type 0
IsComplete (Lines lines) = ⊤
IsComplete (Reservation root wanted room) = ⊥
IsComplete (Stopped why) = why ≡ Pool Memory

-- what became of one of these queries, and of its output
pub record HasEnded (start now : Seen) (block_len : ℕ) (all : List Query) (refused : Option Ending) (query : Query) (ending : Ending) : Type 0 where
  pub so : IsEnding query (met_by start now block_len all refused query) ending
  pub completes : IsClear query (met_by start now block_len all refused query) → IsComplete ending
  pub output : (HasNoOutput ending × (now.written query.output ≡ start.written query.output))
      ⊎ HasOutput query (page_len query block_len) (told_over query start) (start.written query.output) (now.written query.output) ending

-- of each query, in the order of the plan
abbrev pub HaveEnded : Seen → Seen → ℕ → List (Option Ending) → List Query → List Ending → Type 0
HaveEnded start now block_len refused queries ends =
    (place : ℕ) (query : Query) (ending : Ending) → slice_get queries place ≡ Some query → slice_get ends place ≡ Some ending
    → HasEnded start now block_len queries (option_flatten (slice_get refused place)) query ending

-- no two queries have one output
abbrev pub AreApart : List Query → Type 0
AreApart queries = (i j : ℕ) (a b : Query) → slice_get queries i ≡ Some a → slice_get queries j ≡ Some b → a.output ≡ b.output → i ≡ j
