-- The queries of a plan over the sessions of one pool. About private fields.
use Rattle.std.specs.Prelude.{◌≡◌, ◌==◌, ◌*◌, ◌<◌, ◌≤◌, ◌++◌, ℕ, Bool, true, List, [], ◌∷◌, Option, Some, None, IfSome, Result, Ok, Err, IsSome, eqb, filter, length, slice_get, ⊤}
use Rattle.std.specs.List.{AllByRecursion, IsDistinct}
use Rattle.std.specs.Option.{option_map}
use Rattle.outside.specs.Told.{GivesBytes}
use Rattle.reservation_tree.specs.declared.errors.PoolErr.{PoolErr}
use Rattle.reservation_tree.specs.declared.errors.PoolErr.TheVariants.{NoReservation}
use Rattle.pool_model.specs.LookingBack.{is_by, names_in}
use Rattle.pool_model.specs.State.{Opening}
use Rattle.pool_model.specs.declared.entry.Entry.{Entry}
use Rattle.store_api.specs.Holdings.{Holdings}
use Rattle.store_api.specs.Signs.{Signs}
use Rattle.pin_core.specs.declared.tally.Tally.{Tally}
use Rattle.turn_table.specs.Face.{Spot}
use Rattle.turn_table.specs.Lists.{times}
use Rattle.pool.specs.declared.ask.Ask.{Ask}
use Rattle.pool.specs.declared.item.Item.{Item}
use Rattle.pool.specs.Items.{history, own_in}
use Rattle.pool.specs.Passing.{IsPass}
use Rattle.pool.specs.Seating.{Ends, HasBegun, beginning_items}
use Rattle.pool.specs.Sitting.{Sits, Sitting, held_by, signs_by}
use Rattle.pool.specs.Standing.{IsMarked}
use Rattle.session_shares.specs.Shares.{AreAmong}
use Rattle.query_plan.specs.Rules.{KeepsQuery}
use Rattle.query_plan.specs.Sizes.{least_of, page_len}
use Rattle.query_plan.specs.declared.plan.Query.{Query}
use Rattle.query_plan.specs.declared.plan.Side.TheVariants.{Left, Right}
use Rattle.query_run.specs.Both.{Told, both_told, told_in}
use Rattle.query_run.specs.Causes.{OfPool}
use Rattle.query_run.specs.Stopped.{HasRoomFor, MakesFew, RanOver}
use Rattle.spill_top.specs.Unmarked.{MayStopUnmarked}
use Rattle.query_run.specs.Through.{rows_through}
use Rattle.query_run.specs.Trail.{KeptRows}
use Rattle.query_plan.specs.declared.outcome.QueryErr.{QueryErr}
use Rattle.query_plan.specs.declared.outcome.QueryErr.TheVariants as query
use Rattle.spill_top.specs.declared.ending.Ending.{Ending}
use Rattle.spill_top.specs.declared.ending.Ending.TheVariants.{Lines, Reservation, Stopped}
use Rattle.spill_top.specs.declared.job.Job.{Job}
use Rattle.spill_top.specs.Endings.{is_answer}
use Rattle.spill_top.specs.Jobs.{HasSides, IsWork, work_of}
use Rattle.spill_top.specs.Pooled.{ComeBack, HaveFailed, IsSharedStop, all_tell}
use Rattle.spill_top.specs.Running.{HaveEnded, Seen, SomeSpends}
use Rattle.spill_top.specs.Sides.{bytes_on, if_told, told_of}
use Rattle.spill_top.specs.Steps.{IsOpen, has_answer, with_slots}

-- ---- how sessions come

-- a query asks for one session, which has its least reservation
abbrev pub ask_of : ℕ → Query → Ask
ask_of block_len query = record { limit = query.limit; quota = query.quota; least = least_of query block_len; count = 1 }

-- one session came, or its reservation was refused
abbrev pub IsOneOrRefused : {St : Type 0} → Result (List St) PoolErr → Type 0
IsOneOrRefused (Ok sessions) = length sessions ≡ 1
IsOneOrRefused (Err (NoReservation tracker wanted room)) = ⊤
IsOneOrRefused (Err e) = ⊥

-- how a query ends whose session was refused: the root has the number 0
abbrev pub ending_of : PoolErr → Ending
ending_of (NoReservation tracker wanted room) = Reservation (tracker == 0) wanted room
ending_of e = Stopped (query.Pool e)

-- a query before anything is done for it, over the session that came; it has ended where none did
abbrev pub job_with : {S K St : Type 0} → Result (List St) PoolErr → Job S K St
job_with (Ok []) = record { refused = None; left = None; right = None; sink = None; ended = None; session = None }
job_with (Ok (session ∷ more)) = record { refused = None; left = None; right = None; sink = None; ended = None; session = Some session }
job_with (Err e) = record { refused = Some (ending_of e); left = None; right = None; sink = None; ended = Some (ending_of e); session = None }

-- a query over where its session sits
abbrev pub over_seat : {S K St : Type 0} → (St → Sitting) → Job S K St → Job S K Sitting
over_seat see job = record { refused = job.refused; left = job.left; right = job.right; sink = job.sink; ended = job.ended; session = option_map see job.session }

-- ---- what a query does over its store

-- what is known of a store over which one of these queries ran, once its pool has closed: it told what pins show, where all slots
-- tell what they hold, and what stopped the query is a stop of the pool
pub record StopsAs (start at : Seen) (block_len : ℕ) (all : List Query) (query : Query) (before : Holdings) (old new : Signs) : Type 0 where
  pub told : all_tell start.slots ≡ true → before.told ≡ true
  pub block_len_is : before.block_len ≡ block_len
  pub stop : (told : Option Told) (why : QueryErr) → MayStopUnmarked query told before old new why
      → OfPool (IsSharedStop query (page_len query block_len) (if_told (all_tell start.slots) told) query.quota (HaveFailed start.slots at.slots) (SomeSpends all start)) why

module _ {S K St : Type 0} (remaining : S → Option (List ℕ)) (reads : S → ℕ) (contents : K → Option (List ℕ)) (writes : K → ℕ) (holds : St → Holdings) (signs : St → Signs) where
  -- a query that goes on has its inputs, its output, and a store with room for it
  pub record CanRun (query : Query) (job : Job S K St) : Type 0 where
    pub rules : KeepsQuery query
    pub is_open : IsOpen (work_of remaining reads contents writes job)
    pub sides : HasSides query (work_of remaining reads contents writes job)
    pub store : job.ended ≡ None → (session : St) × (job.session ≡ Some session) × HasRoomFor query (holds session)

  -- it ran over its store: what the store showed, and what stands of the query, once it is known what its stops are
  pub record RanOn (query : Query) (old new : Job S K St) : Type 0 where
    pub session : St
    pub later : St
    pub before : old.session ≡ Some session
    pub after : new.session ≡ Some later
    pub over : RanOver query (both_told (told_in remaining old.left) (told_in remaining old.right)) (holds session) (holds later) (signs session) (signs later)
    pub kept : has_answer new.ended ≡ true
        → KeptRows query (page_len query (holds session).block_len) (told_in remaining old.left) (told_in remaining old.right) (signs session).trail (signs later).trail
    pub work : (start at : Seen) (block_len : ℕ) (all : List Query) → StopsAs start at block_len all query (holds session) (signs session) (signs later)
        → IsWork start at block_len all query (work_of remaining reads contents writes old) → IsWork start at block_len all query (work_of remaining reads contents writes new)

  -- it has ended: as before, or it ran
  pub record IsAnswered (query : Query) (old new : Job S K St) : Type 0 where
    pub refused : new.refused ≡ old.refused
    pub ended : IsSome new.ended
    pub stays : IsSome old.ended → new ≡ old
    pub ran : old.ended ≡ None → RanOn query old new

  -- the same of all queries
  abbrev pub AllCanRun : List Query → List (Job S K St) → Type 0
  AllCanRun queries jobs = (place : ℕ) (query : Query) (job : Job S K St) → slice_get queries place ≡ Some query → slice_get jobs place ≡ Some job → CanRun query job

  abbrev pub AreAnswered : List Query → List (Job S K St) → List (Job S K St) → Type 0
  AreAnswered queries before after =
      (place : ℕ) (query : Query) (old new : Job S K St) → slice_get queries place ≡ Some query → slice_get before place ≡ Some old → slice_get after place ≡ Some new → IsAnswered query old new

-- ---- how sessions go

-- a session ended that sat at the pass's lock, which then kept what a pass does
pub record EndsOne (o : Opening) (told : Bool) (s : Sitting) (old new : Spot Item) : Type 0 where
  pub ends : Ends o s old new
  pub sits : Sits o told s
  pub pass : (free : ℕ) × IsPass o.slots free new

-- sessions ended, the last one first
abbrev pub EndAll : Opening → Bool → List (Option Sitting) → Spot Item → Spot Item → Type 0
EndAll o told [] old new = new ≡ old
EndAll o told (None ∷ rest) old new = EndAll o told rest old new
EndAll o told (Some s ∷ rest) old new = (mid : Spot Item) × EndAll o told rest old mid × EndsOne o told s mid new

-- ---- what the pass has seen of them

-- a session as it came, and as it was when it ended
pub record Stay : Type 0 where
  pub first : Sitting
  pub last : Sitting

-- it came as its query asked, and ended: the pass has seen its entries, and has its number again
pub record Stayed (o : Opening) (told : Bool) (query : Query) (pass : Spot Item) (stay : Stay) : Type 0 where
  pub begun : HasBegun o.block_len told query.limit query.quota (least_of query o.block_len) (held_by o told stay.first)
  pub tracker : ℕ
  pub came : own_in stay.first.number stay.first.spot.knows.seen ≡ history (beginning_items stay.first.number tracker query.limit query.quota (least_of query o.block_len))
  pub low : stay.first.number < 240
  pub number : stay.last.number ≡ stay.first.number
  pub more : List Item
  pub seen : pass.knows.seen ≡ stay.last.spot.knows.seen ++ more
  pub went : List Entry
  pub own : own_in stay.first.number pass.knows.seen ≡ own_in stay.first.number stay.last.spot.knows.seen ++ went
  pub unnamed : names_in went ≡ []
  pub right : 0 < times stay.first.number pass.knows.rights

-- the numbers of sessions that came
abbrev pub numbers_of : List (Option Stay) → List ℕ
numbers_of [] = []
numbers_of (None ∷ stays) = numbers_of stays
numbers_of (Some stay ∷ stays) = stay.first.number ∷ numbers_of stays

-- these are all sessions of the pool, each with a number of its own; and where sessions come by no item but one that says so, a
-- session made all its pages since it came
pub record AreAllStays (pass : Spot Item) (stays : List (Option Stay)) : Type 0 where
  pub apart : IsDistinct eqb (numbers_of stays)
  pub among : AreAmong (numbers_of stays) (history pass.knows.seen)
  pub names : AllByRecursion IsMarked pass.knows.seen → (m : ℕ) → m < 240
      → length (names_in (filter (is_by m) (history pass.knows.seen))) ≤ length (names_in (own_in m pass.knows.seen))

-- what a query over these files that ended so showed of its session: how many pages it made at most, and what it laid on them for its answer
pub record Showed (o : Opening) (told : Bool) (files : List ℕ → Option (List ℕ)) (query : Query) (ending : Ending) (stay : Stay) : Type 0 where
  pub few : told ≡ true → IfSome (told_of query files) (λ both. MakesFew (16 * rows_through query both) (signs_by o stay.first) (signs_by o stay.last))
  pub kept : is_answer ending ≡ true → (lefts rights : Option (List ℕ)) × GivesBytes (bytes_on query files Left) lefts × GivesBytes (bytes_on query files Right) rights
      × KeptRows query (page_len query o.block_len) lefts rights (signs_by o stay.first).trail (signs_by o stay.last).trail

-- the queries of a plan ran over sessions of a pool that opened so, and all have ended; they have ended as is promised, once it is
-- known what the stops of their stores are
pub record RanTogether (o : Opening) (told : Bool) (refused : List (Option Ending)) (start now : Seen) (queries : List Query) (pass : Spot Item) (ends : List Ending) : Type 0 where
  pub stays : List (Option Stay)
  pub many : length stays ≡ length queries
  pub as_many : length ends ≡ length queries
  pub each : (place : ℕ) (query : Query) (stay : Stay) → slice_get queries place ≡ Some query → slice_get stays place ≡ Some (Some stay) → Stayed o told query pass stay
  pub all : AreAllStays pass stays
  pub seated : (place lines : ℕ) → slice_get ends place ≡ Some (Lines lines) → (stay : Stay) × (slice_get stays place ≡ Some (Some stay))
  pub showed : (place : ℕ) (query : Query) (ending : Ending) (stay : Stay) → slice_get queries place ≡ Some query → slice_get ends place ≡ Some ending → slice_get stays place ≡ Some (Some stay)
      → Showed o told start.files query ending stay
  pub ended : (last : Tally) → ComeBack start.slots last
      → ((place : ℕ) (query : Query) (stay : Stay) → slice_get queries place ≡ Some query → slice_get stays place ≡ Some (Some stay)
      → StopsAs start (with_slots last now) o.block_len queries query (held_by o told stay.first) (signs_by o stay.first) (signs_by o stay.last))
      → HaveEnded start (with_slots last now) o.block_len refused queries ends
