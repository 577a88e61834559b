-- What a query leaves of its store, and what the store may have stopped it with.
use Rattle.std.specs.Prelude.{◌≡◌, ◌*◌, ℕ, ◌≤◌, ◌⊎◌, true, List, Option, IfSome, replicate}
use Rattle.reservation_tree.specs.declared.errors.PoolErr.{PoolErr}
use Rattle.outside.specs.Counts.{Rose}
use Rattle.store_api.specs.Holdings.{Holdings}
use Rattle.store_api.specs.Signs.{Signs, Grows, WasAnswered}
use Rattle.tuple_stream.specs.Trails.{EnteredEvents}
pub use Rattle.partition_stack.specs.Making.{MakesFew}
pub use Rattle.partition_stack.specs.Slots.{IsRest, IsWant, IsWantBelow}
use Rattle.query_plan.specs.declared.plan.Query.{Query}
use Rattle.query_plan.specs.Sizes.{least_of, operators, page_len}
use Rattle.query_run.specs.Both.{Told}
use Rattle.query_run.specs.Causes.{OfPool}
use Rattle.query_run.specs.Through.{need, rows_through}
use Rattle.query_run.specs.Trail.{ReservesFirst}
use Rattle.query_plan.specs.declared.outcome.QueryErr.{QueryErr}

-- a store over which a plan may run: no client is live, and there is room for the least reservation
pub record HasRoomFor (plan : Query) (h : Holdings) : Type 0 where
  pub idle : h.live_clients ≡ 0
  pub room : least_of plan h.block_len ≤ h.room

-- no client is live, the query has at least the room and the reservation that it had, and its limit and whether pins are
-- told are as they were
pub record IsLeft (old new : Holdings) : Type 0 where
  pub live_clients : new.live_clients ≡ 0
  pub room : old.room ≤ new.room
  pub reservation : old.reservation ≤ new.reservation
  pub limit : new.limit ≡ old.limit
  pub query : new.query ≡ old.query
  pub session : new.session ≡ old.session
  pub block_len : new.block_len ≡ old.block_len
  pub told : new.told ≡ old.told

-- what each operator of a query reserves at first
abbrev pub amounts_of : Query → ℕ → List ℕ
amounts_of plan block_len = replicate (operators plan) (20 * page_len plan block_len)

-- what became of a store over which a plan ran: a client for each operator came first, and reserved its share of the least
-- reservation, nothing of them is left, as many slots are free as before, and what the store shows only grew. Where pins and the
-- bytes of the inputs are told, it made at most sixteen pages for each row that an operator took
pub record RanOver (plan : Query) (told : Option Told) (old new : Holdings) (before after : Signs) : Type 0 where
  pub reserves : EnteredEvents (ReservesFirst old.query (amounts_of plan old.block_len)) before.trail after.trail
  pub left : IsLeft old new
  pub free : new.free_slots ≡ old.free_slots
  pub grows : Grows before after
  pub made : old.told ≡ true → IfSome told (λ both. MakesFew (16 * rows_through plan both) before after)

-- the store gave this answer; `total` slots were free, and with them those of the pages that were there, where there is a
-- quota
pub record StoppedBy (blocks : ℕ) (total : Option ℕ) (old new : Signs) (e : PoolErr) : Type 0 where
  pub answered : WasAnswered e old new
  pub want : IsWant blocks total e

-- where it is an answer of the store, it gave it
abbrev pub StoppedOver : ℕ → Option ℕ → Signs → Signs → QueryErr → Type 0
StoppedOver blocks total old new e = OfPool (StoppedBy blocks total old new) e

-- the store over which the plan runs gave this answer; want of slots tells the blocks of a page and what is left of the slots that were
-- free at the start, and where pins and the bytes of the inputs are told, these were fewer than the pages that the query needs have
pub record StoppedQuery (plan : Query) (told : Option Told) (start : Holdings) (old new : Signs) (e : PoolErr) : Type 0 where
  pub answered : WasAnswered e old new
  pub want : IsWant plan.page_blocks start.free_slots e
  pub enough : start.told ≡ true → IfSome told (λ both. IsWantBelow (need plan (page_len plan start.block_len) both * plan.page_blocks) start.free_slots e)

abbrev pub MayStop : Query → Option Told → Holdings → Signs → Signs → QueryErr → Type 0
MayStop plan told start old new e = OfPool (StoppedQuery plan told start old new) e

-- a count of a sink's faults over a call: it rose where the call failed of it, stayed else, and didn't fall
pub record CountsSink (failed : Type 0) (before now : ℕ) : Type 0 where
  pub fault : failed → Rose before now
  pub quiet : failed ⊎ (now ≡ before)
  pub kept : before ≤ now
