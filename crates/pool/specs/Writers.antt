-- How writers come and go, take their turns, and are told to end.
use Rattle.std.specs.Prelude.{◌≡◌, ◌≢◌, ℕ, ◌+◌, List, [], ◌∷◌, ◌++◌, Bool, true, false}
use Rattle.outside.specs.declared.slot.Slot.{Ghosts}
use Rattle.pool_model.specs.Makers.{IsWriter}
use Rattle.pool_model.specs.declared.event.Event.TheVariants.{StartWrite}
use Rattle.pool_model.specs.LookingBack.{content_from}
use Rattle.pool_model.specs.ScratchRows.{MayStartWrite}
use Rattle.pool_model.specs.State.{Opening, dirty_of, page_at}
use Rattle.pin_core.specs.declared.jobs.WriteJob.{WriteJob}
use Rattle.pin_core.specs.declared.tally.Tally.{Tally}
use Rattle.pin_core.specs.StateOf.{state_of}
use Rattle.pin_core.specs.Tallies.{tally_of}
use Rattle.turn_table.specs.Face.{Spot}
use Rattle.turn_table.specs.Knowledge.{GrewBeside, IsIdle}
use Rattle.turn_table.specs.Lists.{times}
use Rattle.session_calls.specs.declared.count.Count.TheVariants as count
use Rattle.session_calls.specs.declared.hand.Hand.{Hand}
use Rattle.session_calls.specs.Flying.{IsOut, Sends, end_of, place_of}
use Rattle.pool.specs.declared.item.Item.{Item}
use Rattle.pool.specs.declared.item.Item.TheVariants.{Made, Went, Stop}
use Rattle.pool.specs.declared.writer.WriterTurn.{WriterTurn}
use Rattle.pool.specs.declared.writer.WriterTurn.TheVariants.{Stopped, Nothing, Write}
use Rattle.pool.specs.Items.{history, is_stopped, needs_of, sight_in}
use Rattle.pool.specs.Passing.{writers_out}
use Rattle.pool.specs.Seating.{state_in}
use Rattle.pool.specs.Seats.{live_in, taken_in}
use Rattle.pool.specs.Sitting.{Sitting}

-- a writer between two turns, which has the right of its number
pub record IsAtRest (w : Sitting) : Type 0 where
  pub number : IsWriter w.number
  pub idle : IsIdle w.spot.knows
  pub right : w.spot.knows.rights ≡ w.number ∷ []

-- while the pass was busy with something else no session came or went, and it kept as many writers out
pub record KeepsSeats (old new : Spot Item) : Type 0 where
  pub table : new.table ≡ old.table
  pub taken : taken_in new.knows.seen ≡ taken_in old.knows.seen
  pub count : live_in new.knows.seen ≡ live_in old.knows.seen

-- the pass lent its number to a writer, which has seen what it has
pub record Lends (who : ℕ) (old new : Spot Item) (w : Sitting) : Type 0 where
  pub number : w.number ≡ who
  pub table : w.spot.table ≡ old.table
  pub seen : w.spot.knows.seen ≡ new.knows.seen
  pub same : new.knows.seen ≡ old.knows.seen
  pub keeps : KeepsSeats old new
  pub others : (k : ℕ) → k ≢ who → times k new.knows.rights ≡ times k old.knows.rights
  pub writers : writers_out new ≡ writers_out old + 1

-- the pass got it back: what both had seen came together
pub record TakesBack (w : Sitting) (old new : Spot Item) : Type 0 where
  pub grew : GrewBeside needs_of old.knows.rights old.knows.seen new.knows.seen
  pub own : GrewBeside needs_of w.spot.knows.rights w.spot.knows.seen new.knows.seen
  pub keeps : KeepsSeats old new
  pub writers : writers_out new + 1 ≡ writers_out old

-- the pass had its turn, and told the writers to end
pub record Stops (old new : Spot Item) : Type 0 where
  pub entered : List Item
  pub grew : GrewBeside needs_of old.knows.rights old.knows.seen entered
  pub items : new.knows.seen ≡ entered ++ Stop ∷ []
  pub keeps : KeepsSeats old new
  pub writers : writers_out new ≡ writers_out old

module _ {D : Type 0} (slot : Ghosts D) (o : Opening) (told : Bool) where
  -- what is found with the value in hand, where writers have to end or not
  abbrev pub IsFound : Bool → Hand D → Hand D → WriterTurn D → Type 0
  IsFound stopped old new Stopped = (stopped ≡ true) × (new ≡ old)
  IsFound stopped old new Nothing = (stopped ≡ false) × (new ≡ old) × ((c : ℕ) → dirty_of (state_of old.state) c ≡ [])
  IsFound stopped old new (Write job) = (stopped ≡ false) × Sends slot o told old new job

module _ {D : Type 0} (slot : Ghosts D) (o : Opening) (told : Bool) (first : Tally) where
  -- what a writer enters whose page goes out
  abbrev pub sending_items : ℕ → WriteJob D → List Item
  sending_items m job = Made (record { maker = m; event = StartWrite job.id.name }) ∷ Went m (count.Out job.id.name (tally_of slot job.row)) ∷ []

  -- what a writer's turn found, where these items were entered before it: exactly where writers have to end, that they have to; else exactly
  -- where no page is dirty, that none is; else a page that may go out, the newest dirty one of its client, which goes out
  abbrev pub Finds : ℕ → List Item → List Item → WriterTurn D → Type 0
  Finds m entered after Stopped = (is_stopped entered ≡ true) × (after ≡ entered)
  Finds m entered after Nothing = (is_stopped entered ≡ false) × (after ≡ entered) × ((c : ℕ) → dirty_of (state_in o entered) c ≡ [])
  Finds m entered after (Write job) = (is_stopped entered ≡ false) × (after ≡ entered ++ sending_items m job) × MayStartWrite (state_in o entered) m job.id.name × IsOut slot o told m (sight_in first after) job

  -- a writer took its turn
  pub record TakesTurn (old new : Sitting) (turn : WriterTurn D) : Type 0 where
    pub number : new.number ≡ old.number
    pub table : new.spot.table ≡ old.spot.table
    pub entered : List Item
    pub grew : GrewBeside needs_of old.spot.knows.rights old.spot.knows.seen entered
    pub finds : Finds old.number entered new.spot.knows.seen turn

  -- the page of this job, which the writer's last turn sent out and which was run since, came back: clean, or dirty with its bytes where
  -- a store failed
  pub record BringsBack (job : WriteJob D) (old new : Sitting) : Type 0 where
    pub number : new.number ≡ old.number
    pub table : new.spot.table ≡ old.spot.table
    pub entered : List Item
    pub grew : GrewBeside needs_of old.spot.knows.rights old.spot.knows.seen entered
    pub items : new.spot.knows.seen ≡ entered ++ Made (record { maker = old.number; event = end_of slot (sight_in first entered) job }) ∷ []
    pub place : (page_at (state_in o new.spot.knows.seen) job.id.name).place ≡ place_of job.failed
    pub content : job.buf.bytes ≡ content_from job.id.name [] (history new.spot.knows.seen)
