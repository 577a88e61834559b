-- What a writer does in one try, and until it is told to end.
use Rattle.std.specs.Prelude.{◌≡◌, ℕ, Bool, true, false}
use Rattle.outside.specs.declared.slot.Slot.{Ghosts}
use Rattle.pool_model.specs.State.{Opening}
use Rattle.pin_core.specs.declared.jobs.WriteJob.{WriteJob}
use Rattle.pin_core.specs.declared.tally.Tally.{Tally}
use Rattle.session_calls.specs.Flying.{HasRun}
use Rattle.pool.specs.declared.writer.WriterTurn.TheVariants as turn
use Rattle.pool.specs.Items.{is_stopped}
use Rattle.pool.specs.Sitting.{Sitting}
use Rattle.pool.specs.Writers.{BringsBack, TakesTurn}
use Rattle.write_behind.specs.declared.tried.Tried.{Tried}
use Rattle.write_behind.specs.declared.tried.Tried.TheVariants.{Done, Failed, Nothing, Closed}

module _ {D : Type 0} (slot : Ghosts D) (o : Opening) (told : Bool) (first : Tally) (old new : Sitting) where
  -- the page of this name went out in the writer's turn, its blocks were stored, or a store failed, and it came back
  pub record Stores (page : ℕ) (failed : Bool) : Type 0 where
    pub mid : Sitting
    pub job : WriteJob D
    pub ran : WriteJob D
    pub turn : TakesTurn slot o told first old mid (turn.Write job)
    pub run : HasRun slot job ran
    pub back : BringsBack slot o told first ran mid new
    pub page_is : ran.id.name ≡ page
    pub failed_is : ran.failed ≡ failed

  -- exactly where its turn found that writers have to end, `Closed`; exactly where it found that no page is dirty, `Nothing`
  abbrev pub Tries : Tried → Type 0
  Tries (Done page) = Stores page false
  Tries (Failed page) = Stores page true
  Tries Nothing = TakesTurn slot o told first old new turn.Nothing
  Tries Closed = TakesTurn slot o told first old new turn.Stopped

-- the writer is told to end: it has its number still, sits where it did, and has seen that
pub record Runs (old new : Sitting) : Type 0 where
  pub number : new.number ≡ old.number
  pub table : new.spot.table ≡ old.spot.table
  pub stopped : is_stopped new.spot.knows.seen ≡ true
