-- A page is written by a writer, whichever session it is of.
use Rattle.std.specs.Prelude.{◌≡◌, ◌≤◌, ℕ, [], ◌∷◌, ◌++◌, Bool, true, false, if◌then◌else◌, length, map}
use Rattle.std.specs.List.{sum_by}
use Rattle.outside.specs.declared.slot.Slot.{Ghosts}
use Rattle.scratch_dev.specs.Rows.{faults_of, CountsStores}
use Rattle.pool_model.specs.declared.event.Event.{Event}
use Rattle.pool_model.specs.declared.event.Event.TheVariants.{StartWrite}
use Rattle.pool_model.specs.ScratchRows.{IsFault}
use Rattle.pool_model.specs.State.{Opening, Place, Dirty, Clean, page_at}
use Rattle.pool_model.specs.Legal.{state_after}
use Rattle.pool_model.specs.LookingBack.{content_from}
use Rattle.store_api.specs.Entries.{by}
use Rattle.pin_core.specs.declared.jobs.WriteJob.{WriteJob}
use Rattle.pin_core.specs.StateOf.{state_of}
use Rattle.pin_core.specs.Standing.{AreHeld}
use Rattle.pin_core.specs.calls.Runs.{is_sure, CountsFaults, CountsStrays, after_stores}
use Rattle.pin_core.specs.calls.Jobs.{IsWriteJob}
use Rattle.pin_core.specs.calls.Returning.{write_ends}
use Rattle.pin_core.specs.Tallies.{silence, tally_of}
use Rattle.session_calls.specs.declared.hand.Hand.{Hand}
use Rattle.session_calls.specs.declared.count.Count.TheVariants.{Out}
use Rattle.session_calls.specs.Moving.{quota_at}
use Rattle.session_calls.specs.Outgoing.{no_tally, pages_counted, pages_out, tally_or}
use Rattle.session_calls.specs.Ready.{StandsWhole}
use Rattle.session_calls.specs.Having.{Sight, sight_of}

-- where a page is whose write failed, or didn't
abbrev pub place_of : Bool → Place
place_of true = Dirty
place_of false = Clean

module _ {D : Type 0} (slot : Ghosts D) where
  -- the job was run: its slots hold the bytes unless a store failed, and counted what they did
  pub record HasRun (old new : WriteJob D) : Type 0 where
    pub rest : new ≡ after_stores new.row new.failed old
    pub len : length new.row ≡ length old.row
    pub held : new.failed ≡ false → AreHeld slot old.under old.id.name old.buf.block_len new.row old.buf.bytes
    pub tells : map (is_sure slot) new.row ≡ map (is_sure slot) old.row
    pub stores : CountsStores slot (if new.failed then 0 else length old.row) old.row new.row
    pub strayed : CountsStrays slot 0 old.row new.row
    pub faults : CountsFaults slot (if new.failed then 1 else 0) old.row new.row
    pub never_falls : faults_of slot old.row ≤ faults_of slot new.row
    pub failed : new.failed ≡ true → IsFault (faults_of slot old.row) (faults_of slot new.row)

  -- how the write of this job ended, with the sums of faults that its slots counted when they went out and now
  abbrev pub end_of : Sight → WriteJob D → Event
  end_of sight job = write_ends job.failed job.id.name (tally_or no_tally job.id.name sight.counts).faults (faults_of slot job.row)

  module _ (o : Opening) (told : Bool) where
    -- by what was seen of the pool this maker writes the job's page, with what was left there last; the slots count what they
    -- did when they went out, each time of which is noted, and tell, where that is said
    pub record IsOut (m : ℕ) (sight : Sight) (job : WriteJob D) : Type 0 where
      pub is : IsWriteJob (state_after o sight.trail) job
      pub by : job.who ≡ m
      pub content : job.buf.bytes ≡ content_from job.id.name [] sight.trail
      pub noted : pages_counted sight.counts ≡ pages_out sight.trail
      pub counts : tally_or no_tally job.id.name sight.counts ≡ tally_of slot job.row
      pub tell : told ≡ true → sum_by (silence slot) job.row ≡ 0

    -- and it was run since
    pub record IsBack (m : ℕ) (sight : Sight) (job : WriteJob D) : Type 0 where
      pub was : WriteJob D
      pub out : IsOut m sight was
      pub ran : HasRun was job

    -- a page goes out to be written by the maker that has the value in hand, which enters nothing else
    pub record Sends (old new : Hand D) (job : WriteJob D) : Type 0 where
      pub session : new.session ≡ old.session
      pub trail : new.trail ≡ old.trail ++ by old.session (StartWrite job.id.name ∷ [])
      pub counts : new.counts ≡ old.counts ++ Out job.id.name (tally_of slot job.row) ∷ []
      pub quotas : (k : ℕ) → quota_at (state_of new.state) k ≡ quota_at (state_of old.state) k
      pub whole : StandsWhole slot o told new.trail new.counts new.state
      pub out : IsOut old.session (sight_of new) job

    -- a page comes back to the maker that has the value in hand, with its bytes, and nothing else is entered
    pub record Returns (job : WriteJob D) (old new : Hand D) : Type 0 where
      pub session : new.session ≡ old.session
      pub trail : new.trail ≡ old.trail ++ by old.session (end_of (sight_of old) job ∷ [])
      pub counts : new.counts ≡ old.counts
      pub quotas : (k : ℕ) → quota_at (state_of new.state) k ≡ quota_at (state_of old.state) k
      pub whole : StandsWhole slot o told new.trail new.counts new.state
      pub place : (page_at (state_of new.state) job.id.name).place ≡ place_of job.failed
      pub content : job.buf.bytes ≡ content_from job.id.name [] new.trail
