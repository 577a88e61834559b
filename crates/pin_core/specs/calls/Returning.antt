-- Jobs come back, and refusals are entered: entries for which the parts stand where the caller knows something
-- of the history.
use Rattle.std.specs.Prelude.{ℕ, ◌≡◌, ◌+◌, ◌++◌, ◌∷◌, [], List, Bool, true, false, Option, Some, None}
use Rattle.std.specs.Option.{is_some}
use Rattle.std.specs.List.{sum_by}
use Rattle.outside.specs.declared.slot.Slot.{Ghosts}
use Rattle.pool_model.specs.declared.entry.Entry.{Entry as Event}
use Rattle.pool_model.specs.declared.event.Event.{Event as What}
use Rattle.pool_model.specs.declared.event.Event.TheVariants as event
use Rattle.pool_model.specs.State.{Opening, State, page_at}
use Rattle.pool_model.specs.Effects.{after}
use Rattle.pool_model.specs.LookingBack.{content_of}
use Rattle.pin_core.specs.declared.finish.Wrote.{Wrote}
use Rattle.pin_core.specs.declared.finish.Wrote.TheVariants.{Done, Failed}
use Rattle.reservation_tree.specs.declared.errors.PoolErr.{PoolErr}
use Rattle.reservation_tree.specs.declared.errors.PoolErr.TheVariants as refusal
use Rattle.pin_core.specs.declared.jobs.ReadJob.{ReadJob}
use Rattle.pin_core.specs.declared.jobs.Stale.{Stale}
use Rattle.pin_core.specs.declared.jobs.WriteJob.{WriteJob}
use Rattle.pin_core.specs.declared.parts.Parts.{Parts}
use Rattle.pin_core.specs.StateOf.{state_of}
use Rattle.pin_core.specs.Standing.{StandsFor, AreHeld, slots_home}

-- a call entered this: the parts stand for each history for which they stood, where this is known of it,
-- followed by the entry; the slots of `come` came back, and all others are as they were
pub record EntersWhere {D : Type 0} (slot : Ghosts D) (known : Opening → List Event → Type 0) (e : Event) (come : List D) (old new : Parts D) : Type 0 where
  pub state : state_of new ≡ after (state_of old) e
  pub stands : (o : Opening) (h : List Event) → StandsFor slot o h old → known o h → StandsFor slot o (h ++ e ∷ []) new
  pub slots : (measure : D → ℕ) → slots_home measure new ≡ slots_home measure old + sum_by measure come

-- how a write of a page ended, with the sums of faults before and after where it failed
abbrev pub write_ends : Bool → ℕ → ℕ → ℕ → What
write_ends true name before now = event.WriteFailed name before now
write_ends false name before now = event.WriteOk name

-- how a read of a page ended: with a failure, with another mark, or well
abbrev pub read_ends : Bool → Option Stale → ℕ → ℕ → ℕ → What
read_ends true stale name before now = event.ReadFailed name before now
read_ends false (Some stale) name before now = event.ReadStale name stale.wanted stale.found
read_ends false None name before now = event.ReadOk name

-- how many loads gave another mark where a read ended so
abbrev pub stale_loads : Bool → Option Stale → ℕ
stale_loads true stale = 0
stale_loads false None = 0
stale_loads false (Some stale) = 1

-- whether a read ended badly
abbrev pub ended_badly : Bool → Option Stale → Bool
ended_badly true stale = true
ended_badly false stale = is_some stale

-- why, where the failure has this number
abbrev pub read_refusal : Bool → Option Stale → ℕ → PoolErr
read_refusal true stale entry = refusal.ReadFault entry
read_refusal false (Some stale) entry = refusal.Stale stale.wanted stale.found
read_refusal false None entry = refusal.ReadFault entry

abbrev pub wrote : Bool → ℕ → Wrote
wrote true name = Failed name
wrote false name = Done name

module _ {D : Type 0} where
  abbrev pub write_entry : WriteJob D → ℕ → ℕ → Event
  write_entry job before now = record { maker = job.who; event = write_ends job.failed job.id.name before now }

  abbrev pub read_entry : State → ReadJob D → ℕ → ℕ → Event
  read_entry s job before now = record { maker = (page_at s job.id.name).session; event = read_ends job.failed job.stale job.id.name before now }

  -- the buffer has the page's content, and, where no store failed, the slots hold it
  pub record IsWritten (slot : Ghosts D) (len : ℕ) (job : WriteJob D) (o : Opening) (h : List Event) : Type 0 where
    pub content : job.buf.bytes ≡ content_of o h job.id.name
    pub held : job.failed ≡ false → AreHeld slot job.under job.id.name len job.row job.buf.bytes

  -- the slots hold the page's content
  abbrev pub IsRead : Ghosts D → ℕ → ReadJob D → Opening → List Event → Type 0
  IsRead slot len job o h = AreHeld slot job.under job.id.name len job.row (content_of o h job.id.name)
