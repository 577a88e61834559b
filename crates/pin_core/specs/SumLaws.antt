-- The sums over a pool's slots hold after each call, while some of the slots are in jobs. Statements alone.
use Rattle.std.specs.Prelude.{◌≡◌, ℕ, ◌+◌, ◌≤◌, ◌++◌, ◌∷◌, [], if◌then◌else◌, List, true, length, map}
use Rattle.std.specs.List.{sum_by}
use Rattle.outside.specs.declared.slot.Slot.{Ghosts}
use Rattle.scratch_dev.specs.Rows.{faults_of, CountsStores}
use Rattle.pool_model.specs.declared.entry.Entry.{Entry as Event}
use Rattle.pool_model.specs.MayFollow.{MayFollow}
use Rattle.pool_model.specs.State.{Opening}
use Rattle.pin_core.specs.declared.jobs.ReadJob.{ReadJob}
use Rattle.pin_core.specs.declared.jobs.WriteJob.{WriteJob}
use Rattle.pin_core.specs.declared.parts.Parts.{Parts}
use Rattle.pin_core.specs.declared.tally.Tally.{Tally}
use Rattle.pin_core.specs.StateOf.{state_of}
use Rattle.pin_core.specs.Standing.{StandsFor, Enters, slots_home}
use Rattle.pin_core.specs.calls.Runs.{CountsFaults, CountsStrays, is_sure}
use Rattle.pin_core.specs.calls.Jobs.{IsWriteJob}
use Rattle.pin_core.specs.calls.Returning.{EntersWhere, IsRead, IsWritten, write_entry, read_entry, stale_loads}
use Rattle.pin_core.specs.Tallies.{Counted, SumsWithJobs, all_failures, all_stale, written_blocks, tally_of}
use Rattle.pin_core.specs.Plain.{ArePlain, is_plain}

module _ {D : Type 0} (slot : Ghosts D) where
  -- the slots `taken` are some of those in jobs, and these are the others
  abbrev pub IsRest : List D → List D → List D → Type 0
  IsRest taken out others = (measure : D → ℕ) → sum_by measure out ≡ sum_by measure taken + sum_by measure others

  -- a job was run: of its slots `before` it made the slots `now`, which counted so many failures and so many strays
  pub record WasRun (failures stale : ℕ) (before now : List D) : Type 0 where
    pub faults : CountsFaults slot failures before now
    pub strays : CountsStrays slot stale before now
    pub never_falls : faults_of slot before ≤ faults_of slot now
    pub tells : map (is_sure slot) now ≡ map (is_sure slot) before
    pub len : length now ≡ length before

  -- at the opening
  abbrev pub SumsBegin : Type 0
  SumsBegin = (o : Opening) (slots : List D) (v : Parts D) → StandsFor slot o [] v → ((measure : D → ℕ) → slots_home measure v ≡ sum_by measure slots) → SumsWithJobs slot (tally_of slot slots) o [] [] v

  -- after a call, some of whose slots may have gone into a job
  abbrev pub SumsStay : Type 0
  SumsStay = (first : Tally) (o : Opening) (h events : List Event) (gone out : List D) (old new : Parts D) → ArePlain events → Enters slot events gone [] old new
      → SumsWithJobs slot first o h out old → SumsWithJobs slot first o (h ++ events) (gone ++ out) new

  -- after a refusal
  abbrev pub SumsStayRefused : Type 0
  SumsStayRefused = (first : Tally) (o : Opening) (h : List Event) (e : Event) (out : List D) (old new : Parts D)
      → is_plain e.event ≡ true → EntersWhere slot (λ o h. MayFollow h (state_of old) e) e [] old new → MayFollow h (state_of old) e → SumsWithJobs slot first o h out old → SumsWithJobs slot first o (h ++ e ∷ []) out new

  -- after a write that was run
  abbrev pub SumsGrowWritten : Type 0
  SumsGrowWritten = (first : Tally) (o : Opening) (h : List Event) (out others taken : List D) (job : WriteJob D) (before now : ℕ) (old new : Parts D)
      → IsWriteJob (state_of old) job → IsRest taken out others → WasRun (if job.failed then 1 else 0) 0 taken job.row → CountsStores slot (if job.failed then 0 else length taken) taken job.row
      → EntersWhere slot (IsWritten slot (state_of old).block_len job) (write_entry job before now) job.row old new → IsWritten slot (state_of old).block_len job o h → SumsWithJobs slot first o h out old → SumsWithJobs slot first o (h ++ write_entry job before now ∷ []) others new

  -- after a read that was run
  abbrev pub SumsGrowRead : Type 0
  SumsGrowRead = (first : Tally) (o : Opening) (h : List Event) (out others taken : List D) (job : ReadJob D) (before now : ℕ) (old new : Parts D)
      → IsRest taken out others → WasRun (if job.failed then 1 else 0) (stale_loads job.failed job.stale) taken job.row → map slot.stores job.row ≡ map slot.stores taken
      → EntersWhere slot (IsRead slot (state_of old).block_len job) (read_entry (state_of old) job before now) job.row old new → IsRead slot (state_of old).block_len job o h → SumsWithJobs slot first o h out old → SumsWithJobs slot first o (h ++ read_entry (state_of old) job before now ∷ []) others new

  -- of the slots that come back once no job is out
  abbrev pub SumsEnd : Type 0
  SumsEnd = (first : Tally) (o : Opening) (h : List Event) (back : List D) (v : Parts D) → ((measure : D → ℕ) → sum_by measure back ≡ slots_home measure v)
      → SumsWithJobs slot first o h [] v → Counted (all_failures h) (written_blocks h) (all_stale h) first (tally_of slot back)
