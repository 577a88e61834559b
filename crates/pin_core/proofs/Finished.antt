-- What the end of a write leaves.
use Rattle.std.proofs.Common.{◌≡◌, ℕ, Option, Bool, true, false, refl, sym, subst, inl, arith}
use Rattle.outside.specs.declared.slot.Slot.{Ghosts}
use Rattle.page_table.specs.declared.entry.Place.TheVariants as spot
use Rattle.pool_model.specs.ScratchRows.{IsFault}
use Rattle.pin_core.specs.declared.parts.Parts.{Parts}
use Rattle.pin_core.specs.declared.jobs.WriteJob.{WriteJob}
use Rattle.pin_core.specs.StateOf.{state_of}
use Rattle.pin_core.specs.Invariant.{IsKept}
use Rattle.pin_core.specs.Lawful.{Lawful}
use Rattle.pin_core.specs.parts.Changes.{entry_at}
use Rattle.pin_core.specs.calls.Jobs.{IsWriteJob}
use Rattle.pin_core.specs.Standing.{AreHeld}
use Rattle.pin_core.specs.parts.Ends.{ComesBack, write_ended}
use Rattle.pin_core.specs.calls.Returning.{EntersWhere, IsWritten, write_ends, write_entry}
use Rattle.pin_core.proofs.Back.{write_back, write_client, write_under}
use Rattle.pin_core.proofs.Unwritten.{unwritten_kept, unwritten_state, unwritten_stands, unwritten_slots}
use Rattle.pin_core.proofs.Writes.{written_kept, written_state, written_stands, written_slots}

module _ {D : Type 0} where
  pub record Finished (v new : Parts D) (job : WriteJob D) : Type 1 where
    pub kept : IsKept new
    pub enters : (slot : Ghosts D) (before now : ℕ) → IsFault before now → EntersWhere slot (IsWritten slot v.arena.block_len job) (write_entry job before now) job.row v new

  module _ (v : Parts D) (is_kept : IsKept v) (laws : Lawful v) (job : WriteJob D) (is : IsWriteJob (state_of v) job) where
    back : ComesBack v (spot.Flying job.who) job.id (entry_at v job.id.name) job.buf job.row
    back = write_back v laws job is

    ended_kept : (failed : Bool) → IsKept (write_ended failed job.id (entry_at v job.id.name) job.buf job.row v)
    ended_kept false = written_kept v is_kept laws job.who is.maker job.id (entry_at v job.id.name) job.buf job.row back
    ended_kept true = unwritten_kept v is_kept laws job.who is.maker job.id (entry_at v job.id.name) job.buf job.row back 0 1 (inl (omega arith))

    ended_enters : (failed : Bool) → job.failed ≡ failed → (slot : Ghosts D) (before now : ℕ) → IsFault before now
        → EntersWhere slot (IsWritten slot v.arena.block_len job) (record { maker = job.who; event = write_ends failed job.id.name before now }) job.row v (write_ended failed job.id (entry_at v job.id.name) job.buf job.row v)
    ended_enters false so slot before now fault = record {
      state = written_state v is_kept laws job.who is.maker job.id (entry_at v job.id.name) job.buf job.row back;
      stands = λ o h stands w. written_stands v is_kept laws job.who is.maker job.id (entry_at v job.id.name) job.buf job.row back slot o h stands w.content (subst (λ (u : Option ℕ). AreHeld slot u job.id.name v.arena.block_len job.row job.buf.bytes) (write_under v laws job is) (w.held so));
      slots = written_slots v is_kept laws job.who is.maker job.id (entry_at v job.id.name) job.buf job.row back;
    }
    ended_enters true so slot before now fault = record {
      state = unwritten_state v is_kept laws job.who is.maker job.id (entry_at v job.id.name) job.buf job.row back before now fault;
      stands = λ o h stands w. unwritten_stands v is_kept laws job.who is.maker job.id (entry_at v job.id.name) job.buf job.row back before now fault slot o h stands w.content;
      slots = unwritten_slots v is_kept laws job.who is.maker job.id (entry_at v job.id.name) job.buf job.row back before now fault;
    }

    pub finished : (new : Parts D) → new ≡ write_ended job.failed job.id (entry_at v job.id.name) job.buf job.row v → Finished v new job
    finished new parts = subst (λ (z : Parts D). Finished v z job) (sym parts) (record { kept = ended_kept job.failed; enters = ended_enters job.failed refl })

  -- the same, where the parts are known by an equation
  pub finished_told : (v old new : Parts D) → v ≡ old → IsKept v → Lawful v → (job : WriteJob D) → IsWriteJob (state_of old) job
      → new ≡ write_ended job.failed job.id (entry_at v job.id.name) job.buf job.row v → Finished old new job
  finished_told v old new same is_kept laws job is parts =
      subst (λ (z : Parts D). Finished z new job) same (finished v is_kept laws job (subst (λ (z : Parts D). IsWriteJob (state_of z) job) (sym same) is) new parts)

  pub finished_back : (v old : Parts D) → v ≡ old → Lawful v → (job : WriteJob D) → IsWriteJob (state_of old) job
      → ComesBack v (spot.Flying job.who) job.id (entry_at v job.id.name) job.buf job.row × (job.client ≡ (entry_at v job.id.name).client)
  finished_back v old same laws job is =
      let here : IsWriteJob (state_of v) job = subst (λ (z : Parts D). IsWriteJob (state_of z) job) (sym same) is in
      (write_back v laws job here, write_client v laws job here)
