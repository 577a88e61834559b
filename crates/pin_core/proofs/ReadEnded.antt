-- What the end of a load leaves.
use Rattle.std.proofs.Common.{◌≡◌, ◌<◌, ℕ, Bool, true, false, Option, Some, None, List, length, sym, ◌∙◌, subst, inl, arith}
use Rattle.outside.specs.declared.slot.Slot.{Ghosts}
use Rattle.page_table.specs.declared.entry.Place.TheVariants as spot
use Rattle.pool_model.specs.ScratchRows.{IsFault}
use Rattle.pin_core.specs.declared.parts.Parts.{Parts}
use Rattle.pool_model.specs.LookingBack.{content_of}
use Rattle.pin_core.specs.declared.jobs.ReadJob.{ReadJob}
use Rattle.pin_core.specs.declared.jobs.Stale.{Stale}
use Rattle.pin_core.specs.Marking.{under_of}
use Rattle.pin_core.specs.calls.Runs.{IsFoundOther, IfFoundOther}
use Rattle.pin_core.specs.Standing.{AreHeld}
use Rattle.pin_core.specs.StateOf.{state_of}
use Rattle.pin_core.specs.Invariant.{IsKept}
use Rattle.pin_core.specs.Lawful.{Lawful}
use Rattle.pin_core.specs.parts.Changes.{entry_at}
use Rattle.pin_core.specs.calls.Jobs.{IsReadJob}
use Rattle.pin_core.specs.parts.Ends.{ComesBack, read_ended}
use Rattle.pin_core.specs.calls.Returning.{EntersWhere, IsRead, read_ends, read_entry}
use Rattle.pin_core.proofs.Back.{read_back, read_client, read_session, read_under}
use Rattle.pin_core.proofs.ReadBack.{read_kept, read_state, read_stands, read_slots}
use Rattle.pin_core.proofs.Outdated.{outdated_kept, outdated_state, outdated_stands, outdated_slots}
use Rattle.pin_core.proofs.Unread.{unread_kept, unread_state, unread_stands, unread_slots}

some_same : (a b : ℕ) → Some a ≡ Some b → a ≡ b
some_same a b same = cc

module _ {D : Type 0} where
  pub record ReadEnded (v new : Parts D) (job : ReadJob D) : Type 1 where
    pub kept : IsKept new
    pub enters : (slot : Ghosts D) (before now : ℕ) → IsFault before now → EntersWhere slot (IsRead slot v.arena.block_len job) (read_entry (state_of v) job before now) job.row v new

  module _ (v : Parts D) (is_kept : IsKept v) (laws : Lawful v) (job : ReadJob D) (is : IsReadJob (state_of v) job) where
    back : ComesBack v spot.Loading job.id (entry_at v job.id.name) job.buf job.row
    back = read_back v laws job is

    -- the version that was wanted is the page's
    wanted_is : (marked : Bool) (version wanted : ℕ) → under_of marked version ≡ Some wanted → wanted ≡ version
    wanted_is true version wanted same = sym (some_same version wanted same)
    wanted_is false version wanted same = let none : None ≡ Some wanted = same in cc

    found_version : (stale : Stale) → IsFoundOther job.under job.id.name (length job.row) stale → stale.wanted.version ≡ (entry_at v job.id.name).version
    found_version stale found = wanted_is v.marked (entry_at v job.id.name).version stale.wanted.version (sym (read_under v laws job is) ∙ found.version)

    found_block : (stale : Stale) → IsFoundOther job.under job.id.name (length job.row) stale → stale.wanted.block < (entry_at v job.id.name).blocks
    found_block stale found = subst (λ (n : ℕ). stale.wanted.block < n) back.slots found.block

    ended_kept : (failed : Bool) (stale : Option Stale) → IfFoundOther job.under job.id.name (length job.row) stale → IsKept (read_ended failed stale job.id (entry_at v job.id.name) job.row v)
    ended_kept true stale found = unread_kept v is_kept laws job.id (entry_at v job.id.name) job.buf job.row back 0 1 (inl (omega arith))
    ended_kept false None found = read_kept v is_kept laws job.id (entry_at v job.id.name) job.buf job.row back
    ended_kept false (Some stale) found =
        outdated_kept v is_kept laws job.id (entry_at v job.id.name) job.buf job.row back stale.wanted stale.found found.name_is (found_version stale found) (found_block stale found) found.other

    -- the slots hold it as the pool's form says
    in_form : (slot : Ghosts D) (bytes : List ℕ) → AreHeld slot job.under job.id.name v.arena.block_len job.row bytes → AreHeld slot (under_of v.marked (entry_at v job.id.name).version) job.id.name v.arena.block_len job.row bytes
    in_form slot bytes held = subst (λ (u : Option ℕ). AreHeld slot u job.id.name v.arena.block_len job.row bytes) (read_under v laws job is) held

    ended_enters : (failed : Bool) (stale : Option Stale) → IfFoundOther job.under job.id.name (length job.row) stale → (slot : Ghosts D) (before now : ℕ) → IsFault before now
        → EntersWhere slot (IsRead slot v.arena.block_len job) (record { maker = (entry_at v job.id.name).session; event = read_ends failed stale job.id.name before now }) job.row v (read_ended failed stale job.id (entry_at v job.id.name) job.row v)
    ended_enters false None found slot before now fault = record {
      state = read_state v is_kept laws job.id (entry_at v job.id.name) job.buf job.row back;
      stands = λ o h stands held. read_stands v is_kept laws job.id (entry_at v job.id.name) job.buf job.row back slot o h stands;
      slots = read_slots v is_kept laws job.id (entry_at v job.id.name) job.buf job.row back;
    }
    ended_enters false (Some stale) found slot before now fault = record {
      state = outdated_state v is_kept laws job.id (entry_at v job.id.name) job.buf job.row back stale.wanted stale.found found.name_is (found_version stale found) (found_block stale found) found.other;
      stands = λ o h stands held. outdated_stands v is_kept laws job.id (entry_at v job.id.name) job.buf job.row back stale.wanted stale.found found.name_is (found_version stale found) (found_block stale found) found.other
          slot o h stands (in_form slot (content_of o h job.id.name) held);
      slots = outdated_slots v is_kept laws job.id (entry_at v job.id.name) job.buf job.row back stale.wanted stale.found found.name_is (found_version stale found) (found_block stale found) found.other;
    }
    ended_enters true stale found slot before now fault = record {
      state = unread_state v is_kept laws job.id (entry_at v job.id.name) job.buf job.row back before now fault;
      stands = λ o h stands held. unread_stands v is_kept laws job.id (entry_at v job.id.name) job.buf job.row back before now fault slot o h stands (in_form slot (content_of o h job.id.name) held);
      slots = unread_slots v is_kept laws job.id (entry_at v job.id.name) job.buf job.row back before now fault;
    }

    pub ended : IfFoundOther job.under job.id.name (length job.row) job.stale → (new : Parts D) → new ≡ read_ended job.failed job.stale job.id (entry_at v job.id.name) job.row v → ReadEnded v new job
    ended found new parts = subst (λ (z : Parts D). ReadEnded v z job) (sym parts) (record {
      kept = ended_kept job.failed job.stale found;
      enters = λ slot before now fault. subst (λ (m : ℕ). EntersWhere slot (IsRead slot v.arena.block_len job) (record { maker = m; event = read_ends job.failed job.stale job.id.name before now }) job.row v (read_ended job.failed job.stale job.id (entry_at v job.id.name) job.row v))
          (sym (read_session v laws job is)) (ended_enters job.failed job.stale found slot before now fault);
    })

  -- the same, where the parts are known by an equation
  pub ended_told : (v old new : Parts D) → v ≡ old → IsKept v → Lawful v → (job : ReadJob D) → IsReadJob (state_of old) job → IfFoundOther job.under job.id.name (length job.row) job.stale
      → new ≡ read_ended job.failed job.stale job.id (entry_at v job.id.name) job.row v → ReadEnded old new job
  ended_told v old new same is_kept laws job is found parts =
      subst (λ (z : Parts D). ReadEnded z new job) same (ended v is_kept laws job (subst (λ (z : Parts D). IsReadJob (state_of z) job) (sym same) is) found new parts)

  pub ended_back : (v old : Parts D) → v ≡ old → Lawful v → (job : ReadJob D) → IsReadJob (state_of old) job
      → ComesBack v spot.Loading job.id (entry_at v job.id.name) job.buf job.row × (job.client ≡ (entry_at v job.id.name).client)
  ended_back v old same laws job is =
      let here : IsReadJob (state_of v) job = subst (λ (z : Parts D). IsReadJob (state_of z) job) (sym same) is in
      (read_back v laws job here, read_client v laws job here)
