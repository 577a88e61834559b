-- What a load needs of the parts once there is room, and how it leaves them.
use Rattle.std.proofs.Common.{◌≡◌, ℕ, ◌≤◌, ap, sym, ◌∙◌, subst}
use Rattle.block_arena.specs.Memory.{Buffer, IsBufferOf}
use Rattle.page_table.specs.declared.page_id.PageId.{PageId}
use Rattle.page_table.specs.declared.entry.Entry.{Entry}
use Rattle.pin_core.specs.declared.kept.Kept.{Kept}
use Rattle.pin_core.specs.declared.jobs.ReadJob.{ReadJob}
use Rattle.pin_core.specs.declared.parts.Parts.{Parts}
use Rattle.pin_core.specs.Lawful.{Lawful}
use Rattle.pin_core.specs.Invariant.{IsKept}
use Rattle.pin_core.specs.parts.Changes.{entry_at}
use Rattle.pin_core.specs.calls.Evictions.{with_room}
use Rattle.pin_core.specs.parts.Loads.{CanLoad, ReadyLoad, loaded, loaded_over, read_job}
use Rattle.pin_core.proofs.LoadedOver.{entry_still, len_kept, ready_still}

module _ {D : Type 0} (v : Parts D) (is_kept : IsKept v) (laws : Lawful v) (id : PageId) (can : CanLoad v id (entry_at v id.name))
    (mid : Parts D) (blocks : ℕ) (named : blocks ≡ (entry_at v id.name).blocks) (made : mid ≡ with_room blocks v) where
  abbrev x : Entry (Kept D)
  x = entry_at v id.name

  mid_is : mid ≡ with_room x.blocks v
  mid_is = made ∙ ap (λ (n : ℕ). with_room n v) named

  entry_is : entry_at mid id.name ≡ x
  entry_is = ap (λ (p : Parts D). entry_at p id.name) mid_is ∙ entry_still v is_kept laws id x can

  pub enough_mid : blocks ≤ mid.arena.free → x.blocks ≤ (with_room x.blocks v).arena.free
  enough_mid enough = subst (λ (p : Parts D). x.blocks ≤ p.arena.free) mid_is (subst (λ (n : ℕ). n ≤ mid.arena.free) named enough)

  pub fill_ready : blocks ≤ mid.arena.free → ReadyLoad mid id (entry_at mid id.name)
  fill_ready enough =
      subst (ReadyLoad mid id) (sym entry_is)
      (subst (λ (p : Parts D). ReadyLoad p id x) (sym mid_is) (ready_still v is_kept laws id x can (enough_mid enough)))

  pub fill_parts : (new : Parts D) → new ≡ loaded id (entry_at mid id.name) mid → new ≡ loaded_over id x v
  fill_parts new is = is ∙ ap (λ (y : Entry (Kept D)). loaded id y mid) entry_is ∙ ap (loaded id x) mid_is

  pub fill_job : (job : ReadJob D) (buf : Buffer) → job ≡ read_job v.marked id (entry_at mid id.name) buf → job ≡ read_job v.marked id x buf
  fill_job job buf is = is ∙ ap (λ (y : Entry (Kept D)). read_job v.marked id y buf) entry_is

  pub fill_buffer : (buf : Buffer) → IsBufferOf (entry_at mid id.name).blocks mid.arena.block_len buf → IsBufferOf x.blocks v.arena.block_len buf
  fill_buffer buf is =
      subst (λ (len : ℕ). IsBufferOf x.blocks len buf) (ap (λ (p : Parts D). p.arena.block_len) mid_is ∙ len_kept v is_kept laws id x can)
      (subst (λ (y : Entry (Kept D)). IsBufferOf y.blocks mid.arena.block_len buf) entry_is is)
