-- What a call leaves that makes a page's blocks a buffer.
use Rattle.std.proofs.Common.{◌≡◌, ℕ, [], ◌∷◌, None, ap, sym, subst}
use Rattle.std.specs.FinMap.{get}
use Rattle.outside.specs.declared.slot.Slot.{Ghosts}
use Rattle.block_arena.specs.Memory.{Buffer}
use Rattle.page_table.specs.declared.page_id.PageId.{PageId}
use Rattle.pool_model.specs.State.{Page, page_at}
use Rattle.store_api.specs.Tokens.{PageToken}
use Rattle.pin_core.specs.declared.parts.Parts.{Parts}
use Rattle.pin_core.specs.StateOf.{buffers_in, state_of}
use Rattle.pin_core.specs.Invariant.{IsKept}
use Rattle.pin_core.specs.Lawful.{Lawful}
use Rattle.pin_core.specs.Standing.{Enters}
use Rattle.pin_core.specs.calls.Needs.{IsLastPin, id_in}
use Rattle.pin_core.specs.parts.Changes.{entry_at}
use Rattle.pin_core.specs.calls.Unpinning.{CanUnpin}
use Rattle.pin_core.specs.calls.Ending.{extract_entry}
use Rattle.pin_core.specs.parts.Ended.{ReadyExtract, extracted}
use Rattle.pin_core.proofs.Found.{Found, found_page}
use Rattle.pin_core.proofs.Lends.{not_lent}
use Rattle.pin_core.proofs.Unpinned.{can_unpin}
use Rattle.pin_core.proofs.Extracts.{extract_ready, extract_kept, extract_enters}

module _ {D : Type 0} where
  -- what a call leaves
  pub record IsExtracted (old new : Parts D) (name f : ℕ) : Type 1 where
    pub kept : IsKept new
    pub enters : (slot : Ghosts D) → Enters slot (extract_entry (state_of old) name f ∷ []) [] [] old new
    pub fresh : get (buffers_in old.buffers) f ≡ None

  -- what it needs, said of the parts before it
  pub record Extracts (v old : Parts D) (id : PageId) (p : PageToken) (buf : Buffer) : Type 1 where
    pub can : CanUnpin v id (entry_at v id.name) buf
    pub ready : ReadyExtract v id (entry_at v id.name)
    pub client : (entry_at v id.name).client ≡ (page_at (state_of old) p.name).client
    pub ends : (f : ℕ) → get v.buffers.buffers f ≡ None → (new : Parts D) → new ≡ extracted id (entry_at v id.name) f v → IsExtracted old new p.name f

  extracts : (v : Parts D) → IsKept v → Lawful v → (p : PageToken) (buf : Buffer) → IsLastPin (state_of v) p buf → Extracts v v (id_in p) p buf
  extracts v is_kept laws p buf last =
      let can = can_unpin v laws p buf last in
      let found : Found v p (entry_at v p.name) = found_page v laws.proper p last.page in
      record {
        can = can;
        ready = extract_ready v is_kept laws (id_in p) (entry_at v p.name) buf can;
        client = ap (λ (y : Page). y.client) (sym found.is);
        ends = λ f fresh new is. subst (λ (z : Parts D). IsExtracted v z p.name f) (sym is) (record {
          kept = extract_kept v is_kept laws (id_in p) (entry_at v p.name) buf can f fresh;
          enters = λ slot. subst (λ (m : ℕ). Enters slot (record (extract_entry (state_of v) p.name f) { maker = m } ∷ []) [] [] v (extracted (id_in p) (entry_at v p.name) f v))
              (sym (ap (λ (y : Page). y.session) found.is)) (extract_enters v is_kept laws (id_in p) (entry_at v p.name) buf can f fresh slot);
          fresh = not_lent v.buffers f fresh;
        });
      }

  -- the same, where the parts and the page are known by equations
  pub extract_is : (v old : Parts D) (id : PageId) (p : PageToken) (buf : Buffer) → v ≡ old → id ≡ id_in p → IsKept v → Lawful v → IsLastPin (state_of old) p buf → Extracts v old id p buf
  extract_is v old id p buf same named kept laws last =
      subst (λ (z : Parts D). Extracts v z id p buf) same (subst (λ (i : PageId). Extracts v v i p buf) (sym named)
      (extracts v kept laws p buf (subst (λ (z : Parts D). IsLastPin (state_of z) p buf) (sym same) last)))
