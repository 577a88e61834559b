-- What a call leaves that ends a page.
use Rattle.std.proofs.Common.{◌≡◌, ◌≢◌, ℕ, false, [], ◌∷◌, Option, Some, None, refl, ap, sym, ◌∙◌, subst}
use Rattle.std.proofs.lemmas.Bool.{false≢true}
use Rattle.std.specs.FinMap.{get}
use Rattle.outside.specs.declared.slot.Slot.{Ghosts}
use Rattle.block_arena.specs.Memory.{Buffer, IsBufferOf}
use Rattle.page_table.specs.declared.page_id.PageId.{PageId}
use Rattle.page_table.specs.declared.entry.Place.{Place as Spot}
use Rattle.page_table.specs.declared.entry.Place.TheVariants as spot
use Rattle.pool_model.specs.State.{Page, Pinned, Loading, page_at, pins_of}
use Rattle.store_api.specs.Tokens.{PageToken}
use Rattle.pin_core.specs.declared.parts.Parts.{Parts}
use Rattle.pin_core.specs.StateOf.{place_in, state_of}
use Rattle.pin_core.specs.Invariant.{IsKept}
use Rattle.pin_core.specs.Lawful.{Lawful}
use Rattle.pin_core.specs.Standing.{Enters}
use Rattle.pin_core.specs.calls.Needs.{id_in}
use Rattle.pin_core.specs.parts.Changes.{entry_at}
use Rattle.pin_core.specs.calls.Ending.{IsPinnedWith, IsUnpinned, destroy_entry, is_flying}
use Rattle.pin_core.specs.parts.Leavings.{IsGiven}
use Rattle.pin_core.specs.parts.Ended.{CanDestroy, ReadyDestroy, destroyed}
use Rattle.pin_core.proofs.Found.{Found, found_page}
use Rattle.pin_core.proofs.Destroys.{destroy_kept, destroy_enters, destroy_ready}

-- a pinned page's place
given_pinned : (len blocks count : ℕ) (at : Spot) (buf : Buffer) → place_in at ≡ Pinned count → IsBufferOf blocks len buf → IsGiven len blocks at (Some buf)
given_pinned len blocks count (spot.Pinned pins) buf is whole = whole
given_pinned len blocks count spot.Dirty buf is whole = absurd (cc)
given_pinned len blocks count (spot.Flying writer) buf is whole = absurd (cc)
given_pinned len blocks count spot.Loading buf is whole = absurd (cc)
given_pinned len blocks count spot.Clean buf is whole = absurd (cc)
given_pinned len blocks count spot.Evicted buf is whole = absurd (cc)

-- and that of one that comes without its buffer
given_unpinned : (len blocks : ℕ) (at : Spot) → ((count : ℕ) → place_in at ≢ Pinned count) → place_in at ≢ Loading → is_flying (place_in at) ≡ false → IsGiven len blocks at None
given_unpinned len blocks (spot.Pinned pins) pinned loading flying = absurd (pinned pins refl)
given_unpinned len blocks spot.Dirty pinned loading flying = tt
given_unpinned len blocks (spot.Flying writer) pinned loading flying = absurd (false≢true (sym flying))
given_unpinned len blocks spot.Loading pinned loading flying = absurd (loading refl)
given_unpinned len blocks spot.Clean pinned loading flying = tt
given_unpinned len blocks spot.Evicted pinned loading flying = tt

module _ {D : Type 0} where
  -- what a call leaves
  pub record IsDestroyed (old new : Parts D) (name : ℕ) : Type 1 where
    pub kept : IsKept new
    pub enters : (slot : Ghosts D) → Enters slot (destroy_entry (state_of old) name ∷ []) [] [] old new

  -- what the page's end needs, said of the parts before a call
  pub record Destroys (v old : Parts D) (id : PageId) (p : PageToken) (buf : Option Buffer) : Type 1 where
    pub can : CanDestroy v id (entry_at v id.name) buf
    pub ready : ReadyDestroy v id (entry_at v id.name) buf
    pub ends : (new : Parts D) → new ≡ destroyed id (entry_at v id.name) buf v → IsDestroyed old new p.name

  module _ (v : Parts D) (is_kept : IsKept v) (laws : Lawful v) (p : PageToken) (buf : Option Buffer) (f : Found v p (entry_at v p.name)) where
    destroys : IsGiven v.arena.block_len (entry_at v p.name).blocks (entry_at v p.name).place buf → Destroys v v (id_in p) p buf
    destroys given =
        let can : CanDestroy v (id_in p) (entry_at v p.name) buf = record { live = f.live; there = f.there; given = given } in
        record {
          can = can;
          ready = destroy_ready v is_kept laws (id_in p) (entry_at v p.name) buf can;
          ends = λ new is. subst (λ (z : Parts D). IsDestroyed v z p.name) (sym is) (record {
            kept = destroy_kept v is_kept laws (id_in p) (entry_at v p.name) buf can;
            enters = λ slot. subst (λ (m : ℕ). Enters slot (record (destroy_entry (state_of v) p.name) { maker = m } ∷ []) [] [] v (destroyed (id_in p) (entry_at v p.name) buf v))
                (sym (ap (λ (y : Page). y.session) f.is)) (destroy_enters v is_kept laws (id_in p) (entry_at v p.name) buf can slot);
          });
        }

  pinned_destroys : (v : Parts D) → IsKept v → Lawful v → (p : PageToken) (buf : Buffer) → IsPinnedWith (state_of v) p buf → Destroys v v (id_in p) p (Some buf)
  pinned_destroys v is_kept laws p buf pinned =
      let f = found_page v laws.proper p pinned.pinned.page in
      destroys v is_kept laws p (Some buf) f
      (given_pinned v.arena.block_len (entry_at v p.name).blocks (pins_of (page_at (state_of v) p.name).place) (entry_at v p.name).place buf
      (sym (ap (λ (y : Page). y.place) f.is) ∙ pinned.pinned.pinned)
      (subst (λ (y : Page). IsBufferOf y.blocks v.arena.block_len buf) f.is pinned.buffer))

  unpinned_destroys : (v : Parts D) → IsKept v → Lawful v → (p : PageToken) → IsUnpinned (state_of v) p → is_flying (place_in (entry_at v p.name).place) ≡ false → Destroys v v (id_in p) p None
  unpinned_destroys v is_kept laws p unpinned flying =
      let f = found_page v laws.proper p unpinned.page in
      let same = ap (λ (y : Page). y.place) f.is in
      destroys v is_kept laws p None f
      (given_unpinned v.arena.block_len (entry_at v p.name).blocks (entry_at v p.name).place
      (λ count is. unpinned.not_pinned count (same ∙ is)) (λ is. unpinned.not_loading (same ∙ is)) flying)

  -- the same, where the parts and the page are known by equations
  pub pinned_ends : (v old : Parts D) (id : PageId) (p : PageToken) (buf : Buffer) → v ≡ old → id ≡ id_in p → IsKept v → Lawful v → IsPinnedWith (state_of old) p buf → Destroys v old id p (Some buf)
  pinned_ends v old id p buf same named kept laws pinned =
      subst (λ (z : Parts D). Destroys v z id p (Some buf)) same (subst (λ (i : PageId). Destroys v v i p (Some buf)) (sym named)
      (pinned_destroys v kept laws p buf (subst (λ (z : Parts D). IsPinnedWith (state_of z) p buf) (sym same) pinned)))

  pub unpinned_ends : (v old : Parts D) (id : PageId) (p : PageToken) → v ≡ old → id ≡ id_in p → IsKept v → Lawful v → IsUnpinned (state_of old) p
      → is_flying (place_in (entry_at v id.name).place) ≡ false → Destroys v old id p None
  unpinned_ends v old id p same named kept laws unpinned flying =
      subst (λ (z : Parts D). Destroys v z id p None) same (subst (λ (i : PageId). Destroys v v i p None) (sym named)
      (unpinned_destroys v kept laws p (subst (λ (z : Parts D). IsUnpinned (state_of z) p) (sym same) unpinned)
      (subst (λ (i : PageId). is_flying (place_in (entry_at v i.name).place) ≡ false) named flying)))

  -- a page that isn't pinned is in the table, and this says whether it is flying
  pub record FoundUnpinned (v old : Parts D) (id : PageId) (p : PageToken) : Type 0 where
    pub live : get v.pages.names id.key ≡ Some id.name
    pub there : get v.pages.entries id.name ≡ Some (entry_at v id.name)
    pub flies : is_flying (place_in (entry_at v id.name).place) ≡ is_flying (page_at (state_of old) p.name).place

  found_unpinned : (v : Parts D) → Lawful v → (p : PageToken) → IsUnpinned (state_of v) p → FoundUnpinned v v (id_in p) p
  found_unpinned v laws p unpinned =
      let f = found_page v laws.proper p unpinned.page in
      record { live = f.live; there = f.there; flies = ap (λ (y : Page). is_flying y.place) (sym f.is) }

  pub unpinned_found : (v old : Parts D) (id : PageId) (p : PageToken) → v ≡ old → id ≡ id_in p → Lawful v → IsUnpinned (state_of old) p → FoundUnpinned v old id p
  unpinned_found v old id p same named laws unpinned =
      subst (λ (z : Parts D). FoundUnpinned v z id p) same (subst (λ (i : PageId). FoundUnpinned v v i p) (sym named)
      (found_unpinned v laws p (subst (λ (z : Parts D). IsUnpinned (state_of z) p) (sym same) unpinned)))
