-- What a call leaves that makes a page.
use Rattle.std.proofs.Common.{◌≡◌, ℕ, ◌<◌, ◌≤◌, [], ◌∷◌, ap, sym, ◌∙◌, subst}
use Rattle.outside.specs.declared.slot.Slot.{Ghosts}
use Rattle.block_arena.specs.Memory.{Buffer}
use Rattle.page_table.specs.declared.page_id.PageId.{PageId}
use Rattle.page_table.specs.Pages.{IsSpent}
use Rattle.store_api.specs.Tokens.{ClientToken, PageToken}
use Rattle.pin_core.specs.declared.parts.Parts.{Parts}
use Rattle.pin_core.specs.StateOf.{state_of}
use Rattle.pin_core.specs.Invariant.{IsKept}
use Rattle.pin_core.specs.Lawful.{Lawful}
use Rattle.pin_core.specs.Standing.{Enters}
use Rattle.pin_core.specs.calls.Evictions.{evictions, names_gone, with_room}
use Rattle.pin_core.specs.calls.Coming.{CanHold, ReadyCreate, created, zeros, create_entry, create_entries}
use Rattle.pin_core.proofs.Comes.{IsFreeKey}
use Rattle.pin_core.proofs.Creates.{create_ready, create_kept, create_enters}
use Rattle.pin_core.proofs.Holding.{gone, gone_done, len_still, next_still, holds_still}
use Rattle.pin_core.proofs.Entered.{Done, done_then}

-- a token by its parts
pub token_made : (p : PageToken) (id : PageId) (t t0 n : ℕ) → p ≡ record { name = id.name; key = id.key; client = t } → t ≡ t0 → id.name ≡ n → p ≡ record { name = n; key = p.key; client = t0 }
token_made p id t t0 n is same named = is ∙ (λ i. record { name = named i; key = sym (ap (λ (q : PageToken). q.key) is) i; client = same i })

module _ {D : Type 0} where
  -- what a call leaves
  pub record IsCreated (old new : Parts D) (c : ClientToken) (id : PageId) (blocks : ℕ) : Type 1 where
    pub kept : IsKept new
    pub enters : (slot : Ghosts D) → Enters slot (create_entries c id blocks old) [] [] old new
    pub name : id.name ≡ old.pages.next_name

  -- what it needs, said of the parts before it: first clean pages make room for the shell, and then the page comes
  pub record Creates (v old : Parts D) (c : ClientToken) (s t shell blocks : ℕ) : Type 1 where
    pub ready : (mid : Parts D) → mid ≡ with_room shell v → shell ≤ mid.arena.free → ReadyCreate mid t blocks
    pub ends : (mid : Parts D) → mid ≡ with_room shell v → shell ≤ mid.arena.free → (id : PageId) → IsFreeKey mid id → id.name < 18446744073709551615
        → (new : Parts D) → new ≡ created id s t blocks mid → IsCreated old new c id blocks
    pub zeroed : (mid : Parts D) → mid ≡ with_room shell v → (buf : Buffer) → buf ≡ zeros blocks mid.arena.block_len → buf ≡ zeros blocks old.arena.block_len

  creates : (v : Parts D) → IsKept v → Lawful v → (c : ClientToken) (blocks : ℕ) → CanHold (state_of v) c blocks → (IsSpent v.pages → ⊥) → Creates v v c c.session c.tracker blocks blocks
  creates v is_kept laws c blocks can left =
      let g = gone v is_kept c blocks can laws in
      let still = holds_still v is_kept c blocks can laws in
      let next = next_still v is_kept c blocks can laws in
      record {
        ready = λ mid is free. subst (λ (z : Parts D). ReadyCreate z c.tracker blocks) (sym is)
            (create_ready (with_room blocks v) g.kept g.laws c blocks still (subst (λ (z : Parts D). blocks ≤ z.arena.free) is free) (λ spent. left (sym next ∙ spent)));
        ends = λ mid is free id key low new new_is.
            let enough : blocks ≤ (with_room blocks v).arena.free = subst (λ (z : Parts D). blocks ≤ z.arena.free) is free in
            let open_key : IsFreeKey (with_room blocks v) id = subst (λ (z : Parts D). IsFreeKey z id) is key in
            let first = gone_done v is_kept c blocks can laws in
            let then : Done (create_entry c id blocks ∷ []) [] [] (with_room blocks v) (created id c.session c.tracker blocks (with_room blocks v)) = record {
              kept = create_kept (with_room blocks v) g.kept g.laws c blocks still enough id open_key low;
              enters = create_enters (with_room blocks v) g.kept g.laws c blocks still enough id open_key low;
            } in
            let all = done_then (evictions c.session (names_gone blocks v)) (create_entry c id blocks ∷ []) [] [] v (with_room blocks v) (created id c.session c.tracker blocks (with_room blocks v)) first then in
            subst (λ (z : Parts D). IsCreated v z c id blocks) (sym (new_is ∙ ap (created id c.session c.tracker blocks) is)) (record { kept = all.kept; enters = all.enters; name = open_key.name ∙ next });
        zeroed = λ mid is buf buf_is. buf_is ∙ ap (zeros blocks) (ap (λ (z : Parts D). z.arena.block_len) is ∙ len_still v is_kept c blocks can laws);
      }

  -- the same, where the parts, the client and the shell are known by equations
  pub create_is : (v old : Parts D) (c : ClientToken) (s t shell blocks : ℕ) → v ≡ old → s ≡ c.session → t ≡ c.tracker → shell ≡ blocks → IsKept v → Lawful v → CanHold (state_of old) c blocks
      → (IsSpent v.pages → ⊥) → Creates v old c s t shell blocks
  create_is v old c s t shell blocks same who named room kept laws can left =
      subst (λ (z : Parts D). Creates v z c s t shell blocks) same (subst (λ (m : ℕ). Creates v v c m t shell blocks) (sym who)
      (subst (λ (n : ℕ). Creates v v c c.session n shell blocks) (sym named) (subst (λ (n : ℕ). Creates v v c c.session c.tracker n blocks) (sym room)
      (creates v kept laws c blocks (subst (λ (z : Parts D). CanHold (state_of z) c blocks) (sym same) can) left))))
