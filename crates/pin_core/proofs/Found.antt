-- A page that the state knows is in the table.
use Rattle.std.proofs.Common.{◌≡◌, ℕ, Option, Some, None, unwrap_or, option_map, refl, ap, sym, ◌∙◌}
use Rattle.std.specs.FinMap.{get}
use Rattle.page_table.specs.declared.entry.Entry.{Entry}
use Rattle.page_table.specs.Pages.{Pages as Table, IsProper}
use Rattle.reservation_tree.proofs.Maps.{is_there}
use Rattle.pool_model.specs.State.{Page, page_at}
use Rattle.store_api.specs.Tokens.{PageToken}
use Rattle.pin_core.specs.declared.kept.Kept.{Kept}
use Rattle.pin_core.specs.declared.parts.Parts.{Parts}
use Rattle.pin_core.specs.StateOf.{key_of, page_of, state_of}
use Rattle.pin_core.specs.parts.Changes.{no_entry, entry_at}
use Rattle.pin_core.specs.calls.Needs.{IsPage}
use Rattle.pin_core.proofs.Keys.{key_is}
use Rattle.pin_core.proofs.Mapped.{get_mapped}

module _ {D : Type 0} where
  -- the page of the token is live, and this is its entry
  pub record Found (v : Parts D) (p : PageToken) (x : Entry (Kept D)) : Type 0 where
    pub live : get v.pages.names p.key ≡ Some p.name
    pub there : get v.pages.entries p.name ≡ Some x
    pub is : page_at (state_of v) p.name ≡ page_of v.pages p.name x

  some_entry : (o : Option (Entry (Kept D))) (f : Entry (Kept D) → Page) (y : Page) → option_map f o ≡ Some y → o ≡ Some (unwrap_or o no_entry)
  some_entry None f y is = cc
  some_entry (Some x) f y is = refl

  pub key_found : (t : Table (Entry (Kept D))) → IsProper t → (key name : ℕ) → get t.names key ≡ Some name → key_of t name ≡ key
  key_found t proper key name is = key_is t.names name key is (λ k there. proper.apart k key name there is) t.room (proper.keys key name is)

  pub found_page : (v : Parts D) → IsProper v.pages → (p : PageToken) → IsPage (state_of v) p → Found v p (entry_at v p.name)
  found_page v proper p page =
      let mapped_to : option_map (page_of v.pages p.name) (get v.pages.entries p.name) ≡ Some (page_at (state_of v) p.name) = sym (get_mapped (page_of v.pages) v.pages.entries p.name) ∙ page.lives in
      let there : get v.pages.entries p.name ≡ Some (entry_at v p.name) = some_entry (get v.pages.entries p.name) (page_of v.pages p.name) (page_at (state_of v) p.name) mapped_to in
      let keyed = proper.keyed p.name (is_there (get v.pages.entries p.name) (entry_at v p.name) there) in
      let is : page_at (state_of v) p.name ≡ page_of v.pages p.name (entry_at v p.name) =
      ap (λ (o : Option Page). unwrap_or o (page_at (state_of v) p.name)) (sym mapped_to ∙ ap (option_map (page_of v.pages p.name)) there) in
      let key : p.key ≡ keyed.0 = sym page.key ∙ ap (λ (y : Page). y.key) is ∙ key_found v.pages proper keyed.0 p.name keyed.1 in
      record { live = ap (get v.pages.names) key ∙ keyed.1; there = there; is = is }
