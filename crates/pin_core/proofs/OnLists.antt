-- Keys on lists are those of live pages.
use Rattle.std.proofs.Common.{◌≡◌, ℕ, false, Some, None, refl, ap, sym, ◌∙◌}
use Rattle.std.specs.FinMap.{get}
use Rattle.std.proofs.lemmas.Bool.{false≢true}
use Rattle.index_list.specs.Listing.{list_with, stands_in, nodes_on}
use Rattle.index_list.proofs.Places.{list-from_stands}
use Rattle.index_list.proofs.Members.{others-all}
use Rattle.page_table.specs.declared.entry.Entry.{Entry}
use Rattle.page_table.specs.Pages.{Pages as Table, IsProper}
use Rattle.client_lists.specs.Clients.{IsWhole}
use Rattle.clean_evict.specs.Eviction.{names_of}
use Rattle.pool_model.specs.Parts.{without}
use Rattle.pin_core.specs.declared.kept.Kept.{Kept}
use Rattle.pin_core.specs.declared.parts.Parts.{Parts}
use Rattle.pin_core.specs.Invariant.{IsKept}
use Rattle.pin_core.proofs.Queued.{AreLive, names_without}

module _ {D : Type 0} where
  -- a key on a list has a page, since stray keys stand nowhere
  pub on_list_live : (v : Parts D) → IsKept v → IsWhole v.lists → (list : ℕ) → AreLive v.pages (nodes_on list v.lists.pages.lists)
  on_list_live v is_kept whole list k there =
      let on : list_with k v.lists.pages.lists ≡ Some list = list-from_stands v.lists.pages.lists whole.measured.proper k list there in
      elim (get v.pages.names k) as (λ o. get v.pages.names k ≡ o → (n : ℕ) × (get v.pages.names k ≡ Some n)) [
        | None ↦ λ none. let both : None ≡ Some list = sym (is_kept.stray k none).0 ∙ on in absurd (cc)
        | Some n ↦ λ is. (n, is)
      ] refl

  -- a clean key has a page
  pub clean_key_live : (v : Parts D) → IsKept v → AreLive v.pages v.clean.keys
  clean_key_live v is_kept k there =
      elim (get v.pages.names k) as (λ o. get v.pages.names k ≡ o → (n : ℕ) × (get v.pages.names k ≡ Some n)) [
        | None ↦ λ none. absurd (false≢true (sym (is_kept.stray k none).1 ∙ there))
        | Some n ↦ λ is. (n, is)
      ] refl

  -- names of live pages tell their keys apart
  pub one_key : (t : Table (Entry (Kept D))) → IsProper t → (key name : ℕ) → get t.names key ≡ Some name → (k n : ℕ) → get t.names k ≡ Some n → n ≡ name → k ≡ key
  one_key t proper key name is k n there same = proper.apart k key n there (is ∙ ap Some (sym same))

  -- a page that isn't clean isn't among the clean ones
  pub not_clean : (v : Parts D) → IsKept v → IsProper v.pages → (key name : ℕ) → get v.pages.names key ≡ Some name → stands_in key v.clean.keys ≡ false
      → without name (names_of v.pages v.clean.keys) ≡ names_of v.pages v.clean.keys
  not_clean v is_kept proper key name is out =
      sym (names_without v.pages key name is (one_key v.pages proper key name is) v.clean.keys (clean_key_live v is_kept))
      ∙ ap (names_of v.pages) (others-all key v.clean.keys out)
