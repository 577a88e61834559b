-- The page with a clean key.
use Rattle.std.proofs.Common.{◌≡◌, ℕ, true, Some, refl, sym, ◌∙◌}
use Rattle.std.specs.FinMap.{get}
use Rattle.std.proofs.lemmas.Bool.{false≢true}
use Rattle.reservation_tree.proofs.Maps.{found}
use Rattle.index_list.specs.Listing.{stands_in}
use Rattle.page_table.specs.declared.entry.Place.{Place as Spot}
use Rattle.page_table.specs.declared.entry.Place.TheVariants as spot
use Rattle.page_table.specs.declared.entry.Entry.{Entry}
use Rattle.page_table.specs.Pages.{IsProper}
use Rattle.clean_evict.specs.Eviction.{name_at}
use Rattle.pin_core.specs.declared.kept.Kept.{Kept}
use Rattle.pin_core.specs.declared.parts.Parts.{Parts}
use Rattle.pin_core.specs.Invariant.{is_clean_spot, IsPlaced, IsKept}
use Rattle.pin_core.proofs.Queued.{name_is}
use Rattle.pin_core.proofs.OnLists.{clean_key_live}

-- a place that is clean
clean_spot : (at : Spot) → is_clean_spot at ≡ true → at ≡ spot.Clean
clean_spot spot.Clean is = refl
clean_spot (spot.Pinned count) is = absurd (false≢true is)
clean_spot spot.Dirty is = absurd (false≢true is)
clean_spot (spot.Flying writer) is = absurd (false≢true is)
clean_spot spot.Loading is = absurd (false≢true is)
clean_spot spot.Evicted is = absurd (false≢true is)

module _ {D : Type 0} where
  -- the page with a clean key
  pub record IsCleanAt (v : Parts D) (key : ℕ) : Type 0 where
    pub name : ℕ
    pub live : get v.pages.names key ≡ Some name
    pub named : name_at v.pages key ≡ name
    pub page : Entry (Kept D)
    pub there : get v.pages.entries name ≡ Some page
    pub clean : page.place ≡ spot.Clean
    pub at : IsPlaced v key page

  pub clean_page : (v : Parts D) → IsKept v → IsProper v.pages → (key : ℕ) → stands_in key v.clean.keys ≡ true → IsCleanAt v key
  clean_page v is_kept proper key stands =
      let live = clean_key_live v is_kept key stands in
      let there = found (get v.pages.entries live.0) (proper.named key live.0 live.1) in
      let at : IsPlaced v key there.0 = is_kept.placed key live.0 there.0 live.1 there.1 in
      record {
        name = live.0;
        live = live.1;
        named = name_is v.pages key live.0 live.1;
        page = there.0;
        there = there.1;
        clean = clean_spot there.0.place (sym at.clean ∙ stands);
        at = at;
      }
