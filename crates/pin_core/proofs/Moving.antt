-- One page goes to another place: what stays of the others.
use Rattle.std.proofs.Common.{◌≡◌, ◌≢◌, ℕ, Bool, false, List, Option, Some, None, get_or, option_map, ap, sym, ◌∙◌, subst, inl, inr}
use Rattle.std.specs.FinMap.{FinMap, get, insert}
use Rattle.std.specs.Ordering.{nat_cmp}
use Rattle.index_list.specs.Listing.{list_with, stands_in}
use Rattle.page_table.specs.declared.entry.Entry.{Entry}
use Rattle.page_table.specs.Pages.{Pages as Table, IsProper, with_entry}
use Rattle.client_lists.specs.Clients.{len_of}
use Rattle.reservation_tree.proofs.Maps.{get_same, get_other, same_or_other}
use Rattle.pool_model.specs.Bytes.{bytes_of}
use Rattle.pool_model.proofs.Seats.{some_is}
use Rattle.pin_core.specs.declared.kept.Kept.{Kept}
use Rattle.pin_core.specs.declared.parts.Parts.{Parts}
use Rattle.pin_core.specs.StateOf.{page_of, pages_in}
use Rattle.pin_core.specs.Marking.{form_of}
use Rattle.pin_core.specs.Invariant.{IsMem, IsPlaced, AllPlaced, NoneStray}
use Rattle.pin_core.proofs.Mapped.{get_mapped, mapped_put}

module _ {D : Type 0} where
  -- the page of this key and name has another entry, and the other pages stand where they stood
  pub record Moves (key name : ℕ) (x w : Entry (Kept D)) (v new : Parts D) : Type 0 where
    pub live : get v.pages.names key ≡ Some name
    pub there : get v.pages.entries name ≡ Some x
    pub pages : new.pages ≡ with_entry v.pages (record { name = name; key = key }) w
    pub lists : (k : ℕ) → k ≢ key → list_with k new.lists.pages.lists ≡ list_with k v.lists.pages.lists
    pub clean : (k : ℕ) → k ≢ key → stands_in k new.clean.keys ≡ stands_in k v.clean.keys
    pub block_len : new.arena.block_len ≡ v.arena.block_len
    pub form : form_of new ≡ form_of v
    pub opens : new.lists.is_open ≡ v.lists.is_open
    pub lens : (k : ℕ) → k ≢ key → len_of k new.lists.pages ≡ len_of k v.lists.pages

  module _ (key name : ℕ) (x w : Entry (Kept D)) (v new : Parts D) (moves : Moves key name x w v new) (proper : IsProper v.pages) where
    names_same : new.pages.names ≡ v.pages.names
    names_same = ap (λ (t : Table (Entry (Kept D))). t.names) moves.pages

    entries_are : new.pages.entries ≡ insert v.pages.entries name w
    entries_are = ap (λ (t : Table (Entry (Kept D))). t.entries) moves.pages

    pub entry_here : get new.pages.entries name ≡ Some w
    entry_here = ap (λ (m : FinMap nat_cmp (Entry (Kept D))). get m name) entries_are ∙ get_same v.pages.entries name w

    pub entry_other : (q : ℕ) → q ≢ name → get new.pages.entries q ≡ get v.pages.entries q
    entry_other q apart = ap (λ (m : FinMap nat_cmp (Entry (Kept D))). get m q) entries_are ∙ get_other v.pages.entries name w q apart

    -- another key has another name
    other_name : (k n : ℕ) → get v.pages.names k ≡ Some n → k ≢ key → n ≢ name
    other_name k n is apart same = apart (proper.apart k key n is (moves.live ∙ ap Some (sym same)))

    kept_placed : (k : ℕ) (page : Entry (Kept D)) → k ≢ key → IsPlaced v k page → IsPlaced new k page
    kept_placed k page apart was = record {
      on = moves.lists k apart ∙ was.on;
      opened = ap (λ (o : List Bool). get_or o page.client false) moves.opens ∙ was.opened;
      size = moves.lens k apart ∙ was.size ∙ ap (λ (len : ℕ). bytes_of len page.blocks) (sym moves.block_len);
      clean = moves.clean k apart ∙ was.clean;
      blocks = was.blocks;
      mem = subst (λ (len : ℕ). IsMem len page.blocks page.place page.mem) (sym moves.block_len) was.mem;
      kept = was.kept;
    }

    pub moved_placed : AllPlaced v → IsPlaced new key w → AllPlaced new
    moved_placed all here k n page live there =
        let live_before : get v.pages.names k ≡ Some n = ap (λ (m : FinMap nat_cmp ℕ). get m k) (sym names_same) ∙ live in
        elim (same_or_other k key) [
          | inl same ↦
              let name_is : n ≡ name = some_is n name (sym live_before ∙ ap (get v.pages.names) same ∙ moves.live) in
              let page_is : w ≡ page = some_is w page (sym entry_here ∙ ap (get new.pages.entries) (sym name_is) ∙ there) in
              subst (λ (z : Entry (Kept D)). IsPlaced new k z) page_is (subst (λ (j : ℕ). IsPlaced new j w) (sym same) here)
          | inr other ↦
              kept_placed k page other (all k n page live_before (sym (entry_other n (other_name k n live_before other)) ∙ there))
        ]

    pub moved_stray : NoneStray v → NoneStray new
    moved_stray stray k none =
        let none_before : get v.pages.names k ≡ None = ap (λ (m : FinMap nat_cmp ℕ). get m k) (sym names_same) ∙ none in
        let apart : k ≢ key = λ same. let both : None ≡ Some name = sym none_before ∙ ap (get v.pages.names) same ∙ moves.live in cc in
        let was = stray k none_before in
        (moves.lists k apart ∙ was.0, moves.clean k apart ∙ was.1)

    pub moved_pages : pages_in new.pages ≡ insert (pages_in v.pages) name (page_of v.pages name w)
    moved_pages = ap (λ (t : Table (Entry (Kept D))). pages_in t) moves.pages ∙ mapped_put (page_of v.pages) v.pages.entries name w

    pub page_there : get (pages_in v.pages) name ≡ Some (page_of v.pages name x)
    page_there = get_mapped (page_of v.pages) v.pages.entries name ∙ ap (λ (o : Option (Entry (Kept D))). option_map (page_of v.pages name) o) moves.there
