-- A client's newest dirty page, and what a start of its write needs of the parts.
use Rattle.std.proofs.Common.{◌≡◌, ℕ, zero, suc, ◌+◌, ◌-◌, ◌*◌, true, List, [], ◌∷◌, ◌++◌, length, Option, Some, None, unwrap_or, option_map, refl, ap, sym, ◌∙◌, subst, arith}
use Rattle.std.specs.FinMap.{get}
use Rattle.std.specs.List.{slice_get}
use Rattle.index_list.specs.Listing.{list_with, stands_in}
use Rattle.index_list.proofs.Places.{stands-from_get, list-from_stands}
use Rattle.page_table.specs.declared.page_id.PageId.{PageId}
use Rattle.page_table.specs.declared.entry.Place.{Place as Spot}
use Rattle.page_table.specs.declared.entry.Place.TheVariants as spot
use Rattle.page_table.specs.declared.entry.Mem.{Mem}
use Rattle.page_table.specs.declared.entry.Mem.TheVariants as mem
use Rattle.page_table.specs.declared.entry.Entry.{Entry}
use Rattle.page_table.specs.Pages.{Pages as Table, id_of, with_entry}
use Rattle.client_lists.specs.declared.which.Which.TheVariants as which
use Rattle.client_lists.specs.Clients.{Clients, IsOn, place, nodes_of, newest, shifted}
use Rattle.clean_evict.specs.Eviction.{name_at}
use Rattle.reservation_tree.proofs.Maps.{found}
use Rattle.pool_model.specs.State.{shown}
use Rattle.pin_core.specs.declared.kept.Kept.{Kept}
use Rattle.pin_core.specs.declared.parts.Parts.{Parts}
use Rattle.pin_core.specs.Invariant.{IsKept, IsPlaced, IsKeptOf, IsMem, IsHeld, list_at}
use Rattle.pin_core.specs.Lawful.{Lawful}
use Rattle.pin_core.specs.parts.Changes.{entry_at, no_entry}
use Rattle.pin_core.specs.parts.Flights.{id_with, is_held_mem, flying, flown}
use Rattle.pin_core.proofs.Queued.{name_is}
use Rattle.pin_core.proofs.OnLists.{on_list_live}
use Rattle.pin_core.proofs.Held.{number_is}

-- a list by its last one
pub record Ends (xs : List ℕ) (last : ℕ) : Type 0 where
  pub older : List ℕ
  pub is : xs ≡ older ++ last ∷ []

ends_at : (xs : List ℕ) (n k : ℕ) → suc n ≡ length xs → slice_get xs n ≡ Some k → Ends xs k
ends_at [] n k size is = absurd (omega (arith, size))
ends_at (x ∷ []) zero k size is = record { older = []; is = ap (λ (n : ℕ). n ∷ []) (number_is x k is) }
ends_at (x ∷ []) (suc n) k size is = absurd (omega (arith, size))
ends_at (x ∷ y ∷ ys) zero k size is = absurd (omega (arith, size))
ends_at (x ∷ y ∷ ys) (suc n) k size is = let rest : Ends (y ∷ ys) k = ends_at (y ∷ ys) n k (omega (arith, size)) is in record { older = x ∷ rest.older; is = ap (λ (l : List ℕ). x ∷ l) rest.is }

pub ends_with : (xs : List ℕ) (k : ℕ) → slice_get xs (length xs - 1) ≡ Some k → Ends xs k
ends_with [] k is = let none : None ≡ Some k = is in absurd (cc)
ends_with (x ∷ xs) k is = ends_at (x ∷ xs) (length xs) k refl (subst (λ (n : ℕ). slice_get (x ∷ xs) n ≡ Some k) (omega arith) is)

held_is_mem : (len blocks : ℕ) (m : Mem) → IsHeld len blocks m → is_held_mem m ≡ true
held_is_mem len blocks (mem.Held buf) is = refl
held_is_mem len blocks (mem.Empty shell) is = absurd is
held_is_mem len blocks mem.Out is = absurd is

dirty_spot : (d c : ℕ) (at : Spot) → list_at d at ≡ Some (place c which.Dirty) → (d ≡ c) × (at ≡ spot.Dirty)
dirty_spot d c spot.Dirty is = let e = number_is (3 * d + 1) (3 * c + 1) is in (omega (arith, e), refl)
dirty_spot d c (spot.Pinned count) is = let e = number_is (3 * d + 0) (3 * c + 1) is in absurd (omega (arith, e))
dirty_spot d c (spot.Flying writer) is = let e = number_is (3 * d + 2) (3 * c + 1) is in absurd (omega (arith, e))
dirty_spot d c spot.Loading is = let e = number_is (3 * d + 0) (3 * c + 1) is in absurd (omega (arith, e))
dirty_spot d c spot.Clean is = cc
dirty_spot d c spot.Evicted is = cc

module _ {D : Type 0} where
  -- the page that goes
  pub record IsNewest (v : Parts D) (c key : ℕ) : Type 0 where
    pub live : get v.pages.names key ≡ Some (id_with key v).name
    pub there : get v.pages.entries (id_with key v).name ≡ Some (entry_at v (id_with key v).name)
    pub client : (entry_at v (id_with key v).name).client ≡ c
    pub dirty : (entry_at v (id_with key v).name).place ≡ spot.Dirty
    pub at : IsPlaced v key (entry_at v (id_with key v).name)
    pub ends : Ends (nodes_of c which.Dirty v.lists) key
    pub on : IsOn c key v.lists
    pub id : id_of v.pages key ≡ Some (id_with key v)
    pub held : IsHeld v.arena.block_len (entry_at v (id_with key v).name).blocks (entry_at v (id_with key v).name).mem
    pub slots : IsKeptOf (entry_at v (id_with key v).name).blocks spot.Dirty (entry_at v (id_with key v).name).scratch

  pub newest_page : (v : Parts D) → IsKept v → Lawful v → (c key : ℕ) → newest c v.lists ≡ Some key → IsNewest v c key
  newest_page v is_kept laws c key last =
      let stands : stands_in key (nodes_of c which.Dirty v.lists) ≡ true = stands-from_get (nodes_of c which.Dirty v.lists) _ key last in
      let on : list_with key v.lists.pages.lists ≡ Some (place c which.Dirty) = list-from_stands v.lists.pages.lists laws.whole.measured.proper key (place c which.Dirty) stands in
      let found_live = on_list_live v is_kept laws.whole (place c which.Dirty) key stands in
      let named : name_at v.pages key ≡ found_live.0 = name_is v.pages key found_live.0 found_live.1 in
      let live : get v.pages.names key ≡ Some (id_with key v).name = found_live.1 ∙ ap Some (sym named) in
      let found_page = found (get v.pages.entries (id_with key v).name) (laws.proper.named key (id_with key v).name live) in
      let same : entry_at v (id_with key v).name ≡ found_page.0 = ap (λ (o : Option (Entry (Kept D))). unwrap_or o no_entry) found_page.1 in
      let there : get v.pages.entries (id_with key v).name ≡ Some (entry_at v (id_with key v).name) = found_page.1 ∙ ap Some (sym same) in
      let x : Entry (Kept D) = entry_at v (id_with key v).name in
      let at : IsPlaced v key x = is_kept.placed key (id_with key v).name x live there in
      let both = dirty_spot x.client c x.place (sym at.on ∙ on) in
      record {
        live = live;
        there = there;
        client = both.0;
        dirty = both.1;
        at = at;
        ends = ends_with (nodes_of c which.Dirty v.lists) key last;
        on = record { which = which.Dirty; there = on };
        id = ap (λ (o : Option ℕ). option_map (λ name. record { name = name; key = key }) o) live;
        held = subst (λ p. IsMem v.arena.block_len x.blocks p x.mem) both.1 at.mem;
        slots = subst (λ p. IsKeptOf x.blocks p x.scratch) both.1 at.kept;
      }

  pub newest_held : (v : Parts D) (c key : ℕ) → IsNewest v c key → is_held_mem (entry_at v (id_with key v).name).mem ≡ true
  newest_held v c key n = held_is_mem v.arena.block_len _ (entry_at v (id_with key v).name).mem n.held

  pub id_found : (v : Parts D) (key : ℕ) (o : Option PageId) (id : PageId) → o ≡ Some id → o ≡ id_of v.pages key → id_of v.pages key ≡ Some (id_with key v) → id ≡ id_with key v
  id_found v key o id is found_it named = ap (λ (r : Option PageId). unwrap_or r id) (sym is ∙ found_it ∙ named)

  pub start_done : (v : Parts D) (who c key : ℕ) (id : PageId) → id ≡ id_with key v → (entry_at v (id_with key v).name).client ≡ c
      → (pages : Table (Entry (Kept D))) → pages ≡ with_entry v.pages id (flying who v.entries (entry_at v id.name))
      → (lists : Clients) → lists ≡ shifted c which.Flying key v.lists
      → (entries : ℕ) → entries ≡ shown (v.entries + 1)
      → record v { pages = pages; lists = lists; entries = entries } ≡ flown who (id_with key v) (entry_at v (id_with key v).name) v
  start_done v who c key id id_is client pages pages_are lists lists_are entries entries_are =
      let p : pages ≡ with_entry v.pages (id_with key v) (flying who v.entries (entry_at v (id_with key v).name)) = pages_are ∙ ap (λ (j : PageId). with_entry v.pages j (flying who v.entries (entry_at v j.name))) id_is in
      let l : lists ≡ shifted (entry_at v (id_with key v).name).client which.Flying key v.lists = lists_are ∙ ap (λ (n : ℕ). shifted n which.Flying key v.lists) (sym client) in
      λ i. record v { pages = p i; lists = l i; entries = entries_are i }
