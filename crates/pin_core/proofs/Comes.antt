-- A page comes: what stays of the others.
use Rattle.std.proofs.Common.{◌≡◌, ◌≢◌, ℕ, ◌+◌, ◌<◌, ◌≤◌, ◌==◌, Bool, false, cond, List, get_or, Option, Some, None, option_map, refl, ap, sym, ◌∙◌, subst, inl, inr, arith}
use Rattle.std.specs.FinMap.{get, insert}
use Rattle.index_list.specs.Listing.{list_with}
use Rattle.index_list.proofs.Places.{nowhere}
use Rattle.page_table.specs.declared.page_id.PageId.{PageId}
use Rattle.page_table.specs.declared.entry.Mem.TheVariants as mem
use Rattle.page_table.specs.declared.entry.Entry.{Entry}
use Rattle.page_table.specs.Pages.{HasRoom as HasPageRoom, IsProper, new_entry}
use Rattle.page_table.proofs.Proper.{next_unused, proper-with_page}
use Rattle.client_lists.specs.declared.which.Which.TheVariants as which
use Rattle.client_lists.specs.Clients.{IsOpen, place, nodes_of}
use Rattle.client_lists.proofs.Nodes.{len-with_node, len-with_node_other, list-with_node, list-with_node_other, nodes-with_node_other}
use Rattle.clean_evict.specs.Eviction.{names_of}
use Rattle.reservation_tree.specs.Total.{total, weight_at}
use Rattle.reservation_tree.proofs.Maps.{get_same, get_other, same_or_other, is_there, alike}
use Rattle.reservation_tree.proofs.Sums.{total-insert}
use Rattle.pool_model.specs.Bytes.{bytes_of, only_if}
use Rattle.pool_model.specs.State.{Place, Pinned, Page, Pages}
use Rattle.pool_model.specs.Sums.{pages_for, bytes_in, page_bytes, slots_of}
use Rattle.pool_model.proofs.Seats.{some_is}
use Rattle.pool_model.proofs.Weights.{only_none}
use Rattle.pin_core.specs.declared.kept.Kept.{Kept}
use Rattle.pin_core.specs.declared.kept.Kept.TheVariants as kept
use Rattle.pin_core.specs.declared.parts.Parts.{Parts}
use Rattle.pin_core.specs.StateOf.{key_of, page_of, pages_in, dirty_in}
use Rattle.pin_core.specs.Invariant.{IsPlaced, AllPlaced, NoneStray, IsKept, slots_in}
use Rattle.pin_core.specs.Lawful.{Lawful}
use Rattle.pin_core.specs.calls.Coming.{created}
use Rattle.pin_core.proofs.Beside.{names_beside}
use Rattle.pin_core.proofs.Found.{key_found}
use Rattle.pin_core.proofs.Mapped.{get_mapped, mapped_put, mapped_alike}
use Rattle.pin_core.proofs.Queued.{get_dirty}

module _ (pages : Pages) (p : ℕ) (y : Page) (none : get pages p ≡ None) where
  -- the sums once a page more is there
  pub pages_come : (times : Place → ℕ) (len t : ℕ) → pages_for times len (insert pages p y) t ≡ pages_for times len pages t + only_if (y.client == t) (page_bytes times len y)
  unfolding pages_for
  pages_come times len t =
      let w : ℕ → Page → ℕ = λ _ z. only_if (z.client == t) (page_bytes times len z) in
      let sum : total w (insert pages p y) + weight_at w p (get pages p) ≡ total w pages + w p y = total-insert w pages p y in
      let old : weight_at w p (get pages p) ≡ 0 = ap (weight_at w p) none in
      omega (arith, sum, old)

  pub bytes_come : (times : Place → ℕ) (len : ℕ) → bytes_in times len (insert pages p y) ≡ bytes_in times len pages + page_bytes times len y
  unfolding bytes_in
  bytes_come times len =
      let w : ℕ → Page → ℕ = λ _ z. page_bytes times len z in
      let sum : total w (insert pages p y) + weight_at w p (get pages p) ≡ total w pages + w p y = total-insert w pages p y in
      let old : weight_at w p (get pages p) ≡ 0 = ap (weight_at w p) none in
      omega (arith, sum, old)

  pub slots_come : y.has_slots ≡ false → (q : ℕ) → slots_of (insert pages p y) q ≡ slots_of pages q
  unfolding slots_of
  slots_come bare q =
      let w : ℕ → Page → ℕ = λ _ z. only_if (z.session == q) (only_if z.has_slots z.blocks) in
      let sum : total w (insert pages p y) + weight_at w p (get pages p) ≡ total w pages + w p y = total-insert w pages p y in
      let old : weight_at w p (get pages p) ≡ 0 = ap (weight_at w p) none in
      let own : w p y ≡ 0 = ap (λ (b : Bool). only_if (y.session == q) (only_if b y.blocks)) bare ∙ only_none (y.session == q) in
      omega (arith, sum, old, own)

  pub all_slots_come : y.has_slots ≡ false → slots_in (insert pages p y) ≡ slots_in pages
  all_slots_come bare =
      let w : ℕ → Page → ℕ = λ _ z. only_if z.has_slots z.blocks in
      let sum : total w (insert pages p y) + weight_at w p (get pages p) ≡ total w pages + w p y = total-insert w pages p y in
      let old : weight_at w p (get pages p) ≡ 0 = ap (weight_at w p) none in
      let own : w p y ≡ 0 = ap (λ (b : Bool). only_if b y.blocks) bare in
      omega (arith, sum, old, own)

-- a page as it begins
abbrev pub page_made : ℕ → ℕ → ℕ → ℕ → Page
page_made key session c blocks = record { key = key; session = session; client = c; blocks = blocks; place = Pinned 1; has_slots = false; version = 0 }

-- and its entry
abbrev pub entry_made : {D : Type 0} → PageId → ℕ → ℕ → ℕ → Entry (Kept D)
entry_made id session c blocks = new_entry id.name session c blocks mem.Out (kept.Empty blocks)

-- a key under which a page can come, with the next name
pub record IsFreeKey {D : Type 0} (v : Parts D) (id : PageId) : Type 0 where
  pub name : id.name ≡ v.pages.next_name
  pub vacant : get v.pages.names id.key ≡ None
  pub in_range : id.key < v.pages.room

module _ {D : Type 0} (v : Parts D) (is_kept : IsKept v) (laws : Lawful v) (id : PageId) (free : IsFreeKey v id) (session c blocks : ℕ)
    (opened : IsOpen c v.lists) (size : (0 < blocks) × (blocks ≤ 256)) where
  abbrev new : Parts D
  new = created id session c blocks v

  abbrev len : ℕ
  len = bytes_of v.arena.block_len blocks

  abbrev w : Entry (Kept D)
  w = entry_made id session c blocks

  abbrev comes : Page
  comes = page_made id.key session c blocks

  off : list_with id.key v.lists.pages.lists ≡ None
  off = (is_kept.stray id.key free.vacant).0

  node_in : id.key < v.lists.pages.lists.nodes
  node_in = let low = free.in_range in let nodes = is_kept.sized.nodes in omega (arith, low, nodes)

  fresh : get v.pages.entries id.name ≡ None
  fresh = ap (get v.pages.entries) free.name ∙ next_unused v.pages laws.proper

  pub no_page_yet : get (pages_in v.pages) id.name ≡ None
  no_page_yet = get_mapped (page_of v.pages) v.pages.entries id.name ∙ ap (λ (o : Option (Entry (Kept D))). option_map (page_of v.pages id.name) o) fresh

  placed_w : IsPlaced new id.key w
  placed_w = record {
    on = list-with_node v.lists laws.whole c id.key len which.Pinned opened off;
    opened = opened;
    size = len-with_node v.lists laws.whole c id.key len which.Pinned node_in;
    clean = (is_kept.stray id.key free.vacant).1;
    blocks = size;
    mem = refl;
    kept = (refl, refl);
  }

  -- other pages have other names
  older : (k n : ℕ) → get v.pages.names k ≡ Some n → n ≢ id.name
  older k n is same =
      let low = laws.proper.below n (laws.proper.named k n is) in
      let next = free.name in
      absurd (omega (arith, low, same, next))

  pub come_placed : AllPlaced new
  come_placed k n page live there = elim (same_or_other k id.key) [
    | inl same ↦
        let name_is : n ≡ id.name = some_is n id.name (sym live ∙ ap (get (insert v.pages.names id.key id.name)) same ∙ get_same v.pages.names id.key id.name) in
        let page_is : w ≡ page = some_is w page (sym (get_same v.pages.entries id.name w) ∙ ap (get (insert v.pages.entries id.name w)) (sym name_is) ∙ there) in
        subst (λ (z : Entry (Kept D)). IsPlaced new k z) page_is (subst (λ (j : ℕ). IsPlaced new j w) (sym same) placed_w)
    | inr other ↦
        let live_before : get v.pages.names k ≡ Some n = sym (get_other v.pages.names id.key id.name k other) ∙ live in
        let was : IsPlaced v k page = is_kept.placed k n page live_before (sym (get_other v.pages.entries id.name w n (older k n live_before)) ∙ there) in
        record {
          on = list-with_node_other v.lists laws.whole c id.key len which.Pinned k other ∙ was.on;
          opened = was.opened;
          size = len-with_node_other v.lists c id.key len which.Pinned k other ∙ was.size;
          clean = was.clean;
          blocks = was.blocks;
          mem = was.mem;
          kept = was.kept;
        }
  ]

  pub come_stray : NoneStray new
  come_stray k none =
      let apart : k ≢ id.key = λ same. let both : None ≡ Some id.name = sym none ∙ ap (get (insert v.pages.names id.key id.name)) same ∙ get_same v.pages.names id.key id.name in cc in
      let was = is_kept.stray k (sym (get_other v.pages.names id.key id.name k apart) ∙ none) in
      (list-with_node_other v.lists laws.whole c id.key len which.Pinned k apart ∙ was.0, was.1)

  pub come_clean : names_of new.pages new.clean.keys ≡ names_of v.pages v.clean.keys
  come_clean = names_beside v.pages id w v.clean.keys (is_kept.stray id.key free.vacant).1

  pub come_dirty : dirty_in new.pages new.lists ≡ dirty_in v.pages v.lists
  come_dirty = alike _ _ (λ d.
      get_dirty new.pages new.lists d
      ∙ ap (λ (xs : List ℕ). cond (get_or v.lists.is_open d false) (Some xs) None)
      (ap (names_of new.pages) (nodes-with_node_other v.lists laws.whole c id.key len which.Pinned d which.Dirty (λ same. absurd (omega (arith, same))))
      ∙ names_beside v.pages id w (nodes_of d which.Dirty v.lists) (nowhere v.lists.pages.lists id.key off (place d which.Dirty)))
      ∙ sym (get_dirty v.pages v.lists d))

  module _ (room : HasPageRoom v.pages) where
    proper : IsProper new.pages
    proper = proper-with_page v.pages laws.proper id w room free.name free.vacant free.in_range

    same_key : (q : ℕ) (page : Entry (Kept D)) → get v.pages.entries q ≡ Some page → page_of new.pages q page ≡ page_of v.pages q page
    same_key q page is =
        let keyed = laws.proper.keyed q (is_there (get v.pages.entries q) page is) in
        let apart : keyed.0 ≢ id.key = λ same. let both : None ≡ Some q = sym free.vacant ∙ ap (get v.pages.names) (sym same) ∙ keyed.1 in cc in
        let now : key_of new.pages q ≡ keyed.0 = key_found new.pages proper keyed.0 q (get_other v.pages.names id.key id.name keyed.0 apart ∙ keyed.1) in
        let was : key_of v.pages q ≡ keyed.0 = key_found v.pages laws.proper keyed.0 q keyed.1 in
        ap (λ (k : ℕ). record (page_of v.pages q page) { key = k }) (now ∙ sym was)

    pub come_pages : pages_in new.pages ≡ insert (pages_in v.pages) id.name comes
    come_pages =
        mapped_put (page_of new.pages) v.pages.entries id.name w
        ∙ ap (λ (m : Pages). insert m id.name (page_of new.pages id.name w)) (mapped_alike (page_of new.pages) (page_of v.pages) v.pages.entries same_key)
        ∙ ap (λ (k : ℕ). insert (pages_in v.pages) id.name (record comes { key = k })) (key_found new.pages proper id.key id.name (get_same v.pages.names id.key id.name))
