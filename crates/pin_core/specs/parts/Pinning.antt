-- A page that is in memory is pinned, and its client gets its buffer.
use Rattle.std.specs.Prelude.{◌≡◌, ◌+◌, ◌<◌, ◌≤◌, None, Some, true}
use Rattle.std.specs.FinMap.{get}
use Rattle.index_list.specs.Listing.{list_with, stands_in}
use Rattle.page_table.specs.declared.page_id.PageId.{PageId}
use Rattle.page_table.specs.declared.entry.Place.TheVariants as spot
use Rattle.page_table.specs.declared.entry.Mem.TheVariants as mem
use Rattle.page_table.specs.declared.entry.Entry.{Entry}
use Rattle.page_table.specs.Pages.{with_entry}
use Rattle.client_lists.specs.declared.which.Which.TheVariants as which
use Rattle.client_lists.specs.Clients.{Clients, IsOn, IsOpen, longest, with_node, shifted}
use Rattle.clean_evict.specs.Cleans.{Cleans, without}
use Rattle.reservation_tree.specs.Tracker.{IsLive, unused}
use Rattle.reservation_tree.specs.Tree.{charge_of as charge_in, set_charge}
use Rattle.pool_model.specs.Bytes.{bytes_of}
use Rattle.pool_model.specs.State.{shown}
use Rattle.pin_core.specs.declared.kept.Kept.{Kept}
use Rattle.pin_core.specs.declared.parts.Parts.{Parts}
use Rattle.pin_core.specs.parts.Flights.{is_held_mem}

module _ {D : Type 0} where
  -- what the parts need of each other, so that a page that holds its buffer is pinned
  pub record ReadyHere (v : Parts D) (id : PageId) (x : Entry (Kept D)) : Type 0 where
    pub live : get v.pages.names id.key ≡ Some id.name
    pub held : is_held_mem x.mem ≡ true
    pub tracker : IsLive v.tree.trackers x.client
    pub unused : bytes_of v.block_len x.blocks ≤ unused (charge_in v.tree) v.tree.trackers x.client
    pub len : v.block_len ≡ v.arena.block_len

  -- and that it is a dirty one
  pub record ReadyDirty (v : Parts D) (id : PageId) (x : Entry (Kept D)) : Type 0 where
    pub here : ReadyHere v id x
    pub on : IsOn x.client id.key v.lists

  -- or a clean one
  pub record ReadyClean (v : Parts D) (id : PageId) (x : Entry (Kept D)) : Type 0 where
    pub here : ReadyHere v id x
    pub clean : stands_in id.key v.clean.keys ≡ true
    pub opened : IsOpen x.client v.lists
    pub node : id.key < v.lists.pages.lists.nodes
    pub nowhere : list_with id.key v.lists.pages.lists ≡ None
    pub short : bytes_of v.block_len x.blocks ≤ longest

  -- its client has its buffer, by one pin
  abbrev pub with_client : Entry (Kept D) → Entry (Kept D)
  with_client x = record x { place = spot.Pinned 1; mem = mem.Out }

  -- a page was pinned, which left these lists and this list of clean pages
  abbrev pub pinned_here : Clients → Cleans → PageId → Entry (Kept D) → Parts D → Parts D
  pinned_here lists clean id x v = record v {
    pages = with_entry v.pages id (with_client x);
    lists = lists;
    clean = clean;
    tree = set_charge (charge_in v.tree x.client + bytes_of v.arena.block_len x.blocks) x.client v.tree;
    entries = shown (v.entries + 1);
  }

  abbrev pub pinned_dirty : PageId → Entry (Kept D) → Parts D → Parts D
  pinned_dirty id x v = pinned_here (shifted x.client which.Pinned id.key v.lists) v.clean id x v

  abbrev pub pinned_clean : PageId → Entry (Kept D) → Parts D → Parts D
  pinned_clean id x v = pinned_here (with_node x.client which.Pinned id.key (bytes_of v.arena.block_len x.blocks) v.lists) (without id.key v.clean) id x v
