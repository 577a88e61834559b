-- An evicted page gets blocks, and is loading.
use Rattle.std.specs.Prelude.{ℕ, ◌≡◌, ◌+◌, ◌-◌, ◌≤◌, ◌<◌, ◌++◌, ◌∷◌, [], List, Some, None, Bool, false}
use Rattle.std.specs.FinMap.{get}
use Rattle.block_arena.specs.Memory.{Buffer}
use Rattle.index_list.specs.Listing.{list_with}
use Rattle.page_table.specs.declared.page_id.PageId.{PageId}
use Rattle.page_table.specs.declared.entry.Place.TheVariants as spot
use Rattle.page_table.specs.declared.entry.Mem.TheVariants as mem
use Rattle.page_table.specs.declared.entry.Entry.{Entry}
use Rattle.page_table.specs.Pages.{with_entry}
use Rattle.client_lists.specs.declared.which.Which.TheVariants as which
use Rattle.client_lists.specs.Clients.{IsOpen, longest, with_node}
use Rattle.reservation_tree.specs.Tracker.{IsLive, unused}
use Rattle.reservation_tree.specs.Tree.{charge_of as charge_in, set_charge}
use Rattle.pool_model.specs.Bytes.{bytes_of}
use Rattle.pool_model.specs.State.{shown}
use Rattle.pool_model.specs.declared.entry.Entry.{Entry as Event}
use Rattle.pool_model.specs.declared.event.Event.TheVariants as event
use Rattle.pool_model.specs.Sums.{HasRoom}
use Rattle.pin_core.specs.declared.kept.Kept.{Kept}
use Rattle.pin_core.specs.declared.kept.Kept.TheVariants as kept
use Rattle.pin_core.specs.declared.jobs.ReadJob.{ReadJob}
use Rattle.pin_core.specs.declared.parts.Parts.{Parts}
use Rattle.pin_core.specs.StateOf.{state_of}
use Rattle.pin_core.specs.parts.Keeping.{row_in}
use Rattle.pin_core.specs.Marking.{under_of}
use Rattle.pin_core.specs.Invariant.{IsKeptOf}
use Rattle.pin_core.specs.calls.Evictions.{evictions, names_gone, with_room}

module _ {D : Type 0} where
  -- the page is live and evicted, and its client has room for it
  pub record CanLoad (v : Parts D) (id : PageId) (x : Entry (Kept D)) : Type 0 where
    pub live : get v.pages.names id.key ≡ Some id.name
    pub there : get v.pages.entries id.name ≡ Some x
    pub evicted : x.place ≡ spot.Evicted
    pub room : HasRoom (state_of v) x.client (bytes_of v.arena.block_len x.blocks)

  -- what the parts need of each other, so that the page gets free blocks
  pub record ReadyLoad (v : Parts D) (id : PageId) (x : Entry (Kept D)) : Type 0 where
    pub live : get v.pages.names id.key ≡ Some id.name
    pub room : x.mem ≡ mem.Empty x.blocks
    pub slots : IsKeptOf x.blocks spot.Evicted x.scratch
    pub free : x.blocks ≤ v.arena.free
    pub opened : IsOpen x.client v.lists
    pub node : id.key < v.lists.pages.lists.nodes
    pub nowhere : list_with id.key v.lists.pages.lists ≡ None
    pub short : bytes_of v.block_len x.blocks ≤ longest
    pub tracker : IsLive v.tree.trackers x.client
    pub unused : bytes_of v.block_len x.blocks ≤ unused (charge_in v.tree) v.tree.trackers x.client
    pub len : v.block_len ≡ v.arena.block_len

  abbrev pub loading : Entry (Kept D) → Entry (Kept D)
  loading x = record x { place = spot.Loading; mem = mem.Out; scratch = kept.Out }

  -- an evicted page got free blocks
  abbrev pub loaded : PageId → Entry (Kept D) → Parts D → Parts D
  loaded id x v = record v {
    pages = with_entry v.pages id (loading x);
    lists = with_node x.client which.Pinned id.key (bytes_of v.arena.block_len x.blocks) v.lists;
    tree = set_charge (charge_in v.tree x.client + bytes_of v.arena.block_len x.blocks) x.client v.tree;
    arena = record v.arena { free = v.arena.free - x.blocks };
    entries = shown (v.entries + 1);
  }

  -- clean pages made room for them
  abbrev pub loaded_over : PageId → Entry (Kept D) → Parts D → Parts D
  loaded_over id x v = loaded id x (with_room x.blocks v)

  -- the page with its slots and this buffer
  abbrev pub read_job : Bool → PageId → Entry (Kept D) → Buffer → ReadJob D
  read_job marked id x buf = record { id = id; client = x.client; under = under_of marked x.version; buf = buf; row = row_in x.scratch; failed = false; stale = None }

  -- what a load enters: the evictions that make room, and then the load
  abbrev pub load_entries : ℕ → ℕ → ℕ → Parts D → List Event
  load_entries maker name blocks v = evictions maker (names_gone blocks v) ++ record { maker = maker; event = event.PinLoad name } ∷ []
