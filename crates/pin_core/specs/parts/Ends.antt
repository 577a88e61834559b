-- Pages come back from a job, by the parts.
use Rattle.std.specs.Prelude.{◌≡◌, ◌+◌, ◌-◌, List, Option, Some, None, Bool, true, false, length}
use Rattle.std.specs.FinMap.{get}
use Rattle.block_arena.specs.Memory.{Buffer, IsBufferOf}
use Rattle.page_table.specs.declared.page_id.PageId.{PageId}
use Rattle.page_table.specs.declared.entry.Place.{Place as Spot}
use Rattle.page_table.specs.declared.entry.Place.TheVariants as spot
use Rattle.page_table.specs.declared.entry.Mem.TheVariants as mem
use Rattle.page_table.specs.declared.entry.Entry.{Entry}
use Rattle.page_table.specs.Pages.{with_entry}
use Rattle.client_lists.specs.declared.which.Which.TheVariants as which
use Rattle.client_lists.specs.Clients.{without_node, shifted}
use Rattle.clean_evict.specs.Cleans.{pushed}
use Rattle.reservation_tree.specs.Tree.{charge_of as charge_in, set_charge}
use Rattle.session_table.specs.Seats.{changed, noted}
use Rattle.pool_model.specs.Bytes.{bytes_of}
use Rattle.pool_model.specs.State.{shown}
use Rattle.pin_core.specs.declared.kept.Kept.{Kept}
use Rattle.pin_core.specs.declared.parts.Parts.{Parts}
use Rattle.pin_core.specs.declared.jobs.Stale.{Stale}
use Rattle.pin_core.specs.parts.Flights.{put_back}

module _ {D : Type 0} where
  -- the page is in this place, and these are its buffer and its slots
  pub record ComesBack (v : Parts D) (at : Spot) (id : PageId) (x : Entry (Kept D)) (buf : Buffer) (row : List D) : Type 0 where
    pub live : get v.pages.names id.key ≡ Some id.name
    pub there : get v.pages.entries id.name ≡ Some x
    pub place : x.place ≡ at
    pub buffer : IsBufferOf x.blocks v.arena.block_len buf
    pub slots : length row ≡ x.blocks

  abbrev pub back_clean : Buffer → List D → Entry (Kept D) → Entry (Kept D)
  back_clean buf row x = put_back spot.Clean (mem.Held buf) row x

  abbrev pub back_dirty : Buffer → List D → Entry (Kept D) → Entry (Kept D)
  back_dirty buf row x = put_back spot.Dirty (mem.Held buf) row x

  abbrev pub back_pinned : List D → Entry (Kept D) → Entry (Kept D)
  back_pinned row x = put_back (spot.Pinned 1) mem.Out row x

  abbrev pub back_evicted : List D → Entry (Kept D) → Entry (Kept D)
  back_evicted row x = put_back spot.Evicted (mem.Empty x.blocks) row x

  -- it was written
  abbrev pub written : PageId → Entry (Kept D) → Buffer → List D → Parts D → Parts D
  written id x buf row v = record v {
    pages = with_entry v.pages id (back_clean buf row x);
    lists = without_node id.key v.lists;
    clean = pushed id.key v.clean;
    entries = shown (v.entries + 1);
  }

  -- the write failed
  abbrev pub unwritten : PageId → Entry (Kept D) → Buffer → List D → Parts D → Parts D
  unwritten id x buf row v = record v {
    pages = with_entry v.pages id (back_dirty buf row x);
    lists = shifted x.client which.Dirty id.key v.lists;
    seats = changed x.session (noted x.client v.entries) v.seats;
    entries = shown (v.entries + 1);
  }

  -- it was read
  abbrev pub read : PageId → Entry (Kept D) → List D → Parts D → Parts D
  read id x row v = record v { pages = with_entry v.pages id (back_pinned row x); entries = shown (v.entries + 1) }

  -- the read failed
  abbrev pub unread : PageId → Entry (Kept D) → List D → Parts D → Parts D
  unread id x row v = record v {
    pages = with_entry v.pages id (back_evicted row x);
    lists = without_node id.key v.lists;
    tree = set_charge (charge_in v.tree x.client - bytes_of v.arena.block_len x.blocks) x.client v.tree;
    arena = record v.arena { free = v.arena.free + x.blocks };
    seats = changed x.session (noted x.client v.entries) v.seats;
    entries = shown (v.entries + 1);
  }

  -- the load gave another mark
  abbrev pub outdated : PageId → Entry (Kept D) → List D → Parts D → Parts D
  outdated id x row v = record v {
    pages = with_entry v.pages id (back_evicted row x);
    lists = without_node id.key v.lists;
    tree = set_charge (charge_in v.tree x.client - bytes_of v.arena.block_len x.blocks) x.client v.tree;
    arena = record v.arena { free = v.arena.free + x.blocks };
    entries = shown (v.entries + 1);
  }

  abbrev pub write_ended : Bool → PageId → Entry (Kept D) → Buffer → List D → Parts D → Parts D
  write_ended true id x buf row v = unwritten id x buf row v
  write_ended false id x buf row v = written id x buf row v

  abbrev pub read_ended : Bool → Option Stale → PageId → Entry (Kept D) → List D → Parts D → Parts D
  read_ended true stale id x row v = unread id x row v
  read_ended false (Some stale) id x row v = outdated id x row v
  read_ended false None id x row v = read id x row v
