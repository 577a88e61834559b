-- The parts once a page has ended.
use Rattle.std.specs.Prelude.{ℕ, ◌≡◌, ◌+◌, ◌-◌, ◌*◌, ◌<◌, ◌≤◌, true, Option, Some, IsSome, length}
use Rattle.std.specs.FinMap.{get}
use Rattle.block_arena.specs.Memory.{Buffer}
use Rattle.index_list.specs.Listing.{stands_in}
use Rattle.page_table.specs.declared.page_id.PageId.{PageId}
use Rattle.page_table.specs.declared.entry.Place.TheVariants as spot
use Rattle.page_table.specs.declared.entry.Entry.{Entry}
use Rattle.page_table.specs.Pages.{without_page}
use Rattle.client_lists.specs.Clients.{IsOn, without_node}
use Rattle.clean_evict.specs.Eviction.{with_freed}
use Rattle.scratch_dev.specs.Pool.{quota_of, lent_of}
use Rattle.reservation_tree.specs.Tracker.{IsLive}
use Rattle.reservation_tree.specs.Tree.{charge_of as charge_in, set_charge}
use Rattle.buffer_transfer.specs.Buffers.{HasRoom, with_buffer}
use Rattle.pool_model.specs.Bytes.{bytes_of}
use Rattle.pool_model.specs.State.{shown}
use Rattle.pin_core.specs.declared.kept.Kept.{Kept}
use Rattle.pin_core.specs.declared.parts.Parts.{Parts}
use Rattle.pin_core.specs.parts.Keeping.{row_in}
use Rattle.pin_core.specs.calls.Pins.{pins_in}
use Rattle.pin_core.specs.parts.Leavings.{TakesBack, IfHeld, IsGiven, is_listed, lists_left, clean_left, held_in, blocks_in, slots_back}

module _ {D : Type 0} where
  -- the page is live and in no job, and this is its buffer where it is pinned
  pub record CanDestroy (v : Parts D) (id : PageId) (x : Entry (Kept D)) (buf : Option Buffer) : Type 0 where
    pub live : get v.pages.names id.key ≡ Some id.name
    pub there : get v.pages.entries id.name ≡ Some x
    pub given : IsGiven v.arena.block_len x.blocks x.place buf

  -- what the parts need of each other for it
  pub record ReadyDestroy (v : Parts D) (id : PageId) (x : Entry (Kept D)) (buf : Option Buffer) : Type 0 where
    pub number : x.session < length v.slots.quotas
    pub quota : IsSome (quota_of v.slots x.session)
    pub lent : length (row_in x.scratch) ≤ lent_of v.slots x.session
    pub on : is_listed x.place ≡ true → IsOn x.client id.key v.lists
    pub clean : x.place ≡ spot.Clean → stands_in id.key v.clean.keys ≡ true
    pub live : IsLive v.tree.trackers x.client
    pub used : pins_in x.place * bytes_of v.arena.block_len x.blocks ≤ charge_in v.tree x.client
    pub short : bytes_of v.arena.block_len x.blocks ≤ 16777216
    pub len : v.block_len ≡ v.arena.block_len
    pub held : IfHeld (TakesBack v.arena) (held_in x.mem buf)

  -- a page has ended
  abbrev pub destroyed : PageId → Entry (Kept D) → Option Buffer → Parts D → Parts D
  destroyed id x buf v = record v {
    pages = without_page v.pages id;
    lists = lists_left x.place id.key v.lists;
    clean = clean_left x.place id.key v.clean;
    tree = set_charge (charge_in v.tree x.client - pins_in x.place * bytes_of v.arena.block_len x.blocks) x.client v.tree;
    arena = with_freed (blocks_in (held_in x.mem buf)) v.arena;
    slots = slots_back x.session x.scratch v.slots;
    entries = shown (v.entries + 1);
  }

  -- what the parts need of each other for a page's blocks to be a buffer
  pub record ReadyExtract (v : Parts D) (id : PageId) (x : Entry (Kept D)) : Type 0 where
    pub number : x.session < length v.slots.quotas
    pub quota : IsSome (quota_of v.slots x.session)
    pub lent : length (row_in x.scratch) ≤ lent_of v.slots x.session
    pub on : IsOn x.client id.key v.lists
    pub room : HasRoom v.buffers

  -- a page has ended, and its blocks are the buffer of this number
  abbrev pub extracted : PageId → Entry (Kept D) → ℕ → Parts D → Parts D
  extracted id x f v = record v {
    pages = without_page v.pages id;
    lists = without_node id.key v.lists;
    slots = slots_back x.session x.scratch v.slots;
    buffers = with_buffer v.buffers f (record { client = x.client; blocks = x.blocks });
    entries = shown (v.entries + 1);
  }
