-- A page is left with bytes.
use Rattle.std.specs.Prelude.{ℕ, ◌≡◌, ◌+◌, ◌-◌, ◌<◌, ◌≤◌, List, Some, IsSome, Result, Ok, Err, length, false}
use Rattle.std.specs.FinMap.{get}
use Rattle.block_arena.specs.Memory.{Buffer, IsBufferOf}
use Rattle.page_table.specs.declared.page_id.PageId.{PageId}
use Rattle.page_table.specs.declared.entry.Place.TheVariants as spot
use Rattle.page_table.specs.declared.entry.Mem.TheVariants as mem
use Rattle.page_table.specs.declared.entry.Entry.{Entry}
use Rattle.page_table.specs.Pages.{with_entry}
use Rattle.client_lists.specs.declared.which.Which.TheVariants as which
use Rattle.client_lists.specs.Clients.{IsOn, shifted}
use Rattle.scratch_dev.specs.Pool.{Scratch, quota_of}
use Rattle.reservation_tree.specs.Tree.{charge_of as charge_in, set_charge}
use Rattle.reservation_tree.specs.Tracker.{IsLive}
use Rattle.pool_model.specs.Bytes.{bytes_of}
use Rattle.pool_model.specs.declared.entry.Entry.{Entry as Event}
use Rattle.pool_model.specs.declared.event.Event.TheVariants as event
use Rattle.pool_model.specs.State.{State, shown, page_at}
use Rattle.pool_model.specs.Sums.{free_slots}
use Rattle.pin_core.specs.declared.kept.Kept.{Kept}
use Rattle.pin_core.specs.declared.parts.Parts.{Parts}
use Rattle.pin_core.specs.parts.Keeping.{kept_then, slots_then}

-- the page has no slots, and fewer of its session's are free than it needs
pub record LacksSlots (s : State) (p : ℕ) : Type 0 where
  pub none : (page_at s p).has_slots ≡ false
  pub few : free_slots s (page_at s p).session < (page_at s p).blocks

-- what a call of unpin enters
abbrev pub unpin_entry : {A E : Type 0} → Result A E → ℕ → ℕ → List ℕ → Event
unpin_entry (Ok _) maker name bytes = record { maker = maker; event = event.Unpin name bytes }
unpin_entry (Err _) maker name bytes = record { maker = maker; event = event.UnpinRefused name }

module _ {D : Type 0} where
  -- the page is live with one pin, and this is a buffer for it
  pub record CanUnpin (v : Parts D) (id : PageId) (x : Entry (Kept D)) (buf : Buffer) : Type 0 where
    pub live : get v.pages.names id.key ≡ Some id.name
    pub there : get v.pages.entries id.name ≡ Some x
    pub pinned : x.place ≡ spot.Pinned 1
    pub buffer : IsBufferOf x.blocks v.arena.block_len buf

  -- what the parts need of each other for it
  pub record ReadyUnpin (v : Parts D) (id : PageId) (x : Entry (Kept D)) : Type 0 where
    pub number : x.session < length v.slots.quotas
    pub quota : IsSome (quota_of v.slots x.session)
    pub on : IsOn x.client id.key v.lists
    pub live : IsLive v.tree.trackers x.client
    pub used : bytes_of v.block_len x.blocks ≤ charge_in v.tree x.client
    pub len : v.block_len ≡ v.arena.block_len

  abbrev pub left_dirty : Scratch D → Buffer → Entry (Kept D) → Entry (Kept D)
  left_dirty slots buf x = record x { place = spot.Dirty; mem = mem.Held buf; scratch = kept_then slots x.scratch }

  -- a pinned page was left with its buffer
  abbrev pub unpinned : PageId → Entry (Kept D) → Buffer → Parts D → Parts D
  unpinned id x buf v = record v {
    pages = with_entry v.pages id (left_dirty v.slots buf x);
    lists = shifted x.client which.Dirty id.key v.lists;
    tree = set_charge (charge_in v.tree x.client - bytes_of v.arena.block_len x.blocks) x.client v.tree;
    slots = slots_then x.session x.scratch v.slots;
    entries = shown (v.entries + 1);
  }
