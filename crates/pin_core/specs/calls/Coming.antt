-- Pages and buffers come.
use Rattle.std.specs.Prelude.{ℕ, ◌≡◌, ◌+◌, ◌-◌, ◌<◌, ◌≤◌, ◌++◌, List, [], ◌∷◌, replicate}
use Rattle.block_arena.specs.Memory.{Buffer}
use Rattle.buffer_transfer.specs.Buffers.{HasRoom as HasBufferRoom, with_buffer}
use Rattle.client_lists.specs.declared.which.Which.TheVariants as which
use Rattle.client_lists.specs.Clients.{IsOpen, longest, with_node}
use Rattle.page_table.specs.declared.page_id.PageId.{PageId}
use Rattle.page_table.specs.declared.entry.Mem.TheVariants as mem
use Rattle.page_table.specs.Pages.{IsSpent, HasRoom as HasPageRoom, new_entry, with_page}
use Rattle.reservation_tree.specs.Tracker.{IsLive, unused}
use Rattle.reservation_tree.specs.Tree.{charge_of as charge_in}
use Rattle.pool_model.specs.declared.entry.Entry.{Entry as Event}
use Rattle.pool_model.specs.declared.event.Event.TheVariants as event
use Rattle.pool_model.specs.Bytes.{bytes_of}
use Rattle.pool_model.specs.Owning.{IsClientOf}
use Rattle.pool_model.specs.State.{State, shown}
use Rattle.pool_model.specs.Sums.{HasRoom, length_of}
use Rattle.store_api.specs.Tokens.{ClientToken}
use Rattle.pin_core.specs.declared.kept.Kept.TheVariants as kept
use Rattle.pin_core.specs.declared.parts.Parts.{Parts}
use Rattle.pin_core.specs.Invariant.{NoneStray}
use Rattle.pin_core.specs.calls.Evictions.{evictions, names_gone}
use Rattle.pin_core.specs.calls.Lending.{charged_more}

-- the client is live, and can hold so many blocks more, 1 to 256
pub record CanHold (s : State) (c : ClientToken) (blocks : ℕ) : Type 0 where
  pub client : IsClientOf s c.session c.tracker
  pub some : 0 < blocks
  pub few : blocks ≤ 256
  pub room : HasRoom s c.tracker (length_of s blocks)

-- so many blocks of this length, all bytes zero
abbrev pub zeros : ℕ → ℕ → Buffer
zeros blocks len = record { block_len = len; blocks = blocks; bytes = replicate (bytes_of len blocks) 0 }

abbrev pub alloc_entry : ClientToken → ℕ → ℕ → Event
alloc_entry c f blocks = record { maker = c.session; event = event.Alloc f c.tracker blocks }

abbrev pub create_entry : ClientToken → PageId → ℕ → Event
create_entry c id blocks = record { maker = c.session; event = event.Create id.name c.tracker blocks id.key }

module _ {D : Type 0} where
  -- as few evictions as leave so many blocks free, and then the buffer that comes
  abbrev pub alloc_entries : ClientToken → ℕ → ℕ → Parts D → List Event
  alloc_entries c f blocks v = evictions c.session (names_gone blocks v) ++ alloc_entry c f blocks ∷ []

  -- and the page that comes
  abbrev pub create_entries : ClientToken → PageId → ℕ → Parts D → List Event
  create_entries c id blocks v = evictions c.session (names_gone blocks v) ++ create_entry c id blocks ∷ []

  -- what the parts need of each other for a buffer
  pub record ReadyLend (v : Parts D) (c blocks : ℕ) : Type 0 where
    pub room : HasBufferRoom v.buffers
    pub free : blocks ≤ v.arena.free
    pub tracker : IsLive v.tree.trackers c
    pub unused : bytes_of v.arena.block_len blocks ≤ unused (charge_in v.tree) v.tree.trackers c
    pub len : v.block_len ≡ v.arena.block_len

  -- a buffer of this number came
  abbrev pub lent : ℕ → ℕ → ℕ → Parts D → Parts D
  lent f c blocks v = record v {
    buffers = with_buffer v.buffers f (record { client = c; blocks = blocks });
    tree = charged_more (bytes_of v.arena.block_len blocks) c v.tree;
    arena = record v.arena { free = v.arena.free - blocks };
    entries = shown (v.entries + 1);
  }

  -- what the parts need of each other for a page
  pub record ReadyCreate (v : Parts D) (c blocks : ℕ) : Type 0 where
    pub left : IsSpent v.pages → ⊥
    pub room : HasPageRoom v.pages
    pub free : blocks ≤ v.arena.free
    pub opened : IsOpen c v.lists
    pub nodes : v.pages.room ≤ v.lists.pages.lists.nodes
    pub stray : NoneStray v
    pub short : bytes_of v.arena.block_len blocks ≤ longest
    pub tracker : IsLive v.tree.trackers c
    pub unused : bytes_of v.arena.block_len blocks ≤ unused (charge_in v.tree) v.tree.trackers c
    pub len : v.block_len ≡ v.arena.block_len

  -- a page came, pinned, with room for its slots
  abbrev pub created : PageId → ℕ → ℕ → ℕ → Parts D → Parts D
  created id session c blocks v = record v {
    pages = with_page v.pages id (new_entry id.name session c blocks mem.Out (kept.Empty blocks));
    lists = with_node c which.Pinned id.key (bytes_of v.arena.block_len blocks) v.lists;
    tree = charged_more (bytes_of v.arena.block_len blocks) c v.tree;
    arena = record v.arena { free = v.arena.free - blocks };
    entries = shown (v.entries + 1);
  }
