-- The state of the model for which the parts stand, as a function of them.
use Rattle.std.specs.Prelude.{ℕ, suc, zero, ◌==◌, Bool, false, cond, if◌then◌else◌, List, map, Some, None, get_or, length}
use Rattle.std.specs.Ordering.{nat_cmp}
use Rattle.std.specs.FinMap.{FinMap, get, insert, empty, entries, from_entries}
use Rattle.page_table.specs.declared.entry.Place.{Place as Spot}
use Rattle.page_table.specs.declared.entry.Place.TheVariants as spot
use Rattle.page_table.specs.declared.entry.Entry.{Entry}
use Rattle.page_table.specs.Pages.{Pages as Table}
use Rattle.client_lists.specs.declared.which.Which.TheVariants as which
use Rattle.client_lists.specs.Clients.{Clients, nodes_of}
use Rattle.clean_evict.specs.Eviction.{names_of}
use Rattle.buffer_transfer.specs.Buffers.{Book}
use Rattle.session_table.specs.Sessions.{sessions_in}
use Rattle.pool_model.specs.State.{Place, Pinned, Dirty, Flying, Loading, Clean, Evicted, Page, Pages, Buffers, State}
use Rattle.pin_core.specs.declared.kept.Kept.{Kept}
use Rattle.pin_core.specs.declared.parts.Parts.{Parts}
use Rattle.pin_core.specs.parts.Keeping.{has_slots}

-- the same keys, each with what `f` gives of the key and its value
unfoldable pub mapped : {X Y : Type 0} → (ℕ → X → Y) → FinMap nat_cmp X → FinMap nat_cmp Y
mapped f m = from_entries (map (λ e. (e.0, f e.0 e.1)) (entries m))

-- the key is that of the page with this name
abbrev pub has_name : FinMap nat_cmp ℕ → ℕ → ℕ → Bool
has_name names name key = elim (get names key) [ None ↦ false | Some found ↦ found == name ]

-- the key below n of the page with this name
abbrev pub key_below : FinMap nat_cmp ℕ → ℕ → ℕ → ℕ
key_below names name zero = 0
key_below names name (suc n) = if has_name names name n then n else key_below names name n

unfoldable pub key_in : FinMap nat_cmp ℕ → ℕ → ℕ → ℕ
key_in names room name = key_below names name room

abbrev pub place_in : Spot → Place
place_in (spot.Pinned count) = Pinned count
place_in spot.Dirty = Dirty
place_in (spot.Flying writer) = Flying writer
place_in spot.Loading = Loading
place_in spot.Clean = Clean
place_in spot.Evicted = Evicted

-- the buffers of the book
abbrev pub buffers_in : Book → Buffers
buffers_in book = mapped (λ _ lent. record { client = lent.client; blocks = lent.blocks }) book.buffers

module _ {D : Type 0} where
  -- the key of the live page with this name
  abbrev pub key_of : Table (Entry (Kept D)) → ℕ → ℕ
  key_of t name = key_in t.names t.room name

  -- the page of this name, where this is its entry
  abbrev pub page_of : Table (Entry (Kept D)) → ℕ → Entry (Kept D) → Page
  page_of t name e = record { key = key_of t name; session = e.session; client = e.client; blocks = e.blocks; place = place_in e.place; has_slots = has_slots e.scratch; version = e.version }

  abbrev pub pages_in : Table (Entry (Kept D)) → Pages
  pages_in t = mapped (page_of t) t.entries

  -- the names of the dirty pages of each open client whose number is below n
  abbrev pub dirty_below : Table (Entry (Kept D)) → Clients → ℕ → FinMap nat_cmp (List ℕ)
  dirty_below t lists zero = empty
  dirty_below t lists (suc n) =
      cond (get_or lists.is_open n false) (insert (dirty_below t lists n) n (names_of t (nodes_of n which.Dirty lists))) (dirty_below t lists n)

  unfoldable pub dirty_in : Table (Entry (Kept D)) → Clients → FinMap nat_cmp (List ℕ)
  dirty_in t lists = dirty_below t lists (length lists.is_open)

  -- the state of the model for which these parts stand
  abbrev pub state_of : Parts D → State
  state_of v = record {
    block_len = v.arena.block_len;
    blocks = v.arena.blocks;
    marked = v.marked;
    trackers = v.tree.trackers;
    sessions = sessions_in v.seats;
    pages = pages_in v.pages;
    buffers = buffers_in v.buffers;
    dirty = dirty_in v.pages v.lists;
    clean = names_of v.pages v.clean.keys;
    next_name = v.pages.next_name;
    entries = v.entries;
  }
