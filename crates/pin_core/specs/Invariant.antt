-- What a pool keeps true of its parts between calls.
use Rattle.std.specs.Prelude.{ℕ, ◌≡◌, ◌≤◌, ◌<◌, ◌+◌, ◌==◌, Bool, true, false, List, Option, Some, None, length, get_or}
use Rattle.std.specs.Bool.{⊤}
use Rattle.std.specs.FinMap.{get, len}
use Rattle.block_arena.specs.Memory.{IsBufferOf}
use Rattle.index_list.specs.Listing.{list_with, stands_in}
use Rattle.page_table.specs.declared.entry.Place.{Place as Spot}
use Rattle.page_table.specs.declared.entry.Place.TheVariants as spot
use Rattle.page_table.specs.declared.entry.Mem.{Mem}
use Rattle.page_table.specs.declared.entry.Mem.TheVariants as mem
use Rattle.page_table.specs.declared.entry.Entry.{Entry}
use Rattle.client_lists.specs.declared.which.Which.TheVariants as which
use Rattle.client_lists.specs.Clients.{IsOpen, place, len_of}
use Rattle.scratch_dev.specs.declared.quota.Quota.{Quota}
use Rattle.scratch_dev.specs.Pool.{quota_of}
use Rattle.buffer_transfer.specs.declared.lent.Lent.{Lent}
use Rattle.session_table.specs.Seats.{Seat, seat_of, trackers_of, tracker_count}
use Rattle.reservation_tree.specs.Total.{total}
use Rattle.reservation_tree.specs.Tracker.{Trackers}
use Rattle.reservation_tree.specs.Tree.{charge_of as charge_in}
use Rattle.pool_model.specs.declared.entry.Entry.{Entry as Event}
use Rattle.pool_model.specs.Bytes.{bytes_of, only_if}
use Rattle.pool_model.specs.State.{Opening, Pages, Session, State}
use Rattle.pool_model.specs.Sums.{charge_of, slots_of, bytes_in_memory, memory, is_client}
use Rattle.pool_model.specs.Legal.{IsLegal, state_after}
use Rattle.pin_core.specs.declared.kept.Kept.{Kept}
use Rattle.pin_core.specs.declared.kept.Kept.TheVariants as kept
use Rattle.pin_core.specs.declared.parts.Parts.{Parts}
use Rattle.pin_core.specs.StateOf.{pages_in, state_of}

-- the list on which a page of this client stands, if any
abbrev pub list_at : ℕ → Spot → Option ℕ
list_at c (spot.Pinned count) = Some (place c which.Pinned)
list_at c spot.Dirty = Some (place c which.Dirty)
list_at c (spot.Flying writer) = Some (place c which.Flying)
list_at c spot.Loading = Some (place c which.Pinned)
list_at c spot.Clean = None
list_at c spot.Evicted = None

abbrev pub is_clean_spot : Spot → Bool
is_clean_spot spot.Clean = true
is_clean_spot _ = false

abbrev pub is_pinned_spot : Spot → Bool
is_pinned_spot (spot.Pinned count) = true
is_pinned_spot _ = false

-- what is in a job isn't in the table
abbrev pub is_home : Spot → Bool
is_home (spot.Flying writer) = false
is_home spot.Loading = false
is_home _ = true

abbrev pub IsHeld : ℕ → ℕ → Mem → Type 0
IsHeld len blocks (mem.Held buf) = IsBufferOf blocks len buf
IsHeld len blocks _ = ⊥

-- a dirty or clean page has its buffer, an evicted one the room for it; else it is with its client, or in a job
abbrev pub IsMem : ℕ → ℕ → Spot → Mem → Type 0
IsMem len blocks (spot.Pinned count) m = m ≡ mem.Out
IsMem len blocks spot.Dirty m = IsHeld len blocks m
IsMem len blocks (spot.Flying writer) m = m ≡ mem.Out
IsMem len blocks spot.Loading m = m ≡ mem.Out
IsMem len blocks spot.Clean m = IsHeld len blocks m
IsMem len blocks spot.Evicted m = m ≡ mem.Empty blocks

-- there is a history of which this is the state
pub record HasHistory (s : State) : Type 0 where
  pub opening : Opening
  pub history : List Event
  pub legal : IsLegal opening history
  pub after : s ≡ state_after opening history

-- an open quota is a live session's, and its lent slots are those of the session's pages
abbrev pub IsQuota : Option Session → Option Quota → ℕ → Type 0
IsQuota None None lent = ⊤
IsQuota (Some x) (Some quota) lent = (quota.lent ≡ lent) × (quota.free + lent ≡ x.quota)
IsQuota _ _ lent = ⊥

-- the tracker is live, and stands right under this one
abbrev pub hangs_under : Trackers → ℕ → ℕ → Bool
hangs_under ts parent t = elim (get ts t) [ None ↦ false | Some x ↦ elim x.parent [ None ↦ false | Some p ↦ p == parent ] ]

-- the tracker is live, and a client's
abbrev pub is_live_client : Trackers → ℕ → Bool
is_live_client ts t = elim (get ts t) [ None ↦ false | Some x ↦ is_client x ]

-- the slots of all pages
abbrev pub slots_in : Pages → ℕ
slots_in pages = total (λ _ x. only_if x.has_slots x.blocks) pages

module _ {D : Type 0} where
  -- a page keeps slots, or, before its first unpin, the room for them
  abbrev pub IsKeptOf : ℕ → Spot → Kept D → Type 0
  IsKeptOf blocks at (kept.Empty shell) = (is_pinned_spot at ≡ true) × (shell ≡ blocks)
  IsKeptOf blocks at (kept.Held row) = (is_home at ≡ true) × (length row ≡ blocks)
  IsKeptOf blocks at kept.Out = is_home at ≡ false

  -- a live page stands where its place says, and has what its place says
  pub record IsPlaced (v : Parts D) (key : ℕ) (page : Entry (Kept D)) : Type 0 where
    pub on : list_with key v.lists.pages.lists ≡ list_at page.client page.place
    pub opened : IsOpen page.client v.lists
    pub size : len_of key v.lists.pages ≡ bytes_of v.arena.block_len page.blocks
    pub clean : stands_in key v.clean.keys ≡ is_clean_spot page.place
    pub blocks : (0 < page.blocks) × (page.blocks ≤ 256)
    pub mem : IsMem v.arena.block_len page.blocks page.place page.mem
    pub kept : IsKeptOf page.blocks page.place page.scratch

  abbrev pub AllPlaced : Parts D → Type 0
  AllPlaced v = (key name : ℕ) (page : Entry (Kept D)) → get v.pages.names key ≡ Some name → get v.pages.entries name ≡ Some page → IsPlaced v key page

  -- a key of no page stands nowhere
  abbrev pub NoneStray : Parts D → Type 0
  NoneStray v = (key : ℕ) → get v.pages.names key ≡ None → (list_with key v.lists.pages.lists ≡ None) × (stands_in key v.clean.keys ≡ false)

  -- the numbers that the code keeps are the sums of the model; and there is room for as many pages as blocks and
  -- slots
  pub record AreCounted (v : Parts D) : Type 0 where
    pub charges : (t : ℕ) → charge_in v.tree t ≡ charge_of (state_of v) t
    pub free : bytes_of v.arena.block_len v.arena.free + bytes_in_memory (state_of v) ≡ memory (state_of v)
    pub quotas : (q : ℕ) → IsQuota (get (state_of v).sessions q) (quota_of v.slots q) (slots_of (pages_in v.pages) q)
    pub room : v.arena.blocks + (length v.slots.free + slots_in (pages_in v.pages)) ≡ v.pages.room

  -- a session's clients are the live trackers under its query tracker; each has its lists open
  pub record AreSeated (v : Parts D) : Type 0 where
    pub clients : (s : ℕ) (x : Seat) → seat_of v.seats s ≡ Some x → (t : ℕ) → stands_in t (trackers_of x.members) ≡ hangs_under v.tree.trackers x.query t
    pub opens : (c : ℕ) → get_or v.lists.is_open c false ≡ is_live_client v.tree.trackers c
    pub few : len v.tree.trackers ≡ 1 + tracker_count v.seats

  -- a live buffer has 1 to 256 blocks
  abbrev pub AreLent : Parts D → Type 0
  AreLent v = (f : ℕ) (x : Lent) → get v.buffers.buffers f ≡ Some x → (0 < x.blocks) × (x.blocks ≤ 256)

  -- numbers that never change
  pub record IsSized (v : Parts D) : Type 0 where
    pub len : v.block_len ≡ v.arena.block_len
    pub some : 0 < v.arena.block_len
    pub short : v.arena.block_len ≤ 65536
    pub memory : bytes_of v.arena.block_len v.arena.blocks ≤ 2147483648
    pub clients : length v.lists.is_open ≡ 4096
    pub sessions : length v.slots.quotas ≡ 240
    pub nodes : v.pages.room ≤ v.lists.pages.lists.nodes
    pub cleans : v.pages.room ≤ v.clean.nodes
    pub book : v.buffers.room ≡ v.arena.blocks

  -- what holds of the parts between calls
  pub record IsKept (v : Parts D) : Type 0 where
    pub legal : HasHistory (state_of v)
    pub placed : AllPlaced v
    pub stray : NoneStray v
    pub counted : AreCounted v
    pub seated : AreSeated v
    pub lent : AreLent v
    pub sized : IsSized v
