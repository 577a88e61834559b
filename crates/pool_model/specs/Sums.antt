-- What clients hold, what is in memory, and what fits. In bytes.
use Rattle.std.specs.Prelude.{◌≡◌, ℕ, ◌+◌, ◌-◌, ◌*◌, ◌≤◌, ◌==◌, Bool, true, false, Some, option_map, unwrap_or}
use Rattle.std.specs.FinMap.{get}
use Rattle.reservation_tree.specs.Total.{total}
use Rattle.reservation_tree.specs.Tracker.{Tracker, Trackers, IsLive, reservation_of, depth_of}
use Rattle.pool_model.specs.Bytes.{bytes_of, only_if}
use Rattle.pool_model.specs.State.{Place, Pinned, Loading, Clean, Evicted, Page, Pages, Buffers, Session, State}

-- how often a page in this place is charged to its client: once for each pin, and once while it loads
abbrev pub times_charged : Place → ℕ
times_charged (Pinned count) = count
times_charged Loading = 1
times_charged _ = 0

-- how often its client holds it: as often as it is charged, and once while it isn't written yet
abbrev pub times_held : Place → ℕ
times_held (Pinned count) = count
times_held Clean = 0
times_held Evicted = 0
times_held _ = 1

abbrev pub is_clean : Place → Bool
is_clean Clean = true
is_clean _ = false

-- pages that have blocks
abbrev pub is_in_memory : Place → Bool
is_in_memory Evicted = false
is_in_memory _ = true

-- once where this holds of the place, and else not at all
abbrev pub once : (Place → Bool) → Place → ℕ
once holds place = only_if (holds place) 1

-- the bytes of so many blocks of the pool
abbrev pub length_of : State → ℕ → ℕ
length_of s blocks = bytes_of s.block_len blocks

-- a page's bytes, as often as its place counts
abbrev pub page_bytes : (Place → ℕ) → ℕ → Page → ℕ
page_bytes times block_len x = times x.place * bytes_of block_len x.blocks

-- the bytes of all pages, each as often as its place counts
unfoldable pub bytes_in : (Place → ℕ) → ℕ → Pages → ℕ
bytes_in times block_len pages = total (λ _ x. page_bytes times block_len x) pages

-- those of one client's pages
unfoldable pub pages_for : (Place → ℕ) → ℕ → Pages → ℕ → ℕ
pages_for times block_len pages c = total (λ _ x. only_if (x.client == c) (page_bytes times block_len x)) pages

-- and those of its buffers
unfoldable pub buffers_for : ℕ → Buffers → ℕ → ℕ
buffers_for block_len buffers c = total (λ _ x. only_if (x.client == c) (bytes_of block_len x.blocks)) buffers

-- the bytes of all buffers
unfoldable pub buffer_bytes : ℕ → Buffers → ℕ
buffer_bytes block_len buffers = total (λ _ x. bytes_of block_len x.blocks) buffers

-- a tracker's pinned pages, each once for each pin, its loading pages, and its buffers
abbrev pub charge_of : State → ℕ → ℕ
charge_of s t = pages_for times_charged s.block_len s.pages t + buffers_for s.block_len s.buffers t

-- and its dirty and flying pages too
abbrev pub held_by : State → ℕ → ℕ
held_by s t = pages_for times_held s.block_len s.pages t + buffers_for s.block_len s.buffers t

-- the client can hold so much more
abbrev pub HasRoom : State → ℕ → ℕ → Type 0
HasRoom s c bytes = held_by s c + bytes ≤ reservation_of s.trackers c

-- clients stand two levels under the root
abbrev pub is_client : Tracker → Bool
is_client x = x.depth == 2

-- the tracker is a live client's
pub record IsClient (ts : Trackers) (c : ℕ) : Type 0 where
  pub live : IsLive ts c
  pub deep : depth_of ts c ≡ 2

-- so many for each client, together
unfoldable pub over_clients : (ℕ → ℕ) → Trackers → ℕ
over_clients amount ts = total (λ c x. only_if (is_client x) (amount c)) ts

abbrev pub clean_bytes : State → ℕ
clean_bytes s = bytes_in (once is_clean) s.block_len s.pages

-- all memory of the pool
abbrev pub memory : State → ℕ
memory s = length_of s s.blocks

-- all pages that have blocks, each once however often it is pinned, and all buffers
abbrev pub bytes_in_memory : State → ℕ
bytes_in_memory s = bytes_in (once is_in_memory) s.block_len s.pages + buffer_bytes s.block_len s.buffers

abbrev pub free_bytes : State → ℕ
free_bytes s = memory s - bytes_in_memory s

-- what each client holds fits its reservation
abbrev pub FitsClients : State → Type 0
FitsClients s = (c : ℕ) → IsClient s.trackers c → held_by s c ≤ reservation_of s.trackers c

-- what a client holds of one page, by all its pins, fits its reservation
abbrev pub FitsPages : State → Type 0
FitsPages s = (p : ℕ) (x : Page) → get s.pages p ≡ Some x → page_bytes times_held s.block_len x ≤ reservation_of s.trackers x.client

-- what is in memory fits the pool
abbrev pub FitsMemory : State → Type 0
FitsMemory s = bytes_in_memory s ≤ memory s

-- the blocks of a session's pages that have slots
unfoldable pub slots_of : Pages → ℕ → ℕ
slots_of pages session = total (λ _ x. only_if (x.session == session) (only_if x.has_slots x.blocks)) pages

-- what is free of a session's quota, in slots
abbrev pub free_slots : State → ℕ → ℕ
free_slots s session = unwrap_or (option_map (λ x. x.quota) (get s.sessions session)) 0 - slots_of s.pages session

-- the slots in use of each live session are within its quota
abbrev pub FitsQuotas : State → Type 0
FitsQuotas s = (maker : ℕ) (x : Session) → get s.sessions maker ≡ Some x → slots_of s.pages maker ≤ x.quota
