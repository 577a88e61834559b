-- The state of a pool: who is live, and what they have. Numbers and bytes are whole numbers without end.
-- Lists of pages have names, the one that has waited longest first.
use Rattle.std.specs.Prelude.{ℕ, List, [], min, unwrap_or, false, Bool}
use Rattle.std.specs.Ordering.{nat_cmp}
use Rattle.std.specs.FinMap.{FinMap, get, empty}
use Rattle.reservation_tree.specs.Tracker.{Trackers}
use Rattle.reservation_tree.specs.Change.{root_alone}
use Rattle.pool_model.specs.Bytes.{bytes_of}

-- with what a pool is opened: its blocks, their length in bytes, whether stored blocks have marks, the name of its
-- first page, its slots, and the sums of their counts of faults and stores then
pub record Opening : Type 0 where
  pub blocks : ℕ
  pub block_len : ℕ
  pub marked : Bool
  pub first_name : ℕ
  pub slots : ℕ
  pub faults : ℕ
  pub stores : ℕ

-- where a live page is; a pinned one has the number of its pins, a flying one the maker that writes it
pub data Place : Type 0 where
  Pinned : (count : ℕ) → Place
  Dirty : Place
  Flying : (writer : ℕ) → Place
  Loading : Place
  Clean : Place
  Evicted : Place

-- a live page: the key by which the pool finds it, for whom it was made, how many blocks it has, where it is,
-- whether it has slots, and the number of the entry by which its last write began
pub record Page : Type 0 where
  pub key : ℕ
  pub session : ℕ
  pub client : ℕ
  pub blocks : ℕ
  pub place : Place
  pub has_slots : Bool
  pub version : ℕ

-- a live buffer: who is charged for it, and how many blocks it has
pub record Buffer : Type 0 where
  pub client : ℕ
  pub blocks : ℕ

-- a live session: its query tracker, its slots, and for each client the number of the first failure on its
-- pages since the session's last Ask
pub record Session : Type 0 where
  pub query : ℕ
  pub quota : ℕ
  pub failures : FinMap nat_cmp ℕ

abbrev pub Pages : Type 0
Pages = FinMap nat_cmp Page

abbrev pub Buffers : Type 0
Buffers = FinMap nat_cmp Buffer

abbrev pub Sessions : Type 0
Sessions = FinMap nat_cmp Session

-- what is live: trackers and buffers by their numbers, sessions by their makers, pages by their names; each
-- client's dirty pages, and all clean ones, in their order; the next name; and how many entries there were
pub record State : Type 0 where
  pub block_len : ℕ
  pub blocks : ℕ
  pub marked : Bool
  pub trackers : Trackers
  pub sessions : Sessions
  pub pages : Pages
  pub buffers : Buffers
  pub dirty : FinMap nat_cmp (List ℕ)
  pub clean : List ℕ
  pub next_name : ℕ
  pub entries : ℕ

-- a number as a u64 shows it: one that is too great is shown as the greatest
abbrev pub shown : ℕ → ℕ
shown n = min n 18446744073709551615

-- the root alone is live, with all memory as its limit
abbrev pub opened : Opening → State
opened o = record {
  block_len = o.block_len;
  blocks = o.blocks;
  marked = o.marked;
  trackers = root_alone (bytes_of o.block_len o.blocks);
  sessions = empty;
  pages = empty;
  buffers = empty;
  dirty = empty;
  clean = [];
  next_name = o.first_name;
  entries = 0;
}

-- what is read where no page is live
abbrev pub no_page : Page
no_page = record { key = 0; session = 0; client = 0; blocks = 0; place = Evicted; has_slots = false; version = 0 }

abbrev pub page_at : State → ℕ → Page
page_at s p = unwrap_or (get s.pages p) no_page

-- how often a page in this place is pinned
abbrev pub pins_of : Place → ℕ
pins_of (Pinned count) = count
pins_of _ = 0

-- what is read where no buffer is live
abbrev pub no_buffer : Buffer
no_buffer = record { client = 0; blocks = 0 }

abbrev pub buffer_at : State → ℕ → Buffer
buffer_at s f = unwrap_or (get s.buffers f) no_buffer

-- a client's dirty pages, the one that has been dirty longest first
abbrev pub dirty_of : State → ℕ → List ℕ
dirty_of s c = unwrap_or (get s.dirty c) []
