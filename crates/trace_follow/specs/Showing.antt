-- What a follower keeps shows the state of a pool: its trackers, its sessions, its pages and buffers, and what waits.
use Rattle.std.specs.Prelude.{◌≡◌, ℕ, ◌<◌, ◌^◌, Some}
use Rattle.std.specs.Ordering.{nat_cmp}
use Rattle.std.specs.FinMap.{FinMap, get}
use Rattle.reservation_tree.specs.Tracker.{Trackers}
use Rattle.pool_model.specs.State.{Session, Sessions, Pages, Buffers, State, dirty_of}
use Rattle.pool_model.specs.Sums.{free_bytes, slots_of}
use Rattle.trace_follow.specs.declared.rows.TrackerRow.{TrackerRow}
use Rattle.trace_follow.specs.declared.rows.Under.{Under}
use Rattle.trace_follow.specs.declared.rows.SessionRow.{SessionRow}
use Rattle.trace_follow.specs.declared.rows.Asked.{Asked}
use Rattle.trace_follow.specs.declared.follower.Follower.{Follower}
use Rattle.trace_follow.specs.Tables.{Mirrors, amount_at}
use Rattle.trace_follow.specs.Queues.{Queue, names_in, queue_at, AreStamped}
use Rattle.trace_follow.specs.Rows.{tracker_row, under_of, under_at, session_row, page_row, buffer_row, load_of, load_at}

-- the live trackers, and what stands right under each number
pub record ShowsTrackers (trackers : FinMap nat_cmp TrackerRow) (unders : FinMap nat_cmp Under) (ts : Trackers) : Type 0 where
  pub rows : Mirrors tracker_row ts trackers
  pub sums : (t : ℕ) → under_at unders t ≡ under_of ts t

-- the live sessions; those that have made a call keep the first failures since
pub record ShowsSessions (sessions : FinMap nat_cmp SessionRow) (asked : FinMap nat_cmp Asked) (live : Sessions) : Type 0 where
  pub rows : Mirrors session_row live sessions
  pub failures : (maker : ℕ) (x : Session) (since : Asked) → get live maker ≡ Some x → get asked maker ≡ Some since → since.failures ≡ x.failures

-- the live pages and buffers, what each client has of them, and the slots in use of each session
pub record ShowsThings (block_len : ℕ) (v : Follower) (live : Pages) (loans : Buffers) : Type 0 where
  pub pages : Mirrors page_row live v.pages
  pub buffers : Mirrors buffer_row loans v.buffers
  pub loads : (c : ℕ) → load_at v.loads c ≡ load_of block_len live loans c
  pub lent : (maker : ℕ) → amount_at v.lent maker ≡ slots_of live maker

-- what waits, each under a stamp of its own
pub record ShowsQueues (dirty : FinMap nat_cmp Queue) (clean : Queue) (stamps : FinMap nat_cmp ℕ) (entries : ℕ) (s : State) : Type 0 where
  pub dirty_names : (c : ℕ) → names_in (queue_at dirty c) ≡ dirty_of s c
  pub clean_names : names_in clean ≡ s.clean
  pub dirty_stamped : (c : ℕ) → AreStamped stamps entries (queue_at dirty c)
  pub clean_stamped : AreStamped stamps entries clean
  pub earlier : (p i : ℕ) → get stamps p ≡ Some i → i < entries
  pub own : (p q i : ℕ) → get stamps p ≡ Some i → get stamps q ≡ Some i → p ≡ q

-- the follower has what is live in this state
pub record Shows (v : Follower) (s : State) : Type 0 where
  pub block_len : v.block_len ≡ s.block_len
  pub trackers : ShowsTrackers v.trackers v.unders s.trackers
  pub sessions : ShowsSessions v.sessions v.asked s.sessions
  pub things : ShowsThings s.block_len v s.pages s.buffers
  pub free : v.free ≡ free_bytes s
  pub queues : ShowsQueues v.dirty v.clean v.stamps v.entries s
  pub next_name : v.next_name ≡ s.next_name
  pub entries : v.entries ≡ s.entries
  pub few : v.entries < 2 ^ 64
