-- What each legal history keeps, in a form that one entry after the other keeps.
use Rattle.std.specs.Prelude.{◌≡◌, ℕ, ◌+◌, ◌≤◌, ◌<◌, Some}
use Rattle.std.specs.Bool.{⊤}
use Rattle.std.specs.FinMap.{get}
use Rattle.reservation_tree.specs.Tracker.{Tracker, Trackers, reservation_of, limit_of, FitsTree, IsTree}
use Rattle.pool_model.specs.Bytes.{bytes_of}
use Rattle.pool_model.specs.State.{Place, Pinned, Page, Pages, Buffer, Buffers, Session, Sessions, State}
use Rattle.pool_model.specs.Sums.{times_held, is_in_memory, once, bytes_in, pages_for, buffers_for, buffer_bytes, IsClient, memory}

-- a live tracker right under the root
pub record IsQuery (ts : Trackers) (t : ℕ) : Type 0 where
  pub tracker : Tracker
  pub lives : get ts t ≡ Some tracker
  pub under : tracker.parent ≡ Some 0

-- the tree of three levels under a root with this limit, and the seats of the sessions in it
pub record IsSeated (bytes : ℕ) (ts : Trackers) (sessions : Sessions) : Type 0 where
  pub tree : IsTree ts
  pub children_fit : FitsTree (λ _. 0) ts
  pub low : (t : ℕ) (x : Tracker) → get ts t ≡ Some x → x.depth ≤ 2
  pub top : limit_of ts 0 ≡ bytes
  pub seats : (maker : ℕ) (x : Session) → get sessions maker ≡ Some x → IsQuery ts x.query
  pub apart : (m n : ℕ) (x y : Session) → get sessions m ≡ Some x → get sessions n ≡ Some y → x.query ≡ y.query → m ≡ n

-- a pinned page has a pin
abbrev pub HasPins : Place → Type 0
HasPins (Pinned count) = 1 ≤ count
HasPins _ = ⊤

-- pages and buffers are clients', each page has an older name than the next one, and a pin where it is pinned
pub record IsOwned (ts : Trackers) (pages : Pages) (buffers : Buffers) (next_name : ℕ) : Type 0 where
  pub page_clients : (p : ℕ) (x : Page) → get pages p ≡ Some x → IsClient ts x.client
  pub buffer_clients : (f : ℕ) (x : Buffer) → get buffers f ≡ Some x → IsClient ts x.client
  pub names : (p : ℕ) (x : Page) → get pages p ≡ Some x → p < next_name
  pub pins : (p : ℕ) (x : Page) → get pages p ≡ Some x → HasPins x.place

-- what each tracker holds fits its reservation, and all blocks in use fit the memory
pub record IsWithin (block_len blocks : ℕ) (ts : Trackers) (pages : Pages) (buffers : Buffers) : Type 0 where
  pub held : (t : ℕ) → pages_for times_held block_len pages t + buffers_for block_len buffers t ≤ reservation_of ts t
  pub memory : bytes_in (once is_in_memory) block_len pages + buffer_bytes block_len buffers ≤ bytes_of block_len blocks

-- the tree and its seats; whose things are; and the sums
pub record IsSound (s : State) : Type 0 where
  pub seated : IsSeated (memory s) s.trackers s.sessions
  pub owned : IsOwned s.trackers s.pages s.buffers s.next_name
  pub within : IsWithin s.block_len s.blocks s.trackers s.pages s.buffers
