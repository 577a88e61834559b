-- The parts of what entries do. Each leaves all that it doesn't name.
use Rattle.std.specs.Prelude.{ℕ, ◌+◌, ◌==◌, List, [], ◌∷◌, ◌++◌, filter, not, false, true, if◌then◌else◌, Some, None}
use Rattle.std.specs.Ordering.{nat_cmp}
use Rattle.std.specs.FinMap.{FinMap, get, insert, remove, empty}
use Rattle.reservation_tree.specs.Tracker.{Trackers}
use Rattle.reservation_tree.specs.Change.{with_child}
use Rattle.pool_model.specs.State.{Place, Pinned, Flying, Buffer, Sessions, State, pins_of, page_at, dirty_of}

-- the names but this one, in their order
abbrev pub without : ℕ → List ℕ → List ℕ
without p names = filter (λ q. not (q == p)) names

abbrev pub with_trackers : Trackers → State → State
with_trackers ts s = record s { trackers = ts }

-- the page goes to another place
abbrev pub put_in : Place → ℕ → State → State
put_in place p s = record s { pages = insert s.pages p (record (page_at s p) { place = place }) }

-- the page is written from now on, and the number of this entry is its version
abbrev pub put_flying : ℕ → ℕ → State → State
put_flying writer p s = record s { pages = insert s.pages p (record (page_at s p) { place = Flying writer; version = s.entries }) }

-- the pins of a page
abbrev pub pins_at : State → ℕ → ℕ
pins_at s p = pins_of (page_at s p).place

-- the page has slots from now on
abbrev pub give_slots : ℕ → State → State
give_slots p s = record s { pages = insert s.pages p (record (page_at s p) { has_slots = true }) }

abbrev pub end_page : ℕ → State → State
end_page p s = record s { pages = remove s.pages p }

-- the page is the newest of its client's dirty ones
abbrev pub queue_dirty : ℕ → State → State
queue_dirty p s = record s { dirty = insert s.dirty (page_at s p).client (dirty_of s (page_at s p).client ++ p ∷ []) }

-- the page waits neither among the dirty ones nor among the clean ones
abbrev pub unqueue : ℕ → State → State
unqueue p s = record s {
  dirty = insert s.dirty (page_at s p).client (without p (dirty_of s (page_at s p).client));
  clean = without p s.clean;
}

abbrev pub queue_clean : ℕ → State → State
queue_clean p s = record s { clean = s.clean ++ p ∷ [] }

-- a session's numbers of first failures change
abbrev pub with_failures : (FinMap nat_cmp ℕ → FinMap nat_cmp ℕ) → ℕ → Sessions → Sessions
with_failures change maker sessions =
    elim (get sessions maker) [ None ↦ sessions | Some x ↦ insert sessions maker (record x { failures = change x.failures }) ]

-- the first number stays
abbrev pub keep_first : ℕ → ℕ → FinMap nat_cmp ℕ → FinMap nat_cmp ℕ
keep_first c number failures = elim (get failures c) [ None ↦ insert failures c number | Some first ↦ failures ]

-- a failure on this page is noted, with the number of this entry
abbrev pub note_failure : ℕ → State → State
note_failure p s = record s { sessions = with_failures (keep_first (page_at s p).client s.entries) (page_at s p).session s.sessions }

-- a session forgets the failures of its clients
abbrev pub forget_failures : ℕ → State → State
forget_failures maker s = record s { sessions = with_failures (λ failures. empty) maker s.sessions }

abbrev pub open_session : ℕ → ℕ → ℕ → ℕ → State → State
open_session maker t limit quota s = record s {
  trackers = with_child t 0 limit s.trackers;
  sessions = insert s.sessions maker (record { query = t; quota = quota; failures = empty });
}

abbrev pub add_client : ℕ → ℕ → ℕ → State → State
add_client t parent limit s = record s { trackers = with_child t parent limit s.trackers; dirty = insert s.dirty t [] }

-- with its query tracker a session ends; with a client's tracker what was kept of the client
abbrev pub without_tracker : ℕ → ℕ → Sessions → Sessions
without_tracker maker t sessions = elim (get sessions maker) [
  | None ↦ sessions
  | Some x ↦ if x.query == t then remove sessions maker else insert sessions maker (record x { failures = remove x.failures t })
]

abbrev pub close_tracker : ℕ → ℕ → State → State
close_tracker maker t s = record s {
  trackers = remove s.trackers t;
  sessions = without_tracker maker t s.sessions;
  dirty = remove s.dirty t;
}

abbrev pub create_page : ℕ → ℕ → ℕ → ℕ → ℕ → State → State
create_page maker p client blocks key s = record s {
  pages = insert s.pages p (record { key = key; session = maker; client = client; blocks = blocks; place = Pinned 1; has_slots = false; version = 0 });
  next_name = s.next_name + 1;
}

abbrev pub put_buffer : ℕ → Buffer → State → State
put_buffer f buffer s = record s { buffers = insert s.buffers f buffer }
