-- How pages come to wait, dirty or clean, and how they wait no longer.
use Rattle.std.specs.Prelude.{◌≡◌, ◌≢◌, ◌⊎◌, ℕ, Some, None}
use Rattle.std.specs.Ordering.{nat_cmp}
use Rattle.std.specs.FinMap.{FinMap, get, insert, remove}
use Rattle.std.specs.BTreeMap.{insert_entry, is_at}
use Rattle.std.specs.Map.{remove_entry}
use Rattle.trace_follow.specs.declared.follower.Follower.{Follower}
use Rattle.trace_follow.specs.Queues.{Queue, queue_at}

-- the queue without what has this stamp
abbrev pub taken : ℕ → Queue → Queue
taken stamp queue = remove_entry (is_at (nat_cmp stamp)) queue

-- one client's queue changes
pub record Requeues (old new : FinMap nat_cmp Queue) (c : ℕ) (queue : Queue) : Type 0 where
  pub own : queue_at new c ≡ queue
  pub others : (d : ℕ) → d ≢ c → queue_at new d ≡ queue_at old d

-- what has this stamp waits no longer among the client's dirty pages
pub record TakesDirty (old new : Follower) (c stamp : ℕ) : Type 0 where
  pub dirty : FinMap nat_cmp Queue
  pub is : new ≡ record old { dirty = dirty }
  pub queues : Requeues old.dirty dirty c (taken stamp (queue_at old.dirty c))

-- nor among the clean ones, and the page has no stamp
pub record TakesOut (old new : Follower) (c p stamp : ℕ) : Type 0 where
  pub stamped : get old.stamps p ≡ Some stamp
  pub dirty : FinMap nat_cmp Queue
  pub is : new ≡ record old { stamps = remove old.stamps p; clean = taken stamp old.clean; dirty = dirty }
  pub queues : Requeues old.dirty dirty c (taken stamp (queue_at old.dirty c))

-- the page waits no longer, if it did
abbrev pub Unqueues : Follower → Follower → ℕ → ℕ → Type 0
Unqueues old new c p = ((get old.stamps p ≡ None) × (new ≡ record old { stamps = remove old.stamps p })) ⊎ ((stamp : ℕ) × TakesOut old new c p stamp)

-- the page waits as the newest of the client's dirty ones
pub record QueuesDirty (old new : Follower) (c p : ℕ) : Type 0 where
  pub dirty : FinMap nat_cmp Queue
  pub is : new ≡ record old { dirty = dirty; stamps = insert old.stamps p old.entries }
  pub queues : Requeues old.dirty dirty c (insert_entry nat_cmp (queue_at old.dirty c) old.entries p)

-- or of the clean ones
pub record QueuesClean (old new : Follower) (p : ℕ) : Type 0 where
  pub is : new ≡ record old { clean = insert_entry nat_cmp old.clean old.entries p; stamps = insert old.stamps p old.entries }
