-- What is kept of a history: the skeletons of its first entries.
use Rattle.std.specs.Prelude.{ℕ, ◌≡◌, Bool, nat_lt, List, length, take}
use Rattle.pool_model.specs.declared.entry.Entry.{Entry}
use Rattle.pool_model.specs.declared.skeleton.Skeleton.{Skeleton}
use Rattle.pool_model.specs.Traces.{skeletons}
use Rattle.session_calls.specs.declared.trace.Trace.{Trace}

-- these are the skeletons of the first entries of the history, of which there is room for so many; and whether there were more
pub record AreFirst (kept : List Skeleton) (room : ℕ) (more : Bool) (history : List Entry) : Type 0 where
  pub first : kept ≡ take room (skeletons history)
  pub more_is : more ≡ nat_lt room (length history)

-- the trace has the skeletons of the first entries of the history, and tells whether there were more
pub record IsTraceOf (history : List Entry) (trace : Trace) : Type 0 where
  pub first : trace.entries.items ≡ take (length trace.entries.items) (skeletons history)
  pub more_is : trace.more ≡ nat_lt (length trace.entries.items) (length history)
