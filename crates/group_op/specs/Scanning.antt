-- The groups of a stream of partial rows, in ascending order of their keys' bytes. `s` and `old` are the stream and what its
-- store holds before, `now` and `new` behind.
use Rattle.std.specs.Prelude.{ℕ, ◌≤◌, List, Option}
use Rattle.std.specs.Cmp.Lexicographic.{slice_cmp}
use Rattle.std.specs.Ordering.{nat_cmp}
use Rattle.store_api.specs.Holdings.{Holdings}
use Rattle.store_api.specs.declared.shapes.Shape.{Shape}
use Rattle.tuple_stream.specs.Streamed.{Streamed}
use Rattle.tuple_stream.specs.Touches.{slots_with}
use Rattle.partition_stack.specs.Emitting.{room_with}
pub use Rattle.partition_stack.specs.Emitting.{StaysEmitter}
pub use Rattle.partition_stack.specs.Reading.{IsReadable, IsSameQuery, MayShow, ReadBeside}
use Rattle.partition_stack.specs.Slots.{KeepSlots}
use Rattle.group_rows.specs.Partials.{Partial, combined_by}
use Rattle.group_op.specs.Stored.{grouping_of, partials_at}

-- the groups of stored rows, in the order of their keys' bytes
abbrev pub groups_by_bytes : Shape → List (List ℕ) → List Partial
groups_by_bytes shape rows = combined_by (slice_cmp nat_cmp) (grouping_of shape) (partials_at shape rows)

-- the query has, with what the stream's client and the emitter's reserve, at least the room that it had; and the slots of the
-- quota, with those of the stream and of the emitter's pages, are as many
pub record Shares (t : ℕ) (client : Option ℕ) (theirs_old theirs : ℕ) (s now : Streamed) (old new : Holdings) : Type 0 where
  pub room : room_with t client old ≤ room_with t client new
  pub slots : KeepSlots client (slots_with s old) (slots_with now new) theirs_old theirs

-- a client's stream was read while rows went to an emitter, whose pages have so many slots before and behind it
pub record ReadWith (t : ℕ) (client : Option ℕ) (theirs_old theirs : ℕ) (s now : Streamed) (old new : Holdings) : Type 0 where
  pub read : ReadBeside t client s now old new
  pub shares : Shares t client theirs_old theirs s now old new
