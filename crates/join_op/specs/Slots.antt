-- Slots of the quota beside the calls of a join: the free ones, and those of the pages of two streams that are read. About inner
-- calls; no public clause cites this.
use Rattle.std.specs.Prelude.{◌≡◌, ℕ, ◌+◌, List, Option, None, sum_by, ⊤}
use Rattle.row_codec.specs.declared.values.Value.{Value}
use Rattle.store_api.specs.Emitters.{CameOf}
use Rattle.store_api.specs.Holdings.{Holdings}
use Rattle.store_api.specs.Signs.{Signs}
use Rattle.store_api.specs.declared.op_err.OpErr.{OpErr}
use Rattle.store_api.specs.declared.op_err.OpErr.TheVariants.{Pool, Sink}
use Rattle.tuple_stream.specs.Streamed.{Streamed}
use Rattle.tuple_stream.specs.Touches.{IsFull, slots_of, slots_with}
use Rattle.partition_stack.specs.Slots.{IsWantBelowOf, with_more}

-- want of slots names the blocks of a page and the free slots, which are fewer
abbrev pub IsFullOf : ℕ → Option ℕ → OpErr → Type 0
IsFullOf blocks free (Pool e) = IsFull blocks free e
IsFullOf blocks free Sink = ⊤

-- the store answered so in between, or a fault of the emitter came; and where the emitter has no client, want of slots is told
-- with the blocks of a page and the free slots
pub record CameFull (blocks : ℕ) (free client : Option ℕ) (faults_old faults : ℕ) (before after : Signs) (e : OpErr) : Type 0 where
  pub came : CameOf faults_old faults before after e
  pub full : client ≡ None → IsFullOf blocks free e

-- the most slots that an emitter has once it took rows are the same
abbrev pub SameMost : (List (List Value) → ℕ) → (List (List Value) → ℕ) → Type 0
SameMost old new = (rows : List (List Value)) → new rows ≡ old rows

-- a want of slots comes only where the total is below so many slots and those that an emitter may have once it took these rows
abbrev pub Crowds : (List (List Value) → ℕ) → ℕ → Option ℕ → OpErr → List (List Value) → Type 0
Crowds slots_for more total e rows = IsWantBelowOf (more + slots_for rows) total e

-- the free slots, and with them those of the pages of two streams
abbrev pub slots_of_two : Streamed → Streamed → Holdings → Option ℕ
slots_of_two left right h = with_more (sum_by (slots_of right h) right.pages) (slots_with left h)
