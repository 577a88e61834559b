-- An emitter that feeds its rows to a grouping. `c` is the grouping's client, and its pages have `blocks` blocks. Lengths are in
-- bytes.
use Rattle.std.specs.Prelude.{◌≡◌, ℕ, ◌+◌, ◌*◌, ◌^◌, ◌<◌, ◌≤◌, ◌==◌, List, [], length, sum_by, if◌then◌else◌, Option, Some, None}
use Rattle.pool_model.specs.LookingBack.{names_in}
use Rattle.row_codec.specs.declared.values.Value.{Value}
use Rattle.store_api.specs.Conditions.{IsIdle, IsLiveClient}
use Rattle.store_api.specs.Emitters.{SameOwn}
use Rattle.store_api.specs.Holdings.{Holdings, length_of, page_of}
use Rattle.store_api.specs.Signs.{Entered, Signs}
use Rattle.store_api.specs.Tokens.{ClientToken, PageToken}
use Rattle.store_api.specs.declared.shapes.Shape.{Shape}
use Rattle.tuple_stream.specs.Streamed.{Streamed}
use Rattle.tuple_stream.specs.Families.{slots_in as all_slots_in}
use Rattle.tuple_stream.specs.Touches.{slots_of}
use Rattle.partition_stack.specs.Leaving.{LeavesOthers}
use Rattle.partition_stack.specs.Slots.{most_pages}
use Rattle.partition_stack.specs.Stack.{IsStack, over}
use Rattle.group_op.specs.Making.{pages_on}
use Rattle.group_op.specs.Operator.{Holds, IsFeeding, IsOperator, Operator, bytes_for}
use Rattle.query_run.specs.FedRows.{AreFed}
use Rattle.query_run.specs.declared.feeder.Feeder.{Feeder}

-- the slots of a page, where it is this client's
abbrev pub own_slots : ℕ → Streamed → Holdings → PageToken → ℕ
own_slots t s h p = if (page_of p.name h).client == t then slots_of s h p else 0

-- those of the grouping's pages, while there is one
abbrev pub slots_in : Option Operator → ℕ → Holdings → ℕ
slots_in None t h = 0
slots_in (Some op) t h = sum_by (λ s. sum_by (own_slots t s h) s.pages) op.parts.streams

-- the slots that the pages of a grouping and one more have at most, once it was fed these rows, where a page has so many bytes
abbrev pub slots_for_rows : Shape → ℕ → ℕ → List (List Value) → ℕ
slots_for_rows shape blocks page rows = (most_pages page 16 (length rows) (bytes_for shape rows) + 1) * blocks

-- the pages that the grouping is known to have made, which are those that it has: once it ended, as many as rows were taken
abbrev pub pages_made : Option Operator → ℕ → ℕ
pages_made None taken = taken
pages_made (Some op) taken = pages_on op

-- the grouping took these rows, and their pages are few: so it was over a store in which its client had the same
pub record Feeds (c : ClientToken) (shape : Shape) (blocks : ℕ) (op : Operator) (e : Feeder) (h : Holdings) (rows : List (List Value)) : Type 0 where
  pub client : op.client ≡ c
  pub shape_is : op.shape ≡ shape
  pub blocks_are : op.parts.page_blocks ≡ blocks
  pub feeding : IsFeeding op
  pub formed : AreFed shape.kinds rows
  pub counted : e.taken ≡ length rows
  pub extra : e.extra ≡ 16 * length shape.aggs
  pub page : e.page ≡ length_of blocks h
  pub short : e.page < 2 ^ 32
  pub at : Holdings
  pub signs : Signs
  pub alike : SameOwn (Some c.tracker) at h
  pub is : IsOperator op at signs
  pub holds : Holds rows op at signs
  pub stack : IsStack op.parts
  pub few : pages_on op ≤ most_pages e.page 16 (length rows) (bytes_for shape rows)

-- the grouping ended: its client is live and has nothing, and the slots of its pages are free
pub record HasEnded (op : Operator) (old new : Holdings) (before after : Signs) : Type 0 where
  pub lives : IsLiveClient op.client new
  pub idle : IsIdle op.client.tracker new
  pub slots : new.free_slots ≡ all_slots_in (over op.parts old before)
  pub leaves : LeavesOthers op.client.tracker old new before after
  pub names : Entered (λ more. names_in more ≡ []) before.trail after.trail

-- there is no grouping any more: its client is live, and has nothing
pub record HasStopped (c back : ClientToken) (h : Holdings) : Type 0 where
  pub same : back ≡ c
  pub lives : IsLiveClient back h
  pub idle : IsIdle back.tracker h

-- these rows were taken; once it stopped, any that are no fewer than it counted
abbrev pub TookOf : Option Operator → Option ClientToken → ClientToken → Shape → ℕ → Feeder → Holdings → List (List Value) → Type 0
TookOf (Some op) None c shape blocks e h rows = Feeds c shape blocks op e h rows
TookOf None (Some back) c shape blocks e h rows = HasStopped c back h × (e.taken ≤ length rows)
TookOf op back c shape blocks e h rows = ⊥

abbrev pub Took : ClientToken → Shape → ℕ → Feeder → Holdings → List (List Value) → Type 0
Took c shape blocks e h rows = TookOf e.op e.client c shape blocks e h rows
