-- Partitions are read from the top, each through a table. `a` is before a call and `b` behind it.
use Rattle.std.specs.Prelude.{◌≡◌, ℕ, zero, suc, ◌+◌, ◌<◌, ◌≤◌, Bool, true, false, List, [], ◌++◌, All, length, slice_get, set, replicate, take, Option, Some}
use Rattle.std.specs.List.{concat}
use Rattle.row_codec.specs.declared.values.Value.{Value}
use Rattle.store_api.specs.declared.shapes.Shape.{Shape}
use Rattle.tuple_stream.specs.Families.{AllClosed, Family, ShowAll, slots_in}
use Rattle.tuple_stream.specs.FamilyCalls.{shares}
pub use Rattle.partition_stack.specs.Emitting.{LeavesBeside, StandsStill}
use Rattle.partition_stack.specs.Making.{MakesBeside, owed}
use Rattle.partition_stack.specs.Slots.{KeepSlots, SameSlots}
use Rattle.partition_stack.specs.Stack.{RestBelow, Stack}
use Rattle.group_rows.specs.Partials.{Partial, combined_of}
use Rattle.group_rows.specs.Splitting.{HasPath}
use Rattle.group_rows.specs.Tables.{HaveDistinctKeys}
use Rattle.group_op.specs.Emission.{Emitted}
use Rattle.group_op.specs.Held.{AreEntries, IsHeld, Leaves, State, page_len, rows_of, streams_of}
use Rattle.group_op.specs.Putting.{IsFan}
use Rattle.group_op.specs.Stored.{IsPartialRow, SameGroups, dealt, grouping_of, partials_at}
use Rattle.group_op.specs.Wanting.{AreNoMore}

-- what the first so many partitions say, the highest one first, each combined by itself
abbrev pub said_down : Shape → ℕ → (ℕ → List (List ℕ)) → List Partial
said_down shape zero rows = []
said_down shape (suc n) rows = combined_of (grouping_of shape) (partials_at shape (rows n)) ++ said_down shape n rows

-- the rows of a partition: their keys have one path, as long as its level
pub record IsPart (shape : Shape) (level : ℕ) (rows : List (List ℕ)) : Type 0 where
  pub formed : All (IsPartialRow shape) rows
  pub path : List ℕ
  pub long : length path ≡ level
  pub has : HasPath path (partials_at shape rows)

-- the partitions have these rows
pub record Stacked (shape : Shape) (rows : ℕ → List (List ℕ)) (b : State) : Type 0 where
  pub told : b.held.told ≡ true
  pub shows : ShowAll rows (streams_of b)
  pub levelled : length b.parts.levels ≡ length b.parts.streams
  pub parts : (i level : ℕ) → slice_get b.parts.levels i ≡ Some level → IsPart shape level (rows i)

-- between two partitions: the table is empty, and no page is pinned
pub record IsBetween (b : State) : Type 0 where
  pub empty : b.table.nodes ≡ []
  pub closed : AllClosed (streams_of b)

-- whatever the call answers
pub record Serves (t : ℕ) (shape : Shape) (a b : State) : Type 0 where
  pub held : IsHeld t b
  pub entries : AreEntries shape (page_len b) b.table
  pub leaves : Leaves t a b
  pub blocks : b.parts.page_blocks ≡ a.parts.page_blocks
  pub slots : SameSlots a.parts.page_blocks (streams_of a) (streams_of b)

-- the top partition is being read, and it was divided, or not yet
abbrev pub IsRead : Bool → ℕ → ℕ → Stack → Stack → Type 0
IsRead false at level old now = (length now.streams ≡ at + 1) × (now.levels ≡ old.levels) × RestBelow at now
IsRead true at level old now = IsFan level (at + 1) at now × (now.levels ≡ set old.levels at (level + 1) ++ replicate 16 (level + 1))

-- some rows of the top partition are combined in the table and in the partitions above it, and the others are there still
pub record HasRead (shape : Shape) (at level : ℕ) (divided : Bool) (rows : ℕ → List (List ℕ)) (some rest : List (List ℕ)) (b : State) : Type 0 where
  pub gone : List (List ℕ)
  pub now : ℕ → List (List ℕ)
  pub shows : ShowAll now (streams_of b)
  pub below : (i : ℕ) → i < at → now i ≡ rows i
  pub here : now at ≡ rest
  pub above : (i : ℕ) → at < i → now i ≡ dealt shape level (at + 1) gone i
  pub formed : All (IsPartialRow shape) gone
  pub undivided : divided ≡ false → gone ≡ []
  pub same : SameGroups (grouping_of shape) (partials_at shape some) (partials_at shape (rows_of b.table ++ gone))
  pub distinct : HaveDistinctKeys (partials_at shape (rows_of b.table))
  pub fewer : length (rows_of b.table) + length gone ≤ length some
  pub lighter : length (concat (rows_of b.table)) + length (concat gone) ≤ length (concat some)

-- the rows of the top partition are in sixteen above it, and nothing is lost; each of them went a level deeper, and no more rows
-- stand in all partitions
pub record HasDivided (shape : Shape) (at : ℕ) (rows : ℕ → List (List ℕ)) (old : Stack) (b : State) : Type 0 where
  pub left : ℕ → List (List ℕ)
  pub stacked : Stacked shape left b
  pub same : said_down shape (at + 1) rows ≡ said_down shape (length b.parts.streams) left
  pub deeper : length (rows at) + owed b.parts.levels left ≤ owed old.levels rows
  pub no_more : AreNoMore (shares (length b.parts.streams) left) (shares (at + 1) rows)

-- the first groups were handed on, and the others are there still, in no more rows; for each page that was made, but for those
-- that the emitter counts, a row went a level deeper
pub record Advances (shape : Shape) (was now : List (List Value) → Type 0) (creates_old creates : ℕ) (rows : ℕ → List (List ℕ)) (a b : State) : Type 0 where
  pub left : ℕ → List (List ℕ)
  pub stacked : Stacked shape left b
  pub done : List Partial
  pub split : said_down shape (length a.parts.streams) rows ≡ done ++ said_down shape (length b.parts.streams) left
  pub emitted : Emitted shape was now done
  pub most : ℕ
  pub deeper : most + owed b.parts.levels left ≤ owed a.parts.levels rows
  pub made : MakesBeside most creates_old creates a.signs b.signs
  pub no_more : AreNoMore (shares (length b.parts.streams) left) (shares (length a.parts.streams) rows)

-- what calls with an emitter leave: to the query and other clients, and of the slots, with those of the emitter's pages
pub record LeavesWith (t : ℕ) (client : Option ℕ) (theirs_old theirs : ℕ) (f g : Family) : Type 0 where
  pub others : LeavesBeside t client f.held g.held f.signs g.signs
  pub slots : KeepSlots client (slots_in f) (slots_in g) theirs_old theirs

-- whatever a call with an emitter answers, whose pages have so many slots before and behind it
pub record ServesBeside (t : ℕ) (client : Option ℕ) (theirs_old theirs : ℕ) (shape : Shape) (a b : State) : Type 0 where
  pub held : IsHeld t b
  pub entries : AreEntries shape (page_len b) b.table
  pub leaves : LeavesBeside t client a.held b.held a.signs b.signs
  pub blocks : b.parts.page_blocks ≡ a.parts.page_blocks
  pub slots : KeepSlots client (slots_in (streams_of a)) (slots_in (streams_of b)) theirs_old theirs

-- the top partition, at this place, went
pub record HasPopped (at : ℕ) (old new : Stack) : Type 0 where
  pub many : length new.streams ≡ at
  pub levels : new.levels ≡ take at old.levels
