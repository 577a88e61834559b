-- A join over a store: what it has, and what it keeps of the rows that were fed. Lengths are in bytes.
use Rattle.std.specs.Prelude.{◌≡◌, ℕ, ◌+◌, ◌*◌, ◌≤◌, List, ◌++◌, All, length, replicate, sum_by, Option}
use Rattle.pool_model.specs.declared.event.Event.{Event}
use Rattle.pool_model.specs.declared.entry.Entry.{Entry}
use Rattle.row_codec.specs.declared.values.Value.{Value}
use Rattle.row_codec.specs.Row.{kinds_of}
use Rattle.row_codec.specs.RowBytes.{row_bytes}
use Rattle.store_api.specs.declared.shapes.JoinShape.{JoinShape}
use Rattle.store_api.specs.Conditions.{IsBlockCount, IsLiveClient}
use Rattle.store_api.specs.Holdings.{Holdings, account_of, length_of}
use Rattle.store_api.specs.Shapes.{IsJoinShape}
use Rattle.store_api.specs.Signs.{Signs}
use Rattle.store_api.specs.Tokens.{ClientToken}
use Rattle.tuple_stream.specs.Families.{Family, ShowAll, family, pages_in}
use Rattle.tuple_stream.specs.FamilyCalls.{AllAtEnd, AllWhole, AreSteady, HaveLaid, shares}
use Rattle.tuple_stream.specs.Trails.{EnteredEvents, creates_in}
use Rattle.row_reading.specs.Reading.{IsRowOf}
use Rattle.partition_stack.specs.Leaving.{HasNoLoan}
use Rattle.partition_stack.specs.Sides.{OwnBoth}
use Rattle.partition_stack.specs.Slots.{most_pages}
use Rattle.partition_stack.specs.Stack.{Stack, first_sixteen, over}
use Rattle.join_op.specs.Pairs.{SameRows}
use Rattle.join_op.specs.Stored.{Side, left_side, place_of, right_side, rows_in}

-- its client, the shape of its rows, and the partitions of both sides
pub record Operator : Type 0 where
  pub client : ClientToken
  pub shape : JoinShape
  pub left : Stack
  pub right : Stack

abbrev pub operator : ClientToken → JoinShape → Stack → Stack → Operator
operator c shape left right = record { client = c; shape = shape; left = left; right = right }

-- a join of which nothing was called yet
abbrev pub started : ClientToken → ℕ → JoinShape → Operator
started c blocks shape = operator c shape (first_sixteen blocks) (first_sixteen blocks)

-- the length of its pages
abbrev pub page_of : Operator → Holdings → ℕ
page_of op h = length_of op.left.page_blocks h

-- the join is one over this store, with twenty pages reserved; its client has its partitions and nothing else
pub record IsOperator (op : Operator) (h : Holdings) (signs : Signs) : Type 0 where
  pub shape : IsJoinShape op.shape
  pub sized : IsBlockCount op.left.page_blocks
  pub alike : op.right.page_blocks ≡ op.left.page_blocks
  pub client : IsLiveClient op.client h
  pub least : 20 * page_of op h ≤ (account_of op.client.tracker h).reservation
  pub owns : OwnBoth op.client.tracker 0 op.left.streams op.right.streams h signs
  pub loans : HasNoLoan op.client.tracker h

-- the partitions of two sides beside each other
abbrev pub over_both : Stack → Stack → Holdings → Signs → Family
over_both p other h signs = family (p.streams ++ other.streams) h signs

-- a row that may be fed to a side: of its kinds, and no longer than a page
pub record MayBeFed (side : Side) (op : Operator) (h : Holdings) (row : List Value) : Type 0 where
  pub kinds : kinds_of row ≡ side.kinds
  pub short : length (row_bytes row) ≤ page_of op h

-- sixteen partitions of the first level
pub record AreFirst (p : Stack) : Type 0 where
  pub sixteen : length p.streams ≡ 16
  pub first : p.levels ≡ replicate 16 1

-- so it is of both sides as long as rows are fed
pub record IsFeeding (op : Operator) : Type 0 where
  pub left : AreFirst op.left
  pub right : AreFirst op.right

-- no right row was fed yet
abbrev pub HasNoRight : Operator → Type 0
HasNoRight op = op.right ≡ first_sixteen op.right.page_blocks

-- what a side's partitions have: the rows that were fed, each as often, and each in the partition of its path's first nibble
pub record KeepsSide (side : Side) (fed : List (List Value)) (f : Family) : Type 0 where
  pub rows : ℕ → List (List ℕ)
  pub shows : ShowAll rows f
  pub formed : (i : ℕ) → All (IsRowOf side.kinds) (rows i)
  pub placed : (i : ℕ) → All (λ row. place_of side 0 0 row ≡ i) (rows i)
  pub same : SameRows (rows_in side (shares 16 rows)) fed
  pub whole : AllWhole f

-- the first entries made the pages of the left side and left those that rest, and the others did so for the right side; each
-- was left once, while no page ended and none was pinned again
pub record LaidBoth (f g : Family) (events : List Event) : Type 0 where
  pub lefts : List Event
  pub rights : List Event
  pub are : events ≡ lefts ++ rights
  pub left : HaveLaid f lefts
  pub right : HaveLaid g rights
  pub left_made : creates_in lefts ≡ pages_in f
  pub right_made : creates_in rights ≡ pages_in g

-- what it keeps of the rows that were fed since its store's trail stood at `start`
pub record Keeps (start : Option (List Entry)) (lefts rights : List (List Value)) (op : Operator) (h : Holdings) (signs : Signs) : Type 0 where
  pub left : KeepsSide (left_side op.shape) lefts (over op.left h signs)
  pub right : KeepsSide (right_side op.shape) rights (over op.right h signs)
  pub left_steady : AreSteady (over op.left h signs)
  pub left_ends : HasNoRight op → AllAtEnd (over op.left h signs)
  pub right_ends : AllAtEnd (over op.right h signs)
  pub laid : EnteredEvents (LaidBoth (over op.left h signs) (over op.right h signs)) start signs.trail

-- the join is the same one
pub record IsSame (old new : Operator) : Type 0 where
  pub client : new.client ≡ old.client
  pub shape : new.shape ≡ old.shape
  pub left_blocks : new.left.page_blocks ≡ old.left.page_blocks
  pub right_blocks : new.right.page_blocks ≡ old.right.page_blocks

-- the bytes of rows
abbrev pub bytes_of : List (List Value) → ℕ
bytes_of rows = sum_by (λ row. length (row_bytes row)) rows

-- the slots that its pages and one more have at most, where it was fed these rows: each side has at most 272 partitions, of which one
-- is being read
abbrev pub slots_for : Operator → Holdings → List (List Value) → List (List Value) → ℕ
slots_for op h lefts rights = (most_pages (page_of op h) 546 (length lefts + length rights) (bytes_of lefts + bytes_of rights) + 1) * op.left.page_blocks
