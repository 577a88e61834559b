-- The top partition of one side is divided while the other side rests. About inner calls; no public clause cites this.
use Rattle.std.specs.Prelude.{◌≡◌, ℕ, ◌+◌, ◌*◌, ◌<◌, ◌≤◌, List, [], ◌≢◌, length, sum_by, true, Some, slice_get}
use Rattle.std.specs.List.{concat}
use Rattle.row_codec.specs.declared.values.Kind.{Kind}
use Rattle.store_api.specs.Conditions.{IsLiveClient}
use Rattle.store_api.specs.Holdings.{Holdings, length_of}
use Rattle.store_api.specs.Signs.{Signs}
use Rattle.store_api.specs.Tokens.{ClientToken}
use Rattle.tuple_stream.specs.Streamed.{Streamed}
use Rattle.tuple_stream.specs.Families.{Family, ShowAll, pages_in}
use Rattle.partition_stack.specs.Laws.{NoneFrom}
use Rattle.partition_stack.specs.Leaving.{LeavesOthers}
use Rattle.partition_stack.specs.Sides.{OwnBoth}
use Rattle.partition_stack.specs.Slots.{SameSlots}
use Rattle.partition_stack.specs.Stack.{RestBelow, Stack, divided, over}
use Rattle.join_op.specs.Operator.{over_both}
use Rattle.join_op.specs.Stored.{Side, dealt}

abbrev pub side_of : List Kind → List ℕ → Side
side_of kinds columns = record { kinds = kinds; columns = columns }

-- sixteen partitions of the next level stand above the one at this place, and those below it rest
pub record IsFan (level at : ℕ) (p : Stack) : Type 0 where
  pub deep : level < 16
  pub low : at < 272
  pub sixteen : length p.streams ≡ at + 17
  pub rests : RestBelow at p

-- nothing of any partition is spent but of the one at this place
abbrev pub WholeBut : ℕ → Family → Type 0
WholeBut at f = (i : ℕ) (s : Streamed) → slice_get f.streams i ≡ Some s → i ≢ at → s.spent ≡ 0

-- some rows of the partition at this place are dealt to those above it, and the others are there still
pub record HasDealt (side : Side) (level at : ℕ) (rows : ℕ → List (List ℕ)) (some rest : List (List ℕ)) (f : Family) : Type 0 where
  pub now : ℕ → List (List ℕ)
  pub shows : ShowAll now f
  pub below : (i : ℕ) → i < at → now i ≡ rows i
  pub here : now at ≡ rest
  pub above : (i : ℕ) → at < i → now i ≡ dealt side level (at + 1) some i

-- so it is of all rows of streams, of which those above that place have none
abbrev pub DealsNew : Side → ℕ → ℕ → Family → Family → Type 0
DealsNew side level at f g = (rows : ℕ → List (List ℕ)) → f.held.told ≡ true → NoneFrom (at + 1) rows → ShowAll rows f → HasDealt side level at rows (rows at) [] g

-- and of streams that end at that place
abbrev pub DealsAll : Side → ℕ → ℕ → Family → Family → Type 0
DealsAll side level at f g = (rows : ℕ → List (List ℕ)) → f.held.told ≡ true → ShowAll rows f → HasDealt side level at rows (rows at) [] g

-- some rows of the partition at this place were dealt, and some are there still; one may have got lost between them
pub record HasPart (side : Side) (level at : ℕ) (rows : ℕ → List (List ℕ)) (f : Family) : Type 0 where
  pub some : List (List ℕ)
  pub rest : List (List ℕ)
  pub lighter : (w : List ℕ → ℕ) → sum_by w some + sum_by w rest ≤ sum_by w (rows at)
  pub dealt : HasDealt side level at rows some rest f

-- a side's pages are no more than these rows, and together no more than twice their bytes, and so many pages more
pub record AreFewPages (blocks more : ℕ) (rows : List (List ℕ)) (f : Family) : Type 0 where
  pub by_rows : pages_in f ≤ length rows
  pub by_bytes : pages_in f * length_of blocks f.held ≤ 2 * length (concat rows) + more * length_of blocks f.held

-- the side became `now`: both are all that the client has still and have their slots, the other shows what it did, and nothing
-- of other clients changed
pub record HasCalled (t : ℕ) (p now other : Stack) (old new : Holdings) (before after : Signs) : Type 0 where
  pub own : OwnBoth t 0 now.streams other.streams new after
  pub shows : (rows : ℕ → List (List ℕ)) → ShowAll rows (over other old before) → ShowAll rows (over other new after)
  pub leaves : LeavesOthers t old new before after
  pub loans : new.loans ≡ old.loans
  pub lives : (c : ClientToken) → c.tracker ≡ t → IsLiveClient c old → IsLiveClient c new
  pub blocks : now.page_blocks ≡ p.page_blocks
  pub slots : SameSlots p.page_blocks (over_both p other old before) (over_both now other new after)

-- the side was divided
pub record IsDivided (level at : ℕ) (p now : Stack) : Type 0 where
  pub sixteen : length now.streams ≡ at + 17
  pub levels : now.levels ≡ (divided at level p).levels
