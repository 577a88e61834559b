-- One side of a join, and a stream, over what a store holds. The store comes as the ghost members of its trait, as one value. About
-- inner calls, and a join's end.
use Rattle.std.specs.Prelude.{◌≡◌, ℕ, ◌+◌, List, [], ◌∷◌, length, true}
use Rattle.reservation_tree.specs.declared.errors.PoolErr.{PoolErr}
use Rattle.store_api.specs.Signs.{WasAnswered}
use Rattle.store_api.specs.declared.store.Store.{Ghosts as StoreGhosts}
use Rattle.tuple_stream.specs.Families.{Family, ShowAll}
use Rattle.tuple_stream.specs.FamilyCalls.{AllWhole, Feeds, RestsSome, shares}
use Rattle.tuple_stream.specs.Places.{Place}
use Rattle.tuple_stream.specs.Spending.{PinsAgain}
use Rattle.tuple_stream.specs.Steps.{Scene, scene}
use Rattle.tuple_stream.specs.Streamed.{Streamed}
use Rattle.tuple_stream.specs.Touches.{IsFull}
use Rattle.tuple_stream.specs.Trails.{EnteredEvents, PinsFirst}
use Rattle.partition_stack.specs.Laws.{NoneFrom}
use Rattle.partition_stack.specs.Leaving.{LeavesOthers}
use Rattle.partition_stack.specs.Stack.{Stack, over}
use Rattle.join_op.specs.Beside.{CallsBeside}
use Rattle.join_op.specs.Chunks.{ReadsMore}
use Rattle.join_op.specs.Dividing.{AreFewPages, DealsAll, DealsNew, HasCalled, HasPart}
use Rattle.join_op.specs.Stored.{Side, place_of}

module _ {St : Type 0} (store : StoreGhosts St) where
  -- a side's partitions over what the store holds
  abbrev pub side_at : Stack → St → Family
  side_at p s = over p (store.holds s) (store.signs s)

  -- a stream over what the store holds
  abbrev pub read_at : Streamed → St → Scene
  read_at one s = scene one (store.holds s) (store.signs s)

  -- the side became `now`, and its client has both sides still
  abbrev pub CallsBesideAt : ℕ → Stack → Stack → Stack → St → St → Type 0
  CallsBesideAt t p now other s s_new = CallsBeside t p now other (store.holds s) (store.holds s_new) (store.signs s) (store.signs s_new)

  abbrev pub HasCalledAt : ℕ → Stack → Stack → Stack → St → St → Type 0
  HasCalledAt t p now other s s_new = HasCalled t p now other (store.holds s) (store.holds s_new) (store.signs s) (store.signs s_new)

  -- nothing of other clients changed
  abbrev pub LeavesOthersAt : ℕ → St → St → Type 0
  LeavesOthersAt t s s_new = LeavesOthers t (store.holds s) (store.holds s_new) (store.signs s) (store.signs s_new)

  -- the store answered so in between, and a want of slots names the blocks of a page and the free slots
  abbrev pub WasRefused : ℕ → St → St → PoolErr → Type 0
  WasRefused blocks s s_new e = WasAnswered e (store.signs s) (store.signs s_new) × IsFull blocks (store.holds s_new).free_slots e

  -- no page was left before one was pinned again, and one was; or the first of these alone
  abbrev pub PinsAgainAt : St → St → Type 0
  PinsAgainAt s s_new = EnteredEvents PinsAgain (store.signs s).trail (store.signs s_new).trail

  abbrev pub PinsFirstAt : St → St → Type 0
  PinsFirstAt s s_new = EnteredEvents PinsFirst (store.signs s).trail (store.signs s_new).trail

  -- rows of a stream were read from one place to another
  abbrev pub ReadsMoreAt : List (List ℕ) → Place → Place → Streamed → Streamed → St → St → Type 0
  ReadsMoreAt more place behind one now s s_new = ReadsMore more place behind (read_at one s) (read_at now s_new)

  -- the side took this row into the partition at this place
  abbrev pub FeedsAt : ℕ → ℕ → List (List ℕ) → Stack → Stack → St → St → Type 0
  FeedsAt t place more p now s s_new = Feeds t place more (side_at p s) (side_at now s_new)

  -- it took a row of the partition at this place into one of the sixteen above it
  abbrev pub SendsAt : ℕ → Side → ℕ → ℕ → List ℕ → Stack → Stack → St → St → Type 0
  SendsAt t side level at row p now s s_new = FeedsAt t (place_of side level (at + 1) row) (row ∷ []) p now s s_new

  -- all its partitions rest
  abbrev pub RestsAllAt : ℕ → Stack → Stack → St → St → Type 0
  RestsAllAt t p now s s_new = RestsSome t (length p.streams) (side_at p s) (side_at now s_new)

  -- the side has the rows that it had, where pages show what was left in them
  abbrev pub StaysShown : Stack → Stack → St → St → Type 0
  StaysShown p now s s_new = (rows : ℕ → List (List ℕ)) → (store.holds s).told ≡ true → ShowAll rows (side_at p s) → ShowAll rows (side_at now s_new)

  -- the rows of the partition at this place are dealt to the sixteen above it, which had none
  abbrev pub DealsNewAt : Side → ℕ → ℕ → Stack → Stack → St → St → Type 0
  DealsNewAt side level at p now s s_new = DealsNew side level at (side_at p s) (side_at now s_new)

  -- so they are where it was the top one
  abbrev pub DealsAllAt : Side → ℕ → ℕ → Stack → Stack → St → St → Type 0
  DealsAllAt side level at p now s s_new = DealsAll side level at (side_at p s) (side_at now s_new)

  -- some of them are, and some are there still
  abbrev pub DealsPartAt : Side → ℕ → ℕ → Stack → Stack → St → St → Type 0
  DealsPartAt side level at p now s s_new =
      (rows : ℕ → List (List ℕ)) → (store.holds s).told ≡ true → NoneFrom (at + 1) rows → ShowAll rows (side_at p s)
      → HasPart side level at rows (side_at now s_new)

  -- the side's pages are few for its rows, of which none was spent
  abbrev pub HasFewAt : Stack → Stack → St → St → Type 0
  HasFewAt p now s s_new =
      (rows : ℕ → List (List ℕ)) → (store.holds s).told ≡ true → ShowAll rows (side_at p s) → AllWhole (side_at p s)
      → AreFewPages p.page_blocks 273 (shares (length p.streams) rows) (side_at now s_new)

  -- of its rows none is spent, where none was
  abbrev pub StaysWhole : Stack → Stack → St → St → Type 0
  StaysWhole p now s s_new =
      (rows : ℕ → List (List ℕ)) → (store.holds s).told ≡ true → ShowAll rows (side_at p s) → AllWhole (side_at p s) → AllWhole (side_at now s_new)
