-- The pairs of two streams of stored rows, of which the right one is kept a chunk at a time.
use Rattle.std.specs.Prelude.{All, ◌≡◌, ◌↔◌, ℕ, ◌+◌, ◌*◌, ◌<◌, ◌≤◌, ◌≢◌, List, ◌++◌, length, map, take, Option, Some, None, IsSome, option_map, true}
use Rattle.row_codec.specs.declared.values.Value.{Value}
use Rattle.row_codec.specs.Row.{kinds_of}
use Rattle.row_codec.specs.RowLaws.{IsRow}
use Rattle.row_reading.specs.Reading.{IsKeyColumn, IsRowOf, values_at}
use Rattle.store_api.specs.declared.shapes.JoinShape.{JoinShape}
use Rattle.store_api.specs.Conditions.{IsLiveClient}
use Rattle.store_api.specs.Emitters.{SameFor}
use Rattle.store_api.specs.Holdings.{Holdings, LiveLoan, LivePage, unused_of}
use Rattle.store_api.specs.Tokens.{ClientToken}
use Rattle.tuple_stream.specs.Families.{AreDisjoint}
use Rattle.tuple_stream.specs.Places.{IsWithin, Place}
use Rattle.tuple_stream.specs.Spending.{PinsAgain}
use Rattle.tuple_stream.specs.Steps.{Scene, Shows, Stands, Tells}
use Rattle.tuple_stream.specs.Streamed.{Streamed, len_in}
use Rattle.tuple_stream.specs.Streams.{HasRows, IsApart, IsShaped}
use Rattle.tuple_stream.specs.Touches.{held, with_unused}
use Rattle.tuple_stream.specs.Trails.{EnteredEvents}
use Rattle.partition_stack.specs.Emitting.{room_with}
use Rattle.partition_stack.specs.Reading.{IsSameQuery, ReadBeside}
use Rattle.join_op.specs.declared.feeding.Spare.{Spare}
use Rattle.join_op.specs.Pairs.{pairs_of}
use Rattle.join_op.specs.Stored.{Side, key_at, left_side, right_side, rows_in}

-- a stored left row and a stored right row as one row of values
abbrev pub pair_at : JoinShape → List ℕ → List ℕ → List Value
pair_at shape left right = values_at shape.left left ++ values_at shape.right right

-- the pairs of stored rows of both sides
abbrev pub stored_pairs : JoinShape → List (List ℕ) → List (List ℕ) → List (List Value)
stored_pairs shape lefts rights = pairs_of shape (rows_in (left_side shape) lefts) (rows_in (right_side shape) rights)

-- an emitter admits each pair of rows of both sides
abbrev pub AdmitsJoined : JoinShape → (List Value → Type 0) → Type 0
AdmitsJoined shape admits = (left right : List Value) → IsRow left → kinds_of left ≡ shape.left → IsRow right → kinds_of right ≡ shape.right → admits (left ++ right)

-- the columns of a side's key, each of which may be part of one
pub record AreColumns (side : Side) (columns : List ℕ) : Type 0 where
  pub keyed : All (IsKeyColumn side.kinds) columns
  pub are : columns ≡ side.columns

-- a row of a side beside its key
pub record IsKept (side : Side) (e : Spare) : Type 0 where
  pub row : IsRowOf side.kinds e.row.items
  pub key : e.key.items ≡ key_at side e.row.items

-- the rows of these
abbrev pub kept_rows : List Spare → List (List ℕ)
kept_rows kept = map (λ e. e.row.items) kept

-- these rows were read, and the place is behind them; where there are any, and no page was pinned before, one was pinned again;
-- where pins are told, they are the next ones
pub record ReadsMore (more : List (List ℕ)) (place behind : Place) (a b : Scene) : Type 0 where
  pub moved : behind.row ≡ place.row + length more
  pub within : IsWithin behind b.stream
  pub pins : 0 < length more → a.stream.pinned ≡ None → EnteredEvents PinsAgain a.signs.trail b.signs.trail
  pub rows_are : (rows : List (List ℕ)) → Tells a → Shows a rows → Stands a place → (take behind.row rows ≡ take place.row rows ++ more) × Stands b behind

-- the stream has rows, and none of its pages is pinned
pub record IsResting (s : Streamed) : Type 0 where
  pub some : 0 < s.count
  pub closed : s.pinned ≡ None

-- two streams of a live client have no page in common, and there is room for a page of each, those counted that are pinned
pub record AreReadable (c : ClientToken) (left right : Streamed) (h : Holdings) : Type 0 where
  pub client : IsLiveClient c h
  pub left_shape : IsShaped c.tracker left h
  pub right_shape : IsShaped c.tracker right h
  pub apart : AreDisjoint left right
  pub alike : right.page_blocks ≡ left.page_blocks
  pub room : 2 * len_in left h ≤ unused_of c.tracker h + held left h + held right h

-- one was read while rows went to an emitter; the query has with what both clients reserve at least what it had
pub record ReadOne (t : ℕ) (client : Option ℕ) (s now : Streamed) (old new : Holdings) : Type 0 where
  pub beside : ReadBeside t client s now old new
  pub room : room_with t client old ≤ room_with t client new

-- both were read while rows went to an emitter: of their client only their pinned pages and the unused bytes changed, and of
-- all others only what is the emitter's client's; the query has with what both clients reserve at least what it had
pub record ReadBoth (t : ℕ) (client : Option ℕ) (left left_now right right_now : Streamed) (old new : Holdings) : Type 0 where
  pub left_shape : IsShaped t left_now new
  pub right_shape : IsShaped t right_now new
  pub left_same : left_now ≡ record left { pinned = left_now.pinned }
  pub right_same : right_now ≡ record right { pinned = right_now.pinned }
  pub left_rows : (rows : List (List ℕ)) → old.told ≡ true → HasRows rows left old → HasRows rows left_now new
  pub right_rows : (rows : List (List ℕ)) → old.told ≡ true → HasRows rows right old → HasRows rows right_now new
  pub unused : unused_of t new + held left_now new + held right_now new ≡ unused_of t old + held left old + held right old
  pub account : IsSome (old.clients t) → new.clients t ≡ option_map (with_unused (unused_of t new)) (old.clients t)
  pub pages : (q : ℕ) (page : LivePage) → page.client ≡ t → IsApart q left.pages → IsApart q right.pages → (new.pages q ≡ Some page) ↔ (old.pages q ≡ Some page)
  pub loans : (q : ℕ) (loan : LiveLoan) → loan.client ≡ t → (new.loans q ≡ Some loan) ↔ (old.loans q ≡ Some loan)
  pub others : (u : ℕ) → u ≢ t → client ≢ Some u → SameFor u old new
  pub query : IsSameQuery old new
  pub room : room_with t client old ≤ room_with t client new
