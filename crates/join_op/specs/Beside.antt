-- One side of a join is called while the other rests beside it. About inner calls; no public clause cites this.
use Rattle.std.specs.Prelude.{◌≡◌, ◌≢◌, ℕ, ◌-◌, ◌*◌, ◌≤◌, ◌<◌, All, List, Some, length, slice_get}
use Rattle.row_codec.specs.declared.values.Kind.TheVariants.{Wide}
use Rattle.row_codec.specs.Order.{hash_of, nibble_of}
use Rattle.row_codec.specs.Row.{kinds_of}
use Rattle.row_codec.specs.RowBytes.{key_bytes, row_bytes}
use Rattle.row_codec.specs.declared.values.Value.{Value}
use Rattle.store_api.specs.Conditions.{IsLiveClient}
use Rattle.store_api.specs.Holdings.{Holdings, account_of, length_of}
use Rattle.store_api.specs.Signs.{Signs}
use Rattle.store_api.specs.Tokens.{ClientToken}
use Rattle.tuple_stream.specs.Families.{ShowAll, weight}
use Rattle.tuple_stream.specs.Trails.{Left}
use Rattle.partition_stack.specs.Leaving.{LeavesOthers}
use Rattle.partition_stack.specs.Sides.{OwnBoth}
use Rattle.partition_stack.specs.Slots.{SameSlots}
use Rattle.partition_stack.specs.Stack.{RestBelow, Stack, over}
use Rattle.join_op.specs.Operator.{over_both}

-- a row that may be spelled with its key in these columns, and is no longer than so much
pub record IsSpellable (columns : List ℕ) (most : ℕ) (row : List Value) : Type 0 where
  pub some : 0 < length row
  pub short : length (row_bytes row) ≤ most
  pub inside : All (λ column. column < length row) columns
  pub keyed : All (λ column. slice_get (kinds_of row) column ≢ Some Wide) columns

-- the partition of the first level to which a row goes
abbrev pub first_place : List ℕ → List Value → ℕ
first_place columns row = 15 - nibble_of (hash_of (key_bytes columns row)) 0

-- both sides are all that the client has, the other one rests, and sixteen pages and more are reserved
pub record MayCall (c : ClientToken) (p other : Stack) (h : Holdings) (signs : Signs) : Type 0 where
  pub client : IsLiveClient c h
  pub own : OwnBoth c.tracker 0 p.streams other.streams h signs
  pub rests : RestBelow (length other.streams) other
  pub least : 20 * length_of p.page_blocks h ≤ (account_of c.tracker h).reservation

-- the side became `now`: both are all that the client has still and have their slots, the other shows and left what it did,
-- and nothing of other clients changed
pub record CallsBeside (t : ℕ) (p now other : Stack) (old new : Holdings) (before after : Signs) : Type 0 where
  pub own : OwnBoth t 0 now.streams other.streams new after
  pub shows : (rows : ℕ → List (List ℕ)) → ShowAll rows (over other old before) → ShowAll rows (over other new after)
  pub weighs : (w : Left → ℕ) → weight w (over other new after) ≡ weight w (over other old before)
  pub leaves : LeavesOthers t old new before after
  pub loans : new.loans ≡ old.loans
  pub lives : (c : ClientToken) → c.tracker ≡ t → IsLiveClient c old → IsLiveClient c new
  pub blocks : now.page_blocks ≡ p.page_blocks
  pub levels : now.levels ≡ p.levels
  pub many : length now.streams ≡ length p.streams
  pub slots : SameSlots p.page_blocks (over_both p other old before) (over_both now other new after)
