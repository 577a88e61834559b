-- Rows of one side are held while the other side is read: some in memory, or as many as a table has room for. A join is
-- turned where rows of the left side are held; else those of the right one are.
use Rattle.std.specs.Prelude.{◌≡◌, ℕ, ◌+◌, ◌*◌, ◌%◌, ◌<◌, ◌≤◌, List, [], ◌∷◌, ◌++◌, All, Bool, true, false, IsSome, Option, Some, None, ⊤}
use Rattle.row_codec.specs.declared.values.Value.{Value}
use Rattle.row_codec.specs.Order.{hash_of}
use Rattle.row_reading.specs.Reading.{IsRowOf}
use Rattle.store_api.specs.declared.shapes.JoinShape.{JoinShape}
use Rattle.store_api.specs.Holdings.{Holdings, length_of, unused_of}
use Rattle.bucket_table.specs.Tables.{Lent, Node, Table, used_by, with_nodes}
use Rattle.bucket_table.specs.Lending.{IsTableOf, loans_of}
use Rattle.bucket_table.specs.Spreading.{spread}
use Rattle.join_op.specs.declared.feeding.Spare.{Spare}
use Rattle.join_op.specs.declared.holding.Held.{Held}
use Rattle.join_op.specs.Chunks.{IsKept, kept_rows, stored_pairs}
use Rattle.join_op.specs.Stored.{Side, key_at, left_side, right_side}

-- the side of which rows are held, and the one that is read
abbrev pub held_side : Bool → JoinShape → Side
held_side true shape = left_side shape
held_side false shape = right_side shape

abbrev pub read_side : Bool → JoinShape → Side
read_side true shape = right_side shape
read_side false shape = left_side shape

-- the pairs of rows that are read with rows that are held
abbrev pub pairs_with : Bool → JoinShape → List (List ℕ) → List (List ℕ) → List (List Value)
pairs_with true shape reads helds = stored_pairs shape helds reads
pairs_with false shape reads helds = stored_pairs shape reads helds

-- those of one row that is read
abbrev pub meets : Bool → JoinShape → Spare → List (List ℕ) → List (List Value)
meets turned shape e helds = pairs_with turned shape (e.row.items ∷ []) helds

-- the rows of a table's nodes, the oldest first
abbrev pub stored : List Node → List (List ℕ)
stored [] = []
stored (n ∷ older) = stored older ++ n.row ∷ []

-- the newest node has a row of a side, on the chain of its key's spread hash, and stands behind the older ones
pub record IsStored (side : Side) (heads : ℕ) (n : Node) (older : List Node) : Type 0 where
  pub place : n.place ≡ used_by older
  pub chain : n.chain ≡ spread (hash_of (key_at side n.row)) % heads
  pub row : IsRowOf side.kinds n.row

abbrev pub AreStored : Side → ℕ → List Node → Type 0
AreStored side heads [] = ⊤
AreStored side heads (n ∷ older) = IsStored side heads n older × AreStored side heads older

-- the rows that are held, in the order in which they came
abbrev pub rows_either : Option Table → List Spare → List (List ℕ)
rows_either None kept = kept_rows kept
rows_either (Some table) kept = stored table.nodes

abbrev pub held_rows : Held → List (List ℕ)
held_rows h = rows_either h.table h.kept.items

-- rows of this side are held
abbrev pub HoldEither : Side → Option Table → List Spare → Type 0
HoldEither side None kept = All (IsKept side) kept
HoldEither side (Some table) kept = AreStored side table.heads table.nodes

abbrev pub HoldsOf : Side → Held → Type 0
HoldsOf side h = HoldEither side h.table h.kept.items

-- there is room for a row at least
abbrev pub HasSpace : Option Table → ℕ → ℕ → Type 0
HasSpace None most longest = 0 < most
HasSpace (Some table) most longest = 4 + longest ≤ table.room

abbrev pub MayHold : Held → Type 0
MayHold h = HasSpace h.table h.most h.longest

-- the loans of the table, where there is one
abbrev pub loans_in : Option Table → List Lent
loans_in None = []
loans_in (Some table) = loans_of table

-- where there is a table, it is one of the store and of this client
abbrev pub IsTableAt : ℕ → Option Table → Holdings → Type 0
IsTableAt t None h = IsSome (h.clients t)
IsTableAt t (Some table) h = IsTableOf table h × (table.client ≡ t)

-- of what a client may charge two pages are left, where there were two
abbrev pub LeavesRoom : ℕ → ℕ → Holdings → Holdings → Type 0
LeavesRoom t blocks old new = (n : ℕ) → 2 * length_of blocks old ≤ unused_of t old + n → 2 * length_of blocks old ≤ unused_of t new + n

-- other rows may be held, in the same memory
abbrev pub IsSameTable : Option Table → Option Table → Type 0
IsSameTable None now = now ≡ None
IsSameTable (Some table) None = ⊥
IsSameTable (Some table) (Some now) = now ≡ with_nodes now.nodes table

pub record IsSameHeld (old new : Held) : Type 0 where
  pub table : IsSameTable old.table new.table
  pub most : new.most ≡ old.most
  pub longest : new.longest ≡ old.longest
