-- What a grouping has, over what a store holds and shows. Lengths are in bytes.
use Rattle.std.specs.Prelude.{◌≡◌, ◌≢◌, ℕ, ◌+◌, ◌*◌, ◌%◌, ◌≤◌, List, [], ◌∷◌, All, length, map, Some, ⊤}
use Rattle.row_codec.specs.Order.{hash_of}
use Rattle.store_api.specs.declared.shapes.Shape.{Shape}
use Rattle.store_api.specs.Holdings.{Holdings, LiveLoan, account_of, length_of}
use Rattle.store_api.specs.Signs.{Signs}
use Rattle.tuple_stream.specs.Families.{Family}
use Rattle.bucket_table.specs.Spreading.{spread}
use Rattle.bucket_table.specs.Tables.{Node, Table, used_by}
use Rattle.bucket_table.specs.Lending.{IsApart, IsTableOf, bytes_of, loans_of}
use Rattle.partition_stack.specs.Stack.{Stack, over}
use Rattle.partition_stack.specs.Changes.{Owns}
pub use Rattle.partition_stack.specs.Leaving.{LeavesOthers}
use Rattle.group_op.specs.Stored.{IsPartialRow, key_at}

-- a table of partial rows, and partitions of them
pub record State : Type 0 where
  pub table : Table
  pub parts : Stack
  pub held : Holdings
  pub signs : Signs

abbrev pub state : Table → Stack → Holdings → Signs → State
state table parts h signs = record { table = table; parts = parts; held = h; signs = signs }

abbrev pub streams_of : State → Family
streams_of s = over s.parts s.held s.signs

-- the length of a page
abbrev pub page_len : State → ℕ
page_len s = length_of s.parts.page_blocks s.held

-- the bytes of its table
abbrev pub lent : State → ℕ
lent s = bytes_of (loans_of s.table)

-- the client has a table and partitions and nothing else, and beside the table seventeen pages
pub record IsHeld (t : ℕ) (s : State) : Type 0 where
  pub owns : Owns t (lent s) (streams_of s)
  pub table : IsTableOf s.table s.held
  pub client : s.table.client ≡ t
  pub blocks : s.table.page_blocks ≡ s.parts.page_blocks
  pub loans : (q : ℕ) (loan : LiveLoan) → s.held.loans q ≡ Some loan → IsApart q (loans_of s.table) → loan.client ≢ t
  pub room : 17 * page_len s + lent s ≤ (account_of t s.held).reservation

-- the rows of a table, the newest first
abbrev pub rows_of : Table → List (List ℕ)
rows_of table = map (λ n. n.row) table.nodes

-- a node has a partial row that fits a page, and stands on the chain of its key's hash, which is spread
pub record IsEntry (shape : Shape) (len heads : ℕ) (n : Node) : Type 0 where
  pub row : IsPartialRow shape n.row
  pub short : length n.row ≤ len
  pub chain : n.chain ≡ spread (hash_of (key_at shape n.row)) % heads

-- each node stands where the older ones end
abbrev pub StandBehind : List Node → Type 0
StandBehind [] = ⊤
StandBehind (n ∷ older) = (n.place ≡ used_by older) × StandBehind older

-- the table has partial rows, one behind the other
pub record AreEntries (shape : Shape) (len : ℕ) (table : Table) : Type 0 where
  pub each : All (IsEntry shape len table.heads) table.nodes
  pub behind : StandBehind table.nodes
  pub roomy : 2 * len ≤ table.room

abbrev pub Leaves : ℕ → State → State → Type 0
Leaves t a b = LeavesOthers t a.held b.held a.signs b.signs
