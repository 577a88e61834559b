-- What contracts see of a table: its rows with the numbers of their nodes, the newest first. Lengths and places are in
-- bytes.
use Rattle.std.specs.Prelude.{◌≡◌, ℕ, ◌+◌, ◌==◌, List, [], ◌∷◌, length, take, drop, map, slice_get, if◌then◌else◌, Option, Some, None, IsSome}
use Rattle.std.specs.List.{filter}
use Rattle.std.specs.Int.{w128, to_be_bytes}
use Rattle.block_arena.specs.Bytes.{written}
use Rattle.row_codec.specs.RowReading.{number_in}

-- a row of a table: the place of its node in the node area, which is the node's number; the number of its chain; and
-- its bytes
pub record Node : Type 0 where
  pub place : ℕ
  pub chain : ℕ
  pub row : List ℕ

-- a loan that a table has: its number and its client, and its buffer's blocks and their length
pub record Lent : Type 0 where
  pub number : ℕ
  pub client : ℕ
  pub blocks : ℕ
  pub block_len : ℕ

-- a table: its client; the blocks of each of its buffers and their length; how many chains it has; the length of its node
-- area; its rows; and its loans
pub record Table : Type 0 where
  pub client : ℕ
  pub page_blocks : ℕ
  pub block_len : ℕ
  pub heads : ℕ
  pub room : ℕ
  pub nodes : List Node
  pub head_loans : List Lent
  pub node_loans : List Lent

-- the table with these nodes
abbrev pub with_nodes : List Node → Table → Table
with_nodes nodes t = record t { nodes = nodes }

-- how much of the node area these nodes take
abbrev pub used_by : List Node → ℕ
used_by [] = 0
used_by (n ∷ older) = n.place + 4 + length n.row

-- the node of a row that comes behind these
abbrev pub new_node : ℕ → List ℕ → List Node → Node
new_node chain row nodes = record { place = used_by nodes; chain = chain; row = row }

-- the nodes of a chain, the newest first
abbrev pub chain_of : ℕ → List Node → List ℕ
chain_of k nodes = map (λ n. n.place) (filter (λ n. n.chain == k) nodes)

-- the newest node of a chain
abbrev pub newest_on : ℕ → List Node → Option ℕ
newest_on k nodes = slice_get (chain_of k nodes) 0

-- the nodes from one on to the older ones
abbrev pub from_node : ℕ → List Node → List Node
from_node p [] = []
from_node p (n ∷ older) = if n.place == p then n ∷ older else from_node p older

-- a node stands at this place
abbrev pub HasNode : ℕ → List Node → Type 0
HasNode p nodes = IsSome (slice_get (from_node p nodes) 0)

abbrev pub first_row : List Node → List ℕ
first_row [] = []
first_row (n ∷ older) = n.row

-- the row of the node at this place
abbrev pub row_of : ℕ → List Node → List ℕ
row_of p nodes = first_row (from_node p nodes)

-- of these nodes, the next on the chain of the first
abbrev pub next_among : List Node → Option ℕ
next_among [] = None
next_among (n ∷ older) = newest_on n.chain older

-- the next node of the chain on which the node at this place is
abbrev pub next_on_chain : ℕ → List Node → Option ℕ
next_on_chain p nodes = next_among (from_node p nodes)

-- the node that came first
abbrev pub oldest : List Node → Option ℕ
oldest [] = None
oldest (n ∷ []) = Some n.place
oldest (n ∷ m ∷ older) = oldest (m ∷ older)

-- the node that came after the one at this place
abbrev pub newer_than : ℕ → List Node → Option ℕ
newer_than p [] = None
newer_than p (n ∷ []) = None
newer_than p (n ∷ m ∷ older) = if m.place == p then Some n.place else newer_than p (m ∷ older)

-- a node with another row, where it is the one at this place
abbrev pub rewritten : ℕ → List ℕ → Node → Node
rewritten p row n = if n.place == p then record n { row = row } else n

-- the nodes where the row of the one at this place is another
abbrev pub with_row : ℕ → List ℕ → List Node → List Node
with_row p row nodes = map (rewritten p row) nodes

-- the first four bytes of a row count those behind them
abbrev pub IsFramed : List ℕ → Type 0
IsFramed row = number_in (take 4 row) + 4 ≡ length row

-- so many bytes of a row from a place in it on
abbrev pub part_of : ℕ → ℕ → List ℕ → List ℕ
part_of at count row = take count (drop at row)

-- the row where sixteen bytes spell this number, the most significant first
abbrev pub with_number : ℕ → ℕ → List ℕ → List ℕ
with_number at value row = written at (to_be_bytes w128 value) row
