-- How the rows of a table lie in its bytes. A node is four bytes of a link, and the row. A link or a head is one more
-- than the place of a node, and 0 is none. About private fields; no public clause cites this.
use Rattle.std.specs.Prelude.{◌≡◌, ℕ, zero, suc, ◌+◌, ◌-◌, ◌*◌, ◌<◌, ◌≤◌, ◌==◌, ◌^◌, List, [], ◌∷◌, length, drop, max, set, if◌then◌else◌, Option, Some, None, ⊤}
use Rattle.bucket_table.specs.Tables.{Lent, Node, Table, used_by, IsFramed}
use Rattle.bucket_table.specs.Regions.{Region, cut, link_at}

-- the link to the newest of these nodes on a chain
abbrev pub link_to : ℕ → List Node → ℕ
link_to k [] = 0
link_to k (n ∷ older) = if n.chain == k then n.place + 1 else link_to k older

-- the newest node stands behind the older ones, with its row and the link to the next one on its chain
pub record IsNode (heads : ℕ) (area : List ℕ) (n : Node) (older : List Node) : Type 0 where
  pub place : n.place ≡ used_by older
  pub chain : n.chain < heads
  pub framed : IsFramed n.row
  pub link : link_at area n.place ≡ link_to n.chain older
  pub row : cut (n.place + 4) (length n.row) area ≡ n.row

abbrev pub AreNodes : ℕ → List ℕ → List Node → Type 0
AreNodes heads area [] = ⊤
AreNodes heads area (n ∷ older) = IsNode heads area n older × AreNodes heads area older

-- the nodes stand in the area, and each head links to the newest node of its chain
pub record IsThreaded (heads : ℕ) (links area : List ℕ) (nodes : List Node) : Type 0 where
  pub stand : AreNodes heads area nodes
  pub linked : (k : ℕ) → k < heads → link_at links (4 * k) ≡ link_to k nodes
  pub inside : used_by nodes ≤ length area

-- the links from the heads, of so many chains
abbrev pub links_in : ℕ → List ℕ → List ℕ
links_in zero bytes = []
links_in (suc heads) bytes = link_at bytes 0 ∷ links_in heads (drop 4 bytes)

-- where this number stands first, or how many there are
abbrev pub place_in : ℕ → List ℕ → ℕ
place_in x [] = 0
place_in x (y ∷ ys) = if y == x then 0 else suc (place_in x ys)

-- the greatest of these numbers, and 0 where there is none
abbrev pub greatest : List ℕ → ℕ
greatest [] = 0
greatest (x ∷ xs) = max x (greatest xs)

-- the row of the node at this place, as its first four bytes count it
abbrev pub row_at : List ℕ → ℕ → List ℕ
row_at area p = cut (p + 4) (link_at area (p + 4) + 4) area

-- the nodes that these links lead to, and so many at most. The newest is where the greatest link goes, and its own link
-- leads on from there.
abbrev pub nodes_from : ℕ → List ℕ → List ℕ → List Node
nodes_from zero area links = []
nodes_from (suc most) area links =
    if greatest links == 0 then []
    else (record { place = greatest links - 1; chain = place_in (greatest links) links; row = row_at area (greatest links - 1) })
    ∷ nodes_from most area (set links (place_in (greatest links) links) (link_at area (greatest links - 1)))

-- the nodes of a table
abbrev pub nodes_in : ℕ → List ℕ → List ℕ → List Node
nodes_in heads links area = nodes_from (length area) area (links_in heads links)

-- what the fields of a table say: its nodes stand threaded in its bytes
pub record IsTable (heads used : ℕ) (links area : List ℕ) : Type 0 where
  pub threaded : IsThreaded heads links area (nodes_in heads links area)
  pub used_is : used ≡ used_by (nodes_in heads links area)
  pub sized : 4 * heads ≤ length links
  pub some : 0 < heads
  pub few : 4 * heads < 2 ^ 32
  pub short : length area < 2 ^ 32

-- the same, in two areas of loans of one length
pub record IsLaid (heads used : ℕ) (links area : Region) : Type 0 where
  pub table : IsTable heads used links.bytes area.bytes
  pub blocks : links.blocks ≡ area.blocks
  pub block_len : links.block_len ≡ area.block_len

-- the same, and so many nodes stand there
pub record IsCounted (heads used count : ℕ) (links area : Region) : Type 0 where
  pub laid : IsLaid heads used links area
  pub counted : count ≡ length (nodes_in heads links.bytes area.bytes)

-- the node to which a link goes
abbrev pub node_in : ℕ → Option ℕ
node_in zero = None
node_in (suc p) = Some p

-- the client of the first of these loans
abbrev pub client_in : List Lent → ℕ
client_in [] = 0
client_in (l ∷ loans) = l.client

-- what contracts see of a table with so many chains, whose heads and whose nodes have these bytes
abbrev pub table_of : ℕ → Region → Region → Table
table_of heads links area = record {
  client = client_in links.loans;
  page_blocks = area.blocks;
  block_len = area.block_len;
  heads = heads;
  room = length area.bytes;
  nodes = nodes_in heads links.bytes area.bytes;
  head_loans = links.loans;
  node_loans = area.loans;
}
