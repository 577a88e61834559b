-- The lists of the clients, as a caller sees them. Each runs from the node that came first to the
-- one that came last; lengths and sums are in bytes.
use Rattle.std.specs.Prelude.{ℕ, ◌≡◌, ◌≤◌, ◌+◌, ◌*◌, ◌-◌, Bool, true, false, List, [], ◌∷◌, Option, Some, get_or, set, length, replicate}
use Rattle.std.specs.List.{slice_get}
use Rattle.index_list.specs.Listing.{Listing, IsProper, empty, nodes_on, list_with, pushed, without}
use Rattle.client_lists.specs.declared.which.Which.{Which}
use Rattle.client_lists.specs.declared.which.Which.TheVariants.{Pinned, Dirty, Flying}

-- lists of nodes, and the length that each node had when it was put on a list last
pub record Measured : Type 0 where
  pub lists : Listing
  pub lens : List ℕ

-- which clients are open, and the lists of all clients, three for each
pub record Clients : Type 0 where
  pub is_open : List Bool
  pub pages : Measured

-- the length of the longest page
abbrev pub longest : ℕ
longest = 16777216

-- the number of a list among the three of a client
abbrev pub number : Which → ℕ
number Pinned = 0
number Dirty = 1
number Flying = 2

-- the number of a client's list among all lists
abbrev pub place : ℕ → Which → ℕ
place client which = 3 * client + number which

-- the nodes on that list of the client
abbrev pub nodes_of : ℕ → Which → Clients → List ℕ
nodes_of client which t = nodes_on (place client which) t.pages.lists

-- the length of a node
abbrev pub len_of : ℕ → Measured → ℕ
len_of node m = get_or m.lens node 0

-- the sum of these nodes' lengths
abbrev pub total : List ℕ → List ℕ → ℕ
total lens [] = 0
total lens (node ∷ nodes) = get_or lens node 0 + total lens nodes

-- the sum of the lengths on that list of the client
abbrev pub sum : ℕ → Which → Clients → ℕ
sum client which t = total t.pages.lens (nodes_of client which t)

-- the node that came last to the dirty list of the client
abbrev pub newest : ℕ → Clients → Option ℕ
newest client t = slice_get (nodes_of client Dirty t) (length (nodes_of client Dirty t) - 1)

-- whether a list has a node
abbrev pub is_filled : List ℕ → Bool
is_filled [] = false
is_filled (node ∷ nodes) = true

-- the client is open
abbrev pub IsOpen : ℕ → Clients → Type 0
IsOpen client t = get_or t.is_open client false ≡ true

-- the client is not open
abbrev pub IsClosed : ℕ → Clients → Type 0
IsClosed client t = get_or t.is_open client false ≡ false

-- the node is on one of the client's lists
pub record IsOn (client node : ℕ) (t : Clients) : Type 0 where
  pub which : Which
  pub there : list_with node t.pages.lists ≡ Some (place client which)

-- no node is on two lists, each has a place for its length, and no length is above the longest
pub record IsMeasured (m : Measured) : Type 0 where
  pub proper : IsProper m.lists
  pub sized : length m.lens ≡ m.lists.nodes
  pub bounded : (node : ℕ) → len_of node m ≤ longest

-- what holds of the lists of clients at all times
pub record IsWhole (t : Clients) : Type 0 where
  pub measured : IsMeasured t.pages
  pub counted : length t.pages.lists.lists ≡ 3 * length t.is_open
  pub bare : (client : ℕ) (which : Which) → IsClosed client t → nodes_of client which t ≡ []

-- empty lists, as many as asked, over nodes without length
abbrev pub unmeasured : ℕ → ℕ → Measured
unmeasured nodes lists = record { lists = empty nodes lists; lens = replicate nodes 0 }

-- the node came to the back of the list, with that length
abbrev pub pushed_with : ℕ → ℕ → ℕ → Measured → Measured
pushed_with list node len m = record { lists = pushed list node m.lists; lens = set m.lens node len }

-- the node is on no list any more
abbrev pub taken : ℕ → Measured → Measured
taken node m = record m { lists = without node m.lists }

-- no client is open, and all lists are empty
abbrev pub fresh : ℕ → ℕ → Clients
fresh clients nodes = record { is_open = replicate clients false; pages = unmeasured nodes (3 * clients) }

-- the client is open, and all else is as it was
abbrev pub opened : ℕ → Clients → Clients
opened client t = record t { is_open = set t.is_open client true }

-- the client is not open any more, and all else is as it was
abbrev pub closed : ℕ → Clients → Clients
closed client t = record t { is_open = set t.is_open client false }

-- the node came to the back of that list of the client, with that length
abbrev pub with_node : ℕ → Which → ℕ → ℕ → Clients → Clients
with_node client which node len t = record t { pages = pushed_with (place client which) node len t.pages }

-- the node is on no list any more
abbrev pub without_node : ℕ → Clients → Clients
without_node node t = record t { pages = taken node t.pages }

-- the node went from its list to the back of that list of the client, with its length
abbrev pub shifted : ℕ → Which → ℕ → Clients → Clients
shifted client which node t = with_node client which node (len_of node t.pages) (without_node node t)
