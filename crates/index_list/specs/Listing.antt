-- Lists of node numbers, as a caller sees them. Each runs from its front to its back.
use Rattle.std.specs.Prelude.{ℕ, ◌≡◌, ◌<◌, ◌++◌, Bool, true, List, [], ◌∷◌, Option, None, Some, get_or, set, map, replicate, filter, position, eqb, cond, not}
use Rattle.std.specs.List.{IsDistinct, list_any, slice_get}

-- the lists by their numbers, over the nodes whose numbers are below `nodes`
pub record Listing : Type 0 where
  pub nodes : ℕ
  pub lists : List (List ℕ)

-- as many lists, each of them empty
abbrev pub empty : ℕ → ℕ → Listing
empty nodes lists = record { nodes = nodes; lists = replicate lists [] }

-- the nodes on a list
abbrev pub nodes_on : ℕ → Listing → List ℕ
nodes_on list t = get_or t.lists list []

-- whether the node is one of these
abbrev pub stands_in : ℕ → List ℕ → Bool
stands_in node xs = list_any (eqb node) xs

-- the number of the list that the node is on
abbrev pub list_with : ℕ → Listing → Option ℕ
list_with node t = position (stands_in node) t.lists

-- the node that stands right behind this one, of these
abbrev pub behind : ℕ → List ℕ → Option ℕ
behind node [] = None
behind node (x ∷ xs) = cond (eqb node x) (slice_get xs 0) (behind node xs)

-- the same on the list, if any
abbrev pub behind_on : ℕ → Option ℕ → Listing → Option ℕ
behind_on node None t = None
behind_on node (Some list) t = behind node (nodes_on list t)

-- the node that follows this one on its list
abbrev pub next_node : ℕ → Listing → Option ℕ
next_node node t = behind_on node (list_with node t) t

-- the nodes but this one, in their order
abbrev pub others : ℕ → List ℕ → List ℕ
others node xs = filter (λ x. not (eqb node x)) xs

-- the node came to the back of the list
abbrev pub pushed : ℕ → ℕ → Listing → Listing
pushed list node t = record t { lists = set t.lists list (nodes_on list t ++ node ∷ []) }

-- the node is on no list any more
abbrev pub without : ℕ → Listing → Listing
without node t = record t { lists = map (others node) t.lists }

-- no node is on two lists, or twice on one, and each number on a list is that of a node
pub record IsProper (t : Listing) : Type 0 where
  pub once : (list : ℕ) → IsDistinct eqb (nodes_on list t)
  pub alone : (list other node : ℕ) → stands_in node (nodes_on list t) ≡ true → stands_in node (nodes_on other t) ≡ true → list ≡ other
  pub known : (list node : ℕ) → stands_in node (nodes_on list t) ≡ true → node < t.nodes
