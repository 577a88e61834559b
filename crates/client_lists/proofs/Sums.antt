-- For callers: what the sums are after a call.
use Rattle.std.proofs.Common.{ℕ, ◌≡◌, ◌+◌, ◌<◌, None, Some, [], ◌∷◌, length, get_or, set, ap, ◌∙◌, arith}
use Rattle.std.proofs.lemmas.List.{get_or-set_same, length-map}
use Rattle.index_list.specs.Listing.{nodes_on, list_with, without, others}
use Rattle.index_list.proofs.Places.{nowhere, stands-from_list, list_with-without, nodes_on-pushed, nodes_on-pushed_other, nodes_on-without, nodes_on-without_other}
use Rattle.client_lists.specs.declared.which.Which.{Which}
use Rattle.client_lists.specs.Clients.{Clients, IsWhole, place, total, len_of, sum, with_node, without_node, shifted}
use Rattle.client_lists.proofs.Totals.{total-append, total-set, total-others}

-- the sum of the list that a node came to
pub sum-with_node : (t : Clients) (client node len : ℕ) (which : Which) → place client which < length t.pages.lists.lists → node < length t.pages.lens → list_with node t.pages.lists ≡ None → sum client which (with_node client which node len t) ≡ sum client which t + len
sum-with_node t client node len which l n e =
    let lens = t.pages.lens in
    let list = place client which in
    let xs = nodes_on list t.pages.lists in
    let now = ap (total (set lens node len)) (nodes_on-pushed t.pages.lists list node l) in
    let a = total-append (set lens node len) xs (node ∷ []) in
    let b = total-set lens node len xs (nowhere t.pages.lists node e list) in
    let own : get_or (set lens node len) node 0 ≡ len = get_or-set_same lens node len 0 n in
    omega arith

-- and of every other list
pub sum-with_node_other : (t : Clients) (client node len other : ℕ) (which kind : Which) → (place other kind ≡ place client which → ⊥) → list_with node t.pages.lists ≡ None → sum other kind (with_node client which node len t) ≡ sum other kind t
sum-with_node_other t client node len other which kind n e =
    ap (total (set t.pages.lens node len)) (nodes_on-pushed_other t.pages.lists (place client which) node (place other kind) n)
    ∙ total-set t.pages.lens node len (nodes_on (place other kind) t.pages.lists) (nowhere t.pages.lists node e (place other kind))

-- the sum of the list that a node left
pub sum-without_node : (t : Clients) → IsWhole t → (client node : ℕ) (which : Which) → list_with node t.pages.lists ≡ Some (place client which) → sum client which (without_node node t) + len_of node t.pages ≡ sum client which t
sum-without_node t w client node which e =
    let lens = t.pages.lens in
    let list = place client which in
    let now = ap (total lens) (nodes_on-without t.pages.lists list node) in
    let a = total-others lens node (nodes_on list t.pages.lists) (w.measured.proper.once list) (stands-from_list t.pages.lists node list e).1 in
    omega arith

-- and of every other list
pub sum-without_node_other : (t : Clients) → IsWhole t → (client node other : ℕ) (which kind : Which) → (place other kind ≡ place client which → ⊥) → list_with node t.pages.lists ≡ Some (place client which) → sum other kind (without_node node t) ≡ sum other kind t
sum-without_node_other t w client node other which kind n e =
    ap (total t.pages.lens) (nodes_on-without_other t.pages.lists w.measured.proper node (place client which) (place other kind) e n)

-- the list that a node was shifted to, where that is another one
pub sum-shifted_to : (t : Clients) → IsWhole t → (client node : ℕ) (from to : Which) → list_with node t.pages.lists ≡ Some (place client from) → place client to < length t.pages.lists.lists → (place client to ≡ place client from → ⊥) → sum client to (shifted client to node t) ≡ sum client to t + len_of node t.pages
sum-shifted_to t w client node from to e l n =
    let i = w.measured.proper.known (place client from) node (stands-from_list t.pages.lists node (place client from) e).1 in
    let z = w.measured.sized in
    let lists : length (without node t.pages.lists).lists ≡ length t.pages.lists.lists = length-map t.pages.lists.lists (others node) in
    let a = sum-with_node (without_node node t) client node (len_of node t.pages) to (omega arith) (omega arith) (list_with-without t.pages.lists node) in
    let b = sum-without_node_other t w client node client from to n e in
    omega arith

-- the list that it was shifted from
pub sum-shifted_from : (t : Clients) → IsWhole t → (client node : ℕ) (from to : Which) → list_with node t.pages.lists ≡ Some (place client from) → (place client from ≡ place client to → ⊥) → sum client from (shifted client to node t) + len_of node t.pages ≡ sum client from t
sum-shifted_from t w client node from to e n =
    let a = sum-with_node_other (without_node node t) client node (len_of node t.pages) client to from n (list_with-without t.pages.lists node) in
    let b = sum-without_node t w client node from e in
    omega arith

-- and every other list
pub sum-shifted_other : (t : Clients) → IsWhole t → (client node other : ℕ) (from to kind : Which) → list_with node t.pages.lists ≡ Some (place client from) → (place other kind ≡ place client from → ⊥) → (place other kind ≡ place client to → ⊥) → sum other kind (shifted client to node t) ≡ sum other kind t
sum-shifted_other t w client node other from to kind e n m =
    sum-with_node_other (without_node node t) client node (len_of node t.pages) other to kind m (list_with-without t.pages.lists node)
    ∙ sum-without_node_other t w client node other from kind n e
