-- For callers: which nodes are where after a call, and how long they are. Who is open stays, by definition.
use Rattle.std.proofs.Common.{◌≡◌, ◌≢◌, ℕ, ◌<◌, false, List, [], ◌∷◌, ◌++◌, Some, None, length, get_or, ap, sym, ◌∙◌, inl, inr, arith}
use Rattle.std.proofs.lemmas.Bool.{false≢true, cases_Bool, cases_lt}
use Rattle.std.proofs.lemmas.List.{length-map, set-get_or, get_or_past, get_or-set_same, get_or-set_other}
use Rattle.index_list.specs.Listing.{Listing, list_with, stands_in, without, others}
use Rattle.index_list.proofs.Places.{stands-from_list, nodes_on-pushed, nodes_on-pushed_other, nodes_on-without, nodes_on-without_other, list_with-pushed, list_with-pushed_other, list_with-without, list_with-without_other}
use Rattle.client_lists.specs.declared.which.Which.{Which}
use Rattle.client_lists.specs.Clients.{Clients, IsWhole, IsOpen, IsOn, place, nodes_of, len_of, with_node, without_node, shifted}
use Rattle.client_lists.proofs.Kept.{number-le}

-- the length that a node is pushed with
pub len-with_node : (t : Clients) → IsWhole t → (client node len : ℕ) (to : Which) → node < t.pages.lists.nodes → len_of node (with_node client to node len t).pages ≡ len
len-with_node t whole client node len to low =
    let sized = whole.measured.sized in
    get_or-set_same t.pages.lens node len 0 (omega (arith, sized, low))

-- and every other node's
pub len-with_node_other : (t : Clients) (client node len : ℕ) (to : Which) (k : ℕ) → k ≢ node → len_of k (with_node client to node len t).pages ≡ len_of k t.pages
len-with_node_other t client node len to k apart = get_or-set_other t.pages.lens node k len 0 apart

-- a node that is shifted keeps its length, as all others do
pub len-shifted : (t : Clients) (client node : ℕ) (to : Which) (k : ℕ) → len_of k (shifted client to node t).pages ≡ len_of k t.pages
len-shifted t client node to k = ap (λ (lens : List ℕ). get_or lens k 0) (set-get_or t.pages.lens node 0)

module _ (t : Clients) (whole : IsWhole t) (client node : ℕ) where
  -- a client with a page is open
  pub open-with_page : IsOn client node t → IsOpen client t
  open-with_page on = elim (cases_Bool (get_or t.is_open client false)) [
    | inl live ↦ live
    | inr closed ↦ absurd (false≢true (sym (ap (stands_in node) (whole.bare client on.which closed)) ∙ (stands-from_list t.pages.lists node (place client on.which) on.there).1))
  ]

  -- a client that is open has its lists
  pub has_list : (which : Which) → IsOpen client t → place client which < length t.pages.lists.lists
  has_list which live =
      let low : client < length t.is_open = elim (cases_lt client (length t.is_open)) [
        | inl less ↦ less
        | inr past ↦ absurd (false≢true (sym (get_or_past t.is_open client false past) ∙ live))
      ] in
      let few = number-le which in
      let counted = whole.counted in
      omega (arith, low, few, counted)

  -- a node that is pushed
  module _ (len : ℕ) (to : Which) where
    pub nodes-with_node : IsOpen client t → nodes_of client to (with_node client to node len t) ≡ nodes_of client to t ++ node ∷ []
    nodes-with_node live = nodes_on-pushed t.pages.lists (place client to) node (has_list to live)

    pub nodes-with_node_other : (other : ℕ) (which : Which) → place other which ≢ place client to → nodes_of other which (with_node client to node len t) ≡ nodes_of other which t
    nodes-with_node_other other which apart = nodes_on-pushed_other t.pages.lists (place client to) node (place other which) apart

    pub list-with_node : IsOpen client t → list_with node t.pages.lists ≡ None → list_with node (with_node client to node len t).pages.lists ≡ Some (place client to)
    list-with_node live off = list_with-pushed t.pages.lists (place client to) node (has_list to live) off

    pub list-with_node_other : (k : ℕ) → k ≢ node → list_with k (with_node client to node len t).pages.lists ≡ list_with k t.pages.lists
    list-with_node_other k apart = list_with-pushed_other t.pages.lists (place client to) node k (λ same. apart (sym same))

  -- a node that is taken out
  module _ (from : Which) (on : list_with node t.pages.lists ≡ Some (place client from)) where
    pub nodes-without_node : nodes_of client from (without_node node t) ≡ others node (nodes_of client from t)
    nodes-without_node = nodes_on-without t.pages.lists (place client from) node

    pub nodes-without_node_other : (other : ℕ) (which : Which) → place other which ≢ place client from → nodes_of other which (without_node node t) ≡ nodes_of other which t
    nodes-without_node_other other which apart = nodes_on-without_other t.pages.lists whole.measured.proper node (place client from) (place other which) on apart

    pub list-without_node : list_with node (without_node node t).pages.lists ≡ None
    list-without_node = list_with-without t.pages.lists node

    pub list-without_node_other : (k : ℕ) → k ≢ node → list_with k (without_node node t).pages.lists ≡ list_with k t.pages.lists
    list-without_node_other k apart = list_with-without_other t.pages.lists node k (λ same. apart (sym same))

    -- a node that is shifted
    module _ (to : Which) where
      abbrev left : Listing
      left = without node t.pages.lists

      has_room : place client to < length left.lists
      has_room =
          let live = open-with_page (record { which = from; there = on }) in
          let low = has_list to live in
          let same : length left.lists ≡ length t.pages.lists.lists = length-map t.pages.lists.lists (others node) in
          omega (arith, low, same)

      pub list-shifted : list_with node (shifted client to node t).pages.lists ≡ Some (place client to)
      list-shifted = list_with-pushed left (place client to) node has_room list-without_node

      pub list-shifted_other : (k : ℕ) → k ≢ node → list_with k (shifted client to node t).pages.lists ≡ list_with k t.pages.lists
      list-shifted_other k apart = list_with-pushed_other left (place client to) node k (λ same. apart (sym same)) ∙ list-without_node_other k apart

      -- it is the last on the list that it came to, the one that it was on before or another one
      pub nodes-shifted_last : nodes_of client to (shifted client to node t) ≡ others node (nodes_of client to t) ++ node ∷ []
      nodes-shifted_last = nodes_on-pushed left (place client to) node has_room ∙ ap (λ (xs : List ℕ). xs ++ node ∷ []) (nodes_on-without t.pages.lists (place client to) node)

      pub nodes-shifted_to : place client to ≢ place client from → nodes_of client to (shifted client to node t) ≡ nodes_of client to t ++ node ∷ []
      nodes-shifted_to apart = nodes_on-pushed left (place client to) node has_room ∙ ap (λ (xs : List ℕ). xs ++ node ∷ []) (nodes-without_node_other client to apart)

      pub nodes-shifted_from : place client from ≢ place client to → nodes_of client from (shifted client to node t) ≡ others node (nodes_of client from t)
      nodes-shifted_from apart = nodes_on-pushed_other left (place client to) node (place client from) apart ∙ nodes-without_node

      pub nodes-shifted_other : (other : ℕ) (which : Which) → place other which ≢ place client from → place other which ≢ place client to → nodes_of other which (shifted client to node t) ≡ nodes_of other which t
      nodes-shifted_other other which from_apart to_apart = nodes_on-pushed_other left (place client to) node (place other which) to_apart ∙ nodes-without_node_other other which from_apart
