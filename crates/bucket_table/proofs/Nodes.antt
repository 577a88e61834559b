-- Nodes that stand in bytes: their links, and where each ends.
use Rattle.std.proofs.Common.{◌≡◌, ◌≢◌, ℕ, ◌+◌, ◌≤◌, List, [], ◌∷◌, take, length, IsSome, refl, ap, sym, ◌∙◌, subst, inl, inr, arith, add-zero}
use Rattle.std.proofs.lemmas.Bool.{cases_eq, eq-eqb, ne_eqb, false≢true}
use Rattle.std.specs.Prelude.{slice_get}
use Rattle.row_codec.specs.RowReading.{number_in}
use Rattle.bucket_table.specs.Tables.{Node, used_by, IsFramed, from_node, HasNode, first_row, row_of}
use Rattle.bucket_table.specs.Regions.{cut, link_at}
use Rattle.bucket_table.specs.Threads.{AreNodes, IsNode, link_to, row_at}
use Rattle.bucket_table.proofs.Cuts.{cut_cut, cut_same}

pub link_here : (k : ℕ) (n : Node) (older : List Node) → n.chain ≡ k → link_to k (n ∷ older) ≡ n.place + 1
link_here k n older same = rw (eq-eqb n.chain k same) refl

pub link_past : (k : ℕ) (n : Node) (older : List Node) → n.chain ≢ k → link_to k (n ∷ older) ≡ link_to k older
link_past k n older other = rw (ne_eqb n.chain k other) refl

-- a link goes to a node
pub link_below : (k heads : ℕ) (area : List ℕ) (nodes : List Node) → AreNodes heads area nodes → link_to k nodes ≤ used_by nodes
link_below k heads area [] are = omega arith
link_below k heads area (n ∷ older) are =
    let place : n.place ≡ used_by older = are.0.place in
    let below : link_to k older ≤ used_by older = link_below k heads area older are.1 in
    elim (cases_eq n.chain k) [
      | inl same ↦ let here = link_here k n older same in omega (arith, here)
      | inr other ↦ let past = link_past k n older other in omega (arith, past, below, place)
    ]

-- ---- the row of a node

pub framed_long : (row : List ℕ) → IsFramed row → 4 ≤ length row
framed_long row is = omega (arith, is)

-- its first four bytes count the rest of it
pub framed_head : (p : ℕ) (row area : List ℕ) → IsFramed row → cut (p + 4) (length row) area ≡ row → link_at area (p + 4) + 4 ≡ length row
framed_head p row area framed is =
    let long : 4 ≤ length row = framed_long row framed in
    let head : cut (p + 4) 4 area ≡ take 4 row =
    sym (cut_cut (p + 4) (length row) 0 4 area (omega (arith, long)) ∙ ap (λ (k : ℕ). cut k 4 area) (add-zero (p + 4))) ∙ ap (take 4) is
    in
    ap (λ (bytes : List ℕ). number_in bytes + 4) head ∙ framed

pub row_head : (heads : ℕ) (area : List ℕ) (n : Node) (older : List Node) → IsNode heads area n older → link_at area (n.place + 4) + 4 ≡ length n.row
row_head heads area n older is = framed_head n.place n.row area is.framed is.row

pub row_here : (heads : ℕ) (area : List ℕ) (n : Node) (older : List Node) → IsNode heads area n older → row_at area n.place ≡ n.row
row_here heads area n older is = ap (λ (k : ℕ). cut (n.place + 4) k area) (row_head heads area n older is) ∙ is.row

-- ---- the nodes in other bytes that are the same up to where they end

pub nodes_same : (heads u : ℕ) (area now : List ℕ) (nodes : List Node) → used_by nodes ≤ u → take u now ≡ take u area → AreNodes heads area nodes → AreNodes heads now nodes
nodes_same heads u area now [] inside same are = tt
nodes_same heads u area now (n ∷ older) inside same are =
    let is = are.0 in (
      record {
        place = is.place;
        chain = is.chain;
        framed = is.framed;
        link = ap number_in (cut_same u n.place 4 area now same (omega (arith, inside))) ∙ is.link;
        row = cut_same u (n.place + 4) (length n.row) area now same inside ∙ is.row;
      },
      nodes_same heads u area now older (omega (arith, inside, is.place)) same are.1,
    )

-- ---- the node at a place

pub from_here : (p : ℕ) (n : Node) (older : List Node) → n.place ≡ p → from_node p (n ∷ older) ≡ n ∷ older
from_here p n older same = rw (eq-eqb n.place p same) refl

pub from_past : (p : ℕ) (n : Node) (older : List Node) → n.place ≢ p → from_node p (n ∷ older) ≡ from_node p older
from_past p n older other = rw (ne_eqb n.place p other) refl

pub has_past : (p : ℕ) (n : Node) (older : List Node) → n.place ≢ p → HasNode p (n ∷ older) → HasNode p older
has_past p n older other has = subst (λ (nodes : List Node). IsSome (slice_get nodes 0)) (from_past p n older other) has

-- it ends where they end, or before
pub node_inside : (p heads : ℕ) (area : List ℕ) (nodes : List Node) → AreNodes heads area nodes → HasNode p nodes → p + 4 + length (row_of p nodes) ≤ used_by nodes
node_inside p heads area [] are has = absurd (false≢true has)
node_inside p heads area (n ∷ older) are has =
    elim (cases_eq n.place p) [
      | inl same ↦ let here : length (row_of p (n ∷ older)) ≡ length n.row = ap (λ (nodes : List Node). length (first_row nodes)) (from_here p n older same) in omega (arith, here, same)
      | inr other ↦
          let past : length (row_of p (n ∷ older)) ≡ length (row_of p older) = ap (λ (nodes : List Node). length (first_row nodes)) (from_past p n older other) in
          let inside = node_inside p heads area older are.1 (has_past p n older other has) in
          omega (arith, past, inside, are.0.place)
    ]

-- its row
pub row_there : (p heads : ℕ) (area : List ℕ) (nodes : List Node) → AreNodes heads area nodes → HasNode p nodes
    → (link_at area (p + 4) + 4 ≡ length (row_of p nodes)) × (cut (p + 4) (length (row_of p nodes)) area ≡ row_of p nodes) × IsFramed (row_of p nodes)
row_there p heads area [] are has = absurd (false≢true has)
row_there p heads area (n ∷ older) are has =
    elim (cases_eq n.place p) [
      | inl same ↦
          let row : n.row ≡ row_of p (n ∷ older) = sym (ap first_row (from_here p n older same)) in
          subst (λ (r : List ℕ). (link_at area (p + 4) + 4 ≡ length r) × (cut (p + 4) (length r) area ≡ r) × IsFramed r) row
          (subst (λ (q : ℕ). (link_at area (q + 4) + 4 ≡ length n.row) × (cut (q + 4) (length n.row) area ≡ n.row) × IsFramed n.row) same
          (row_head heads area n older are.0, are.0.row, are.0.framed))
      | inr other ↦
          let row : row_of p older ≡ row_of p (n ∷ older) = sym (ap first_row (from_past p n older other)) in
          subst (λ (r : List ℕ). (link_at area (p + 4) + 4 ≡ length r) × (cut (p + 4) (length r) area ≡ r) × IsFramed r) row
          (row_there p heads area older are.1 (has_past p n older other has))
    ]
