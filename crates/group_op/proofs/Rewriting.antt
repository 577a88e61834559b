-- The row of a node is written anew.
use Rattle.std.proofs.Common.{◌≡◌, ◌≢◌, ◌∙◌, ℕ, zero, suc, ◌<◌, ◌≤◌, List, [], ◌∷◌, set, Some, refl, ap, ap₂, subst, inl, inr, arith, eq-eqb, ne_eqb}
use Rattle.std.specs.Prelude.{slice_get}
use Rattle.std.proofs.lemmas.Bool.{cases_eq}
use Rattle.std.proofs.lemmas.Option.{none-some, same_Some}
use Rattle.bucket_table.specs.Tables.{HasNode, Node, rewritten, row_of, used_by, with_row}
use Rattle.bucket_table.proofs.LookedUp.{has_here, has_more}
use Rattle.partition_stack.proofs.ListPlaces.{set_same}
use Rattle.group_op.specs.Held.{StandBehind}

-- the node at a place
pub record NodeAt (p : ℕ) (nodes : List Node) : Type 0 where
  pub index : ℕ
  pub node : Node
  pub there : slice_get nodes index ≡ Some node
  pub place : node.place ≡ p
  pub row : row_of p nodes ≡ node.row

pub node_at : (p : ℕ) (nodes : List Node) → HasNode p nodes → NodeAt p nodes
node_at p [] has = absurd cc
node_at p (n ∷ older) has =
    elim (cases_eq n.place p) [
      | inl same ↦ record { index = 0; node = n; there = refl; place = same; row = rw (eq-eqb n.place p same) refl }
      | inr apart ↦
          let rest = node_at p older (rw (ne_eqb n.place p apart) at has) in
          record { index = suc rest.index; node = rest.node; there = rest.there; place = rest.place; row = rw (ne_eqb n.place p apart) rest.row }
    ]

-- a node that has its place and another row
abbrev pub with_own : List ℕ → Node → Node
with_own row n = record n { row = row }

below_same : (p : ℕ) (row : List ℕ) (nodes : List Node) → StandBehind nodes → used_by nodes ≤ p → with_row p row nodes ≡ nodes
below_same p row [] stand under = refl
below_same p row (n ∷ older) stand under =
    let place : n.place ≡ used_by older = stand.0 in
    let apart : n.place ≢ p = λ same. omega (arith, same, under) in
    ap₂ (λ (m : Node) (ms : List Node). m ∷ ms) (rw (ne_eqb n.place p apart) refl) (below_same p row older stand.1 (omega (arith, place, under)))

-- it is the one that changes, and no other
pub rewritten_at : (p : ℕ) (row : List ℕ) (nodes : List Node) → StandBehind nodes → (at : NodeAt p nodes) → with_row p row nodes ≡ set nodes at.index (with_own row at.node)
rewritten_at p row nodes stand at = go nodes at.index at.node stand at.there at.place where
  go : (nodes : List Node) (i : ℕ) (m : Node) → StandBehind nodes → slice_get nodes i ≡ Some m → m.place ≡ p → with_row p row nodes ≡ set nodes i (with_own row m)
  go [] i m stand there place = refl
  go (n ∷ older) zero m stand there place =
      let same : n ≡ m = same_Some n m there in
      let here : n.place ≡ p = ap (λ (x : Node). x.place) same ∙ place in
      let behind : n.place ≡ used_by older = stand.0 in
      ap₂ (λ (x : Node) (xs : List Node). x ∷ xs) (rw (eq-eqb n.place p here) (ap (with_own row) same)) (below_same p row older stand.1 (omega (arith, behind, here)))
  go (n ∷ older) (suc i) m stand there place =
      let behind : n.place ≡ used_by older = stand.0 in
      let under : m.place < used_by older = inside older i m stand.1 there in
      let apart : n.place ≢ p = λ same. omega (arith, behind, under, same, place) in
      ap₂ (λ (x : Node) (xs : List Node). x ∷ xs) (rw (ne_eqb n.place p apart) refl) (go older i m stand.1 there place)
    where
      inside : (nodes : List Node) (i : ℕ) (m : Node) → StandBehind nodes → slice_get nodes i ≡ Some m → m.place < used_by nodes
      inside [] i m stand there = absurd (none-some m there)
      inside (x ∷ xs) zero m stand there = let same : x.place ≡ m.place = ap (λ (y : Node). y.place) (same_Some x m there) in omega (arith, same)
      inside (x ∷ xs) (suc i) m stand there = let rest = inside xs i m stand.1 there in let place : x.place ≡ used_by xs = stand.0 in omega (arith, rest, place)

-- ---- written once more

pub has_still : (p : ℕ) (row : List ℕ) (q : ℕ) (nodes : List Node) → HasNode q nodes → HasNode q (with_row p row nodes)
has_still p row q [] has = has
has_still p row q (n ∷ older) has =
    elim (cases_eq n.place q) [
      | inl same ↦ subst (λ (k : ℕ). HasNode k (rewritten p row n ∷ with_row p row older)) (same_place n ∙ same) (has_here (rewritten p row n) (with_row p row older))
      | inr apart ↦ has_more q (rewritten p row n) (with_row p row older) (has_still p row q older (rw (ne_eqb n.place q apart) at has))
    ]
  where
    same_place : (m : Node) → (rewritten p row m).place ≡ m.place
    same_place m = elim (cases_eq m.place p) [
      | inl same ↦ rw (eq-eqb m.place p same) refl
      | inr apart ↦ rw (ne_eqb m.place p apart) refl
    ]

pub written_twice : (p : ℕ) (first second : List ℕ) (nodes : List Node) → with_row p second (with_row p first nodes) ≡ with_row p second nodes
written_twice p first second [] = refl
written_twice p first second (n ∷ older) =
    ap₂ (λ (m : Node) (ms : List Node). m ∷ ms) (elim (cases_eq n.place p) [
      | inl same ↦ rw (eq-eqb n.place p same) (rw (eq-eqb n.place p same) refl)
      | inr apart ↦ rw (ne_eqb n.place p apart) (rw (ne_eqb n.place p apart) refl)
    ]) (written_twice p first second older)

pub row_written : (p : ℕ) (row : List ℕ) (nodes : List Node) → HasNode p nodes → row_of p (with_row p row nodes) ≡ row
row_written p row [] has = absurd cc
row_written p row (n ∷ older) has =
    elim (cases_eq n.place p) [
      | inl same ↦ rw (eq-eqb n.place p same) (rw (eq-eqb n.place p same) refl)
      | inr apart ↦ rw (ne_eqb n.place p apart) (rw (ne_eqb n.place p apart) (row_written p row older (rw (ne_eqb n.place p apart) at has)))
    ]

-- the row that is there, written anew
pub row_again : (p : ℕ) (nodes : List Node) → StandBehind nodes → HasNode p nodes → with_row p (row_of p nodes) nodes ≡ nodes
row_again p nodes stand has =
    let at = node_at p nodes has in
    rewritten_at p (row_of p nodes) nodes stand at
    ∙ ap (λ (row : List ℕ). set nodes at.index (with_own row at.node)) at.row
    ∙ set_same nodes at.index at.node at.there
