-- The nodes that heads and links lead to are the ones that stand there.
use Rattle.std.proofs.Common.{◌≡◌, ◌≢◌, ℕ, zero, suc, ◌+◌, ◌-◌, ◌*◌, ◌^◌, ◌<◌, ◌≤◌, List, [], ◌∷◌, take, drop, set, get_or, length, refl, ap, sym, ◌∙◌, subst, inl, inr, arith}
use Rattle.std.proofs.lemmas.Bool.{cases_eq, ne_eqb}
use Rattle.std.proofs.lemmas.List.{drop-drop, get_or-set_same, get_or-set_other, length-set}
use Rattle.row_codec.specs.RowReading.{number_in}
use Rattle.bucket_table.specs.Tables.{Node, used_by}
use Rattle.bucket_table.specs.Regions.{link_at}
use Rattle.bucket_table.specs.Threads.{AreNodes, IsTable, IsThreaded, greatest, link_to, links_in, nodes_from, nodes_in, place_in, row_at}
use Rattle.bucket_table.proofs.Heads.{greatest_below, greatest_is, place_is}
use Rattle.bucket_table.proofs.Nodes.{link_below, link_here, link_past, row_here}

-- ---- the heads as a list of links

pub links_long : (heads : ℕ) (bytes : List ℕ) → length (links_in heads bytes) ≡ heads
links_long zero bytes = refl
links_long (suc heads) bytes = ap suc (links_long heads (drop 4 bytes))

pub link_among : (heads k : ℕ) (bytes : List ℕ) → k < heads → get_or (links_in heads bytes) k 0 ≡ link_at bytes (4 * k)
link_among zero k bytes inside = absurd (omega (arith, inside))
link_among (suc heads) zero bytes inside = ap (link_at bytes) (let e : 0 ≡ 4 * 0 = omega arith in e)
link_among (suc heads) (suc k) bytes inside =
    link_among heads k (drop 4 bytes) (omega (arith, inside))
    ∙ ap (λ (rest : List ℕ). number_in (take 4 rest)) (drop-drop (4 * k) 4 bytes ∙ ap (λ (j : ℕ). drop j bytes) (let e : 4 + 4 * k ≡ 4 * suc k = omega arith in e))

-- ---- from such a list

-- each links to the newest of these nodes on its chain
pub record AreLinks (heads : ℕ) (ls : List ℕ) (nodes : List Node) : Type 0 where
  pub long : length ls ≡ heads
  pub each : (k : ℕ) → k < heads → get_or ls k 0 ≡ link_to k nodes

module _ (heads : ℕ) (area ls : List ℕ) (n : Node) (older : List Node) (are : AreNodes heads area (n ∷ older)) (links : AreLinks heads ls (n ∷ older)) where
  here : get_or ls n.chain 0 ≡ n.place + 1
  here = links.each n.chain are.0.chain ∙ link_here n.chain n older refl

  elsewhere : (j : ℕ) → j < length ls → j ≢ n.chain → get_or ls j 0 ≤ n.place
  elsewhere j inside other =
      let past : link_to j (n ∷ older) ≡ link_to j older = link_past j n older (λ same. other (sym same)) in
      let below : link_to j older ≤ used_by older = link_below j heads area older are.1 in
      let is : get_or ls j 0 ≡ link_to j (n ∷ older) = links.each j (omega (arith, inside, links.long)) in
      omega (arith, is, past, below, are.0.place)

  inside_of : n.chain < length ls
  inside_of = omega (arith, are.0.chain, links.long)

  all_below : (j : ℕ) → j < length ls → get_or ls j 0 ≤ n.place + 1
  all_below j inside =
      elim (cases_eq j n.chain) [
        | inl same ↦ subst (λ (k : ℕ). get_or ls k 0 ≤ n.place + 1) (sym same) (omega (arith, here))
        | inr other ↦ let below = elsewhere j inside other in omega (arith, below)
      ]

  pub greatest_here : greatest ls ≡ n.place + 1
  greatest_here = greatest_is (n.place + 1) n.chain ls inside_of here all_below

  pub place_here : place_in (n.place + 1) ls ≡ n.chain
  place_here = place_is (n.place + 1) n.chain ls inside_of here (λ j inside other same. let below = elsewhere j inside other in omega (arith, below, same))

  pub links_older : AreLinks heads (set ls n.chain (link_at area n.place)) older
  links_older = record {
    long = length-set ls n.chain (link_at area n.place) ∙ links.long;
    each = λ k inside.
        elim (cases_eq k n.chain) [
          | inl same ↦ subst (λ (j : ℕ). get_or (set ls n.chain (link_at area n.place)) j 0 ≡ link_to j older) (sym same) (get_or-set_same ls n.chain (link_at area n.place) 0 inside_of ∙ are.0.link)
          | inr other ↦ get_or-set_other ls n.chain k (link_at area n.place) 0 other ∙ links.each k inside ∙ link_past k n older (λ same. other (sym same))
        ];
  }

no_greatest : (heads : ℕ) (ls : List ℕ) → AreLinks heads ls [] → greatest ls ≡ 0
no_greatest heads ls links =
    let below : greatest ls ≤ 0 = greatest_below 0 ls (λ j inside. let none = links.each j (omega (arith, inside, links.long)) in omega (arith, none)) in
    omega (arith, below)

pub from_links : (most heads : ℕ) (area ls : List ℕ) (nodes : List Node) → length nodes ≤ most → AreNodes heads area nodes → AreLinks heads ls nodes → nodes_from most area ls ≡ nodes
from_links zero heads area ls [] few are links = refl
from_links (suc most) heads area ls [] few are links = rw (no_greatest heads ls links) refl
from_links zero heads area ls (n ∷ older) few are links = absurd (omega (arith, few))
from_links (suc most) heads area ls (n ∷ older) few are links =
    let top : greatest ls ≡ n.place + 1 = greatest_here heads area ls n older are links in
    let some : greatest ls ≢ 0 = λ none. omega (arith, none, top) in
    let place : greatest ls - 1 ≡ n.place = omega (arith, top) in
    let chain : place_in (greatest ls) ls ≡ n.chain = ap (λ (x : ℕ). place_in x ls) top ∙ place_here heads area ls n older are links in
    let row : row_at area (greatest ls - 1) ≡ n.row = ap (row_at area) place ∙ row_here heads area n older are.0 in
    let rest : nodes_from most area (set ls (place_in (greatest ls) ls) (link_at area (greatest ls - 1))) ≡ older =
    ap (λ (k : ℕ). nodes_from most area (set ls k (link_at area (greatest ls - 1)))) chain
    ∙ ap (λ (p : ℕ). nodes_from most area (set ls n.chain (link_at area p))) place
    ∙ from_links most heads area (set ls n.chain (link_at area n.place)) older (omega (arith, few)) are.1 (links_older heads area ls n older are links)
    in
    rw (ne_eqb (greatest ls) 0 some) (λ i. record { place = place i; chain = chain i; row = row i } ∷ rest i)

-- ---- the nodes of a table

pub few_nodes : (heads : ℕ) (area : List ℕ) (nodes : List Node) → AreNodes heads area nodes → length nodes ≤ used_by nodes
few_nodes heads area [] are = omega arith
few_nodes heads area (n ∷ older) are = let few = few_nodes heads area older are.1 in omega (arith, few, are.0.place)

pub nodes_are : (heads : ℕ) (links area : List ℕ) (nodes : List Node) → IsThreaded heads links area nodes → nodes_in heads links area ≡ nodes
nodes_are heads links area nodes is =
    let few = few_nodes heads area nodes is.stand in
    from_links (length area) heads area (links_in heads links) nodes (omega (arith, few, is.inside)) is.stand
    (record { long = links_long heads links; each = λ k inside. link_among heads k links inside ∙ is.linked k inside })

-- what the bytes of a table show, from how its nodes stand in them
pub table_is : (heads used : ℕ) (links area : List ℕ) (nodes : List Node) → IsThreaded heads links area nodes → used ≡ used_by nodes → 4 * heads ≤ length links → 0 < heads → 4 * heads < 2 ^ 32 → length area < 2 ^ 32 → IsTable heads used links area × (nodes_in heads links area ≡ nodes)
table_is heads used links area nodes is used_is sized some few short =
    let are : nodes_in heads links area ≡ nodes = nodes_are heads links area nodes is in (
      record {
        threaded = subst (IsThreaded heads links area) (sym are) is;
        used_is = used_is ∙ ap used_by (sym are);
        sized = sized;
        some = some;
        few = few;
        short = short;
      },
      are,
    )
