-- What links and lengths say of the nodes of a chain, and of nodes in the order in which they came.
use Rattle.std.proofs.Common.{◌≡◌, ◌≢◌, ℕ, ◌+◌, ◌<◌, ◌≤◌, List, [], ◌∷◌, length, Option, Some, None, IsSome, refl, ap, sym, ◌∙◌, subst, inl, inr, arith, add-one}
use Rattle.std.proofs.lemmas.Bool.{cases_eq, eq-eqb, ne_eqb, false≢true}
use Rattle.std.proofs.lemmas.Option.{none-some}
use Rattle.std.specs.Prelude.{slice_get}
use Rattle.bucket_table.specs.Tables.{Node, used_by, newest_on, HasNode, first_row, row_of, next_among, next_on_chain, oldest, newer_than}
use Rattle.bucket_table.specs.Regions.{link_at}
use Rattle.bucket_table.specs.Threads.{AreNodes, link_to, node_in}
use Rattle.bucket_table.proofs.Nodes.{from_here, from_past, has_past, link_here, link_past, node_inside}

newest_here : (k : ℕ) (n : Node) (older : List Node) → n.chain ≡ k → newest_on k (n ∷ older) ≡ Some n.place
newest_here k n older same = rw (eq-eqb n.chain k same) refl

newest_past : (k : ℕ) (n : Node) (older : List Node) → n.chain ≢ k → newest_on k (n ∷ older) ≡ newest_on k older
newest_past k n older other = rw (ne_eqb n.chain k other) refl

-- a head goes to the newest node of its chain
pub newest_is : (k : ℕ) (nodes : List Node) → node_in (link_to k nodes) ≡ newest_on k nodes
newest_is k [] = refl
newest_is k (n ∷ older) =
    elim (cases_eq n.chain k) [
      | inl same ↦ ap node_in (link_here k n older same ∙ add-one n.place) ∙ sym (newest_here k n older same)
      | inr other ↦ ap node_in (link_past k n older other) ∙ newest_is k older ∙ sym (newest_past k n older other)
    ]

pub has_more : (p : ℕ) (n : Node) (older : List Node) → HasNode p older → HasNode p (n ∷ older)
has_more p n older has =
    elim (cases_eq n.place p) [
      | inl same ↦ subst (λ (nodes : List Node). IsSome (slice_get nodes 0)) (sym (from_here p n older same)) refl
      | inr other ↦ subst (λ (nodes : List Node). IsSome (slice_get nodes 0)) (sym (from_past p n older other)) has
    ]

pub has_here : (n : Node) (older : List Node) → HasNode n.place (n ∷ older)
has_here n older = subst (λ (nodes : List Node). IsSome (slice_get nodes 0)) (sym (from_here n.place n older refl)) refl

abbrev value : Option ℕ → ℕ
value None = 0
value (Some x) = x

some_same : (p q : ℕ) → Some p ≡ Some q → p ≡ q
some_same p q same = ap value same

pub newest_has : (k p : ℕ) (nodes : List Node) → newest_on k nodes ≡ Some p → HasNode p nodes
newest_has k p [] found = absurd (none-some p found)
newest_has k p (n ∷ older) found =
    elim (cases_eq n.chain k) [
      | inl same ↦ subst (λ (q : ℕ). HasNode q (n ∷ older)) (some_same n.place p (sym (newest_here k n older same) ∙ found)) (has_here n older)
      | inr other ↦ has_more p n older (newest_has k p older (sym (newest_past k n older other) ∙ found))
    ]

-- a node's link goes to the next on its chain
pub next_is : (p heads : ℕ) (area : List ℕ) (nodes : List Node) → AreNodes heads area nodes → HasNode p nodes → node_in (link_at area p) ≡ next_on_chain p nodes
next_is p heads area [] are has = absurd (false≢true has)
next_is p heads area (n ∷ older) are has =
    elim (cases_eq n.place p) [
      | inl same ↦
          ap (λ (q : ℕ). node_in (link_at area q)) (sym same) ∙ ap node_in are.0.link ∙ newest_is n.chain older
          ∙ sym (ap next_among (from_here p n older same))
      | inr other ↦ next_is p heads area older are.1 (has_past p n older other has) ∙ sym (ap next_among (from_past p n older other))
    ]

pub next_has : (p q : ℕ) (nodes : List Node) → next_on_chain p nodes ≡ Some q → HasNode q nodes
next_has p q [] found = absurd (none-some q found)
next_has p q (n ∷ older) found =
    elim (cases_eq n.place p) [
      | inl same ↦ has_more q n older (newest_has n.chain q older (sym (ap next_among (from_here p n older same)) ∙ found))
      | inr other ↦ has_more q n older (next_has p q older (sym (ap next_among (from_past p n older other)) ∙ found))
    ]

-- ---- in the order in which they came

pub oldest_is : (heads : ℕ) (area : List ℕ) (nodes : List Node) → AreNodes heads area nodes → 0 < used_by nodes → (oldest nodes ≡ Some 0) × HasNode 0 nodes
oldest_is heads area [] are some = absurd (omega (arith, some))
oldest_is heads area (n ∷ []) are some = (ap Some are.0.place, subst (λ (q : ℕ). HasNode q (n ∷ [])) are.0.place (has_here n []))
oldest_is heads area (n ∷ m ∷ older) are some =
    let rest = oldest_is heads area (m ∷ older) are.1 (omega arith) in
    (rest.0, has_more 0 n (m ∷ older) rest.1)

pub oldest_none : (nodes : List Node) → used_by nodes ≡ 0 → oldest nodes ≡ None
oldest_none [] none = refl
oldest_none (n ∷ older) none = absurd (omega (arith, none))

newer_here : (p : ℕ) (n m : Node) (older : List Node) → m.place ≡ p → newer_than p (n ∷ m ∷ older) ≡ Some n.place
newer_here p n m older same = rw (eq-eqb m.place p same) refl

newer_past : (p : ℕ) (n m : Node) (older : List Node) → m.place ≢ p → newer_than p (n ∷ m ∷ older) ≡ newer_than p (m ∷ older)
newer_past p n m older other = rw (ne_eqb m.place p other) refl

row_len_here : (p : ℕ) (n : Node) (older : List Node) → n.place ≡ p → length (row_of p (n ∷ older)) ≡ length n.row
row_len_here p n older same = ap (λ (nodes : List Node). length (first_row nodes)) (from_here p n older same)

row_len_past : (p : ℕ) (n : Node) (older : List Node) → n.place ≢ p → length (row_of p (n ∷ older)) ≡ length (row_of p older)
row_len_past p n older other = ap (λ (nodes : List Node). length (first_row nodes)) (from_past p n older other)

-- where a row ends at the end of all, it is the newest
pub newest_of_all : (p heads : ℕ) (area : List ℕ) (nodes : List Node) → AreNodes heads area nodes → HasNode p nodes → p + 4 + length (row_of p nodes) ≡ used_by nodes → newer_than p nodes ≡ None
newest_of_all p heads area [] are has end = refl
newest_of_all p heads area (n ∷ []) are has end = refl
newest_of_all p heads area (n ∷ m ∷ older) are has end =
    elim (cases_eq n.place p) [
      | inl same ↦ newer_past p n m older (λ there. omega (arith, there, same, are.0.place)) ∙ none_behind p (m ∷ older) heads area are.1 (omega (arith, are.0.place, same))
      | inr other ↦
          let inside = node_inside p heads area (m ∷ older) are.1 (has_past p n (m ∷ older) other has) in
          let past = row_len_past p n (m ∷ older) other in
          absurd (omega (arith, inside, past, end, are.0.place))
    ]
  where
    none_behind : (p : ℕ) (nodes : List Node) (heads : ℕ) (area : List ℕ) → AreNodes heads area nodes → used_by nodes ≤ p → newer_than p nodes ≡ None
    none_behind p [] heads area are before = refl
    none_behind p (n ∷ []) heads area are before = refl
    none_behind p (n ∷ m ∷ older) heads area are before =
        newer_past p n m older (λ there. omega (arith, there, before, are.0.place)) ∙ none_behind p (m ∷ older) heads area are.1 (omega (arith, before, are.0.place))

-- else the next one begins there
pub newer_is : (p heads : ℕ) (area : List ℕ) (nodes : List Node) → AreNodes heads area nodes → HasNode p nodes → p + 4 + length (row_of p nodes) ≢ used_by nodes
    → (newer_than p nodes ≡ Some (p + 4 + length (row_of p nodes))) × HasNode (p + 4 + length (row_of p nodes)) nodes
newer_is p heads area [] are has other = absurd (false≢true has)
newer_is p heads area (n ∷ []) are has other =
    elim (cases_eq n.place p) [
      | inl same ↦ let here = row_len_here p n [] same in absurd (other (omega (arith, here, same)))
      | inr away ↦ absurd (false≢true (has_past p n [] away has))
    ]
newer_is p heads area (n ∷ m ∷ older) are has other =
    elim (cases_eq n.place p) [
      | inl same ↦ let here = row_len_here p n (m ∷ older) same in absurd (other (omega (arith, here, same)))
      | inr away ↦
          let past : length (row_of p (n ∷ m ∷ older)) ≡ length (row_of p (m ∷ older)) = row_len_past p n (m ∷ older) away in
          elim (cases_eq m.place p) [
            | inl there ↦
                let here = row_len_here p m older there in
                let end : n.place ≡ p + 4 + length (row_of p (n ∷ m ∷ older)) = omega (arith, past, here, there, are.0.place) in (
                  newer_here p n m older there ∙ ap Some end,
                  subst (λ (q : ℕ). HasNode q (n ∷ m ∷ older)) end (has_here n (m ∷ older)),
                )
            | inr further ↦
                let has_rest : HasNode p (m ∷ older) = has_past p n (m ∷ older) away has in
                let before : p + 4 + length (row_of p (m ∷ older)) ≢ used_by (m ∷ older) = λ end.
                (let deep = node_inside p heads area older are.1.1 (has_past p m older further has_rest) in
                let len = row_len_past p m older further in omega (arith, deep, len, end, are.1.0.place)) in
                let rest = newer_is p heads area (m ∷ older) are.1 has_rest before in
                let width : p + 4 + length (row_of p (m ∷ older)) ≡ p + 4 + length (row_of p (n ∷ m ∷ older)) = ap (λ (k : ℕ). p + 4 + k) (sym past) in (
                  newer_past p n m older further ∙ rest.0 ∙ ap Some width,
                  subst (λ (q : ℕ). HasNode q (n ∷ m ∷ older)) width (has_more (p + 4 + length (row_of p (m ∷ older))) n (m ∷ older) rest.1),
                )
          ]
    ]
