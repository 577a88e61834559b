-- A row that is written over in part.
use Rattle.std.proofs.Common.{◌≡◌, ◌≢◌, ℕ, ◌+◌, ◌≤◌, List, [], ◌∷◌, take, length, refl, ap, sym, ◌∙◌, subst, inl, inr, arith}
use Rattle.std.proofs.lemmas.Bool.{cases_eq, eq-eqb, ne_eqb, false≢true}
use Rattle.block_arena.specs.Bytes.{written}
use Rattle.block_arena.proofs.Copies.{length-written}
use Rattle.row_codec.specs.RowReading.{number_in}
use Rattle.bucket_table.specs.Tables.{Node, used_by, IsFramed, HasNode, first_row, row_of, rewritten, with_row}
use Rattle.bucket_table.specs.Regions.{cut}
use Rattle.bucket_table.specs.Threads.{AreNodes, IsTable, IsThreaded, link_to, nodes_in}
use Rattle.bucket_table.proofs.Cuts.{cut_around, cut_before, cut_behind, take_written}
use Rattle.bucket_table.proofs.Nodes.{from_here, from_past, has_past, link_here, link_past, node_inside, nodes_same}
use Rattle.bucket_table.proofs.Threaded.{table_is}

module _ (p : ℕ) (row : List ℕ) where
  here : (n : Node) → n.place ≡ p → rewritten p row n ≡ record n { row = row }
  here n same = rw (eq-eqb n.place p same) refl

  past : (n : Node) → n.place ≢ p → rewritten p row n ≡ n
  past n other = rw (ne_eqb n.place p other) refl

  place_same : (n : Node) → (rewritten p row n).place ≡ n.place
  place_same n = elim (cases_eq n.place p) [
    | inl same ↦ ap (λ (m : Node). m.place) (here n same)
    | inr other ↦ ap (λ (m : Node). m.place) (past n other)
  ]

  chain_same : (n : Node) → (rewritten p row n).chain ≡ n.chain
  chain_same n = elim (cases_eq n.place p) [
    | inl same ↦ ap (λ (m : Node). m.chain) (here n same)
    | inr other ↦ ap (λ (m : Node). m.chain) (past n other)
  ]

  -- links go to places alone
  pub link_kept : (k : ℕ) (nodes : List Node) → link_to k (with_row p row nodes) ≡ link_to k nodes
  link_kept k [] = refl
  link_kept k (n ∷ older) =
      elim (cases_eq n.chain k) [
        | inl same ↦
            link_here k (rewritten p row n) (with_row p row older) (chain_same n ∙ same) ∙ ap (λ (q : ℕ). q + 1) (place_same n)
            ∙ sym (link_here k n older same)
        | inr other ↦
            link_past k (rewritten p row n) (with_row p row older) (λ same. other (sym (chain_same n) ∙ same)) ∙ link_kept k older
            ∙ sym (link_past k n older other)
      ]

  -- nodes before it stay
  pub none_there : (heads : ℕ) (area : List ℕ) (nodes : List Node) → AreNodes heads area nodes → used_by nodes ≤ p → with_row p row nodes ≡ nodes
  none_there heads area [] are before = refl
  none_there heads area (n ∷ older) are before =
      let head : rewritten p row n ≡ n = past n (λ same. omega (arith, same, before)) in
      let rest : with_row p row older ≡ older = none_there heads area older are.1 (omega (arith, before, are.0.place)) in
      λ i. head i ∷ rest i

pub used_kept : (p : ℕ) (row : List ℕ) (nodes : List Node) → length row ≡ length (row_of p nodes) → HasNode p nodes → used_by (with_row p row nodes) ≡ used_by nodes
used_kept p row [] long has = refl
used_kept p row (n ∷ older) long has =
    elim (cases_eq n.place p) [
      | inl same ↦
          let size : length row ≡ length n.row = long ∙ ap (λ (nodes : List Node). length (first_row nodes)) (from_here p n older same) in
          ap (λ (m : Node). m.place + 4 + length m.row) (here p row n same) ∙ ap (λ (k : ℕ). n.place + 4 + k) size
      | inr other ↦ ap (λ (m : Node). m.place + 4 + length m.row) (past p row n other)
    ]

module _ (heads p off : ℕ) (piece area : List ℕ) where
  -- the bytes of the node's row are written from `off` on
  pub changed : (nodes : List Node) (row : List ℕ) → row ≡ written off piece (row_of p nodes) → AreNodes heads area nodes → HasNode p nodes → used_by nodes ≤ length area → off + length piece ≤ length (row_of p nodes) → IsFramed row
      → AreNodes heads (written (p + 4 + off) piece area) (with_row p row nodes)
  changed [] row is are has inside wide framed = absurd (false≢true has)
  changed (n ∷ older) row is are has inside wide framed =
      elim (cases_eq n.place p) [
        | inl same ↦
            let was : row_of p (n ∷ older) ≡ n.row = ap first_row (from_here p n older same) in
            let wide_here : off + length piece ≤ length n.row = rw was at wide in
            let row_is : row ≡ written off piece n.row = is ∙ ap (written off piece) was in
            let long : length row ≡ length n.row = ap length row_is ∙ length-written off piece n.row wide_here in
            let within : p + 4 + off + length piece ≤ length area = omega (arith, inside, same, wide_here) in
            let now = written (p + 4 + off) piece area in
            let front : take n.place now ≡ take n.place area = take_written (p + 4 + off) piece area within n.place (omega (arith, same)) in
            let rest : with_row p row older ≡ older = none_there p row heads area older are.1 (omega (arith, are.0.place, same)) in
            subst (AreNodes heads now) (λ i. sym (here p row n same) i ∷ sym rest i) (
              record {
                place = are.0.place;
                chain = are.0.chain;
                framed = framed;
                link = ap number_in (cut_before (p + 4 + off) piece area within n.place 4 (omega (arith, same))) ∙ are.0.link;
                row =
                    ap (λ (k : ℕ). cut (n.place + 4) k now) long
                    ∙ cut_around (p + 4 + off) piece area (n.place + 4) off (length n.row) within (omega (arith, same)) wide_here
                    ∙ ap (written off piece) are.0.row ∙ sym row_is;
              },
              nodes_same heads n.place area now older (omega (arith, are.0.place)) front are.1,
            )
        | inr other ↦
            let was : row_of p (n ∷ older) ≡ row_of p older = ap first_row (from_past p n older other) in
            let has_older : HasNode p older = has_past p n older other has in
            let wide_there : off + length piece ≤ length (row_of p older) = rw was at wide in
            let row_is : row ≡ written off piece (row_of p older) = is ∙ ap (written off piece) was in
            let long : length row ≡ length (row_of p older) = ap length row_is ∙ length-written off piece (row_of p older) wide_there in
            let end : p + 4 + length (row_of p older) ≤ used_by older = node_inside p heads area older are.1 has_older in
            let within : p + 4 + off + length piece ≤ length area = omega (arith, inside, end, wide_there, are.0.place) in
            let before : p + 4 + off + length piece ≤ n.place = omega (arith, end, wide_there, are.0.place) in
            let now = written (p + 4 + off) piece area in
            subst (λ (m : Node). AreNodes heads now (m ∷ with_row p row older)) (sym (past p row n other)) (
              record {
                place = are.0.place ∙ sym (used_kept p row older long has_older);
                chain = are.0.chain;
                framed = are.0.framed;
                link = ap number_in (cut_behind (p + 4 + off) piece area within n.place 4 before) ∙ are.0.link ∙ sym (link_kept p row n.chain older);
                row = cut_behind (p + 4 + off) piece area within (n.place + 4) (length n.row) (omega (arith, before)) ∙ are.0.row;
              },
              changed older row row_is are.1 has_older (omega (arith, inside, are.0.place)) wide_there framed,
            )
      ]

pub rewritten_table : (heads used p off : ℕ) (links area piece row : List ℕ) → IsTable heads used links area → HasNode p (nodes_in heads links area) → row ≡ written off piece (row_of p (nodes_in heads links area)) → off + length piece ≤ length (row_of p (nodes_in heads links area)) → IsFramed row
    → IsTable heads used links (written (p + 4 + off) piece area) × (nodes_in heads links (written (p + 4 + off) piece area) ≡ with_row p row (nodes_in heads links area)) × (length (written (p + 4 + off) piece area) ≡ length area)
rewritten_table heads used p off links area piece row is has row_is wide framed =
    let nodes = nodes_in heads links area in
    let threaded = is.threaded in
    let long : length row ≡ length (row_of p nodes) = ap length row_is ∙ length-written off piece (row_of p nodes) wide in
    let end : p + 4 + length (row_of p nodes) ≤ used_by nodes = node_inside p heads area nodes threaded.stand has in
    let same : length (written (p + 4 + off) piece area) ≡ length area = length-written (p + 4 + off) piece area (omega (arith, end, wide, threaded.inside)) in
    let used_same : used_by (with_row p row nodes) ≡ used_by nodes = used_kept p row nodes long has in
    let now : IsThreaded heads links (written (p + 4 + off) piece area) (with_row p row nodes) = record {
      stand = changed heads p off piece area nodes row row_is threaded.stand has threaded.inside wide framed;
      linked = λ k inside. threaded.linked k inside ∙ sym (link_kept p row k nodes);
      inside = omega (arith, used_same, same, threaded.inside);
    } in
    let table = table_is heads used links _ (with_row p row nodes) now (is.used_is ∙ sym used_same) is.sized is.some is.few (omega (arith, same, is.short)) in
    (table.0, table.1, same)
