-- A node that comes in front of its chain.
use Rattle.std.proofs.Common.{◌≡◌, ◌≢◌, ℕ, ◌+◌, ◌*◌, ◌^◌, ◌<◌, ◌≤◌, List, ◌∷◌, take, length, refl, ap, sym, ◌∙◌, subst, inl, inr, arith}
use Rattle.std.specs.Int.{w32, to_be_bytes}
use Rattle.std.proofs.lemmas.Bool.{cases_eq, cases_lt}
use Rattle.block_arena.specs.Bytes.{written}
use Rattle.block_arena.proofs.Copies.{length-written}
use Rattle.row_codec.specs.RowReading.{number_in}
use Rattle.bucket_table.specs.Tables.{Node, used_by, new_node, IsFramed}
use Rattle.bucket_table.specs.Regions.{cut, link_at}
use Rattle.bucket_table.specs.Threads.{IsNode, IsTable, IsThreaded, link_to, nodes_in}
use Rattle.bucket_table.proofs.Cuts.{cut_before, cut_behind, cut_written, take_written}
use Rattle.bucket_table.proofs.Nodes.{link_below, link_here, link_past, nodes_same}
use Rattle.bucket_table.proofs.Spelling.{link_back}
use Rattle.bucket_table.proofs.Threaded.{table_is}

-- ---- a link that is written

pub link_now : (at link : ℕ) (bytes : List ℕ) → link < 2 ^ 32 → at + 4 ≤ length bytes → link_at (written at (to_be_bytes w32 link) bytes) at ≡ link
link_now at link bytes short inside = ap number_in (cut_written at (to_be_bytes w32 link) bytes inside) ∙ link_back link short

pub link_else : (k j link heads : ℕ) (bytes : List ℕ) → k < heads → j ≢ k → 4 * heads ≤ length bytes → link_at (written (4 * k) (to_be_bytes w32 link) bytes) (4 * j) ≡ link_at bytes (4 * j)
link_else k j link heads bytes inside other long =
    let within : 4 * k + 4 ≤ length bytes = omega (arith, inside, long) in
    elim (cases_lt j k) [
      | inl below ↦ ap number_in (cut_before (4 * k) (to_be_bytes w32 link) bytes within (4 * j) 4 (omega (arith, below)))
      | inr above ↦ ap number_in (cut_behind (4 * k) (to_be_bytes w32 link) bytes within (4 * j) 4 (omega (arith, above, other)))
    ]

module _ (heads used k : ℕ) (links area row : List ℕ) (nodes : List Node) (is : IsThreaded heads links area nodes) (used_is : used ≡ used_by nodes) (sized : 4 * heads ≤ length links) (inside : k < heads) (framed : IsFramed row) (short : length area < 2 ^ 32) (room : used + 4 + length row ≤ length area) where
  abbrev pub linked_area : List ℕ
  linked_area = written used (to_be_bytes w32 (link_at links (4 * k))) area

  linked_long : length linked_area ≡ length area
  linked_long = length-written used (to_be_bytes w32 (link_at links (4 * k))) area (omega (arith, room))

  pub area_long : length (written (used + 4) row (written used (to_be_bytes w32 (link_at links (4 * k))) area)) ≡ length area
  area_long = length-written (used + 4) row linked_area (omega (arith, room, linked_long)) ∙ linked_long

  pub links_long_now : length (written (4 * k) (to_be_bytes w32 (used + 1)) links) ≡ length links
  links_long_now = length-written (4 * k) (to_be_bytes w32 (used + 1)) links (omega (arith, inside, sized))

  row_room : used + 4 + length row ≤ length linked_area
  row_room = omega (arith, room, linked_long)

  link_room : used + 4 ≤ length area
  link_room = omega (arith, room)

  same_before : take used (written (used + 4) row linked_area) ≡ take used area
  same_before =
      take_written (used + 4) row linked_area row_room used (omega arith)
      ∙ take_written used (to_be_bytes w32 (link_at links (4 * k))) area link_room used (omega arith)

  head_is : link_at links (4 * k) ≡ link_to k nodes
  head_is = is.linked k inside

  new_is : IsNode heads (written (used + 4) row linked_area) (new_node k row nodes) nodes
  new_is = record {
    place = refl;
    chain = inside;
    framed = framed;
    link = subst (λ (p : ℕ). link_at (written (used + 4) row linked_area) p ≡ link_to k nodes) used_is
        (ap number_in (cut_before (used + 4) row linked_area row_room used 4 (omega arith))
        ∙ link_now used (link_at links (4 * k)) area (let below = link_below k heads area nodes is.stand in omega (arith, head_is, below, used_is, link_room, short)) link_room
        ∙ head_is);
    row = subst (λ (p : ℕ). cut (p + 4) (length row) (written (used + 4) row linked_area) ≡ row) used_is (cut_written (used + 4) row linked_area row_room);
  }

  new_linked : (j : ℕ) → j < heads → link_at (written (4 * k) (to_be_bytes w32 (used + 1)) links) (4 * j) ≡ link_to j (new_node k row nodes ∷ nodes)
  new_linked j within =
      elim (cases_eq j k) [
        | inl same ↦
            subst (λ (i : ℕ). link_at (written (4 * k) (to_be_bytes w32 (used + 1)) links) (4 * i) ≡ link_to i (new_node k row nodes ∷ nodes)) (sym same)
            (link_now (4 * k) (used + 1) links (omega (arith, link_room, short)) (omega (arith, inside, sized))
            ∙ ap (λ (p : ℕ). p + 1) used_is ∙ sym (link_here k (new_node k row nodes) nodes refl))
        | inr other ↦
            link_else k j (used + 1) heads links inside other sized ∙ is.linked j within
            ∙ sym (link_past j (new_node k row nodes) nodes (λ same. other (sym same)))
      ]

  pub new_threaded : IsThreaded heads (written (4 * k) (to_be_bytes w32 (used + 1)) links) (written (used + 4) row linked_area) (new_node k row nodes ∷ nodes)
  new_threaded = record {
    stand = (new_is, nodes_same heads used area (written (used + 4) row linked_area) nodes (omega (arith, used_is)) same_before is.stand);
    linked = new_linked;
    inside = omega (arith, room, used_is, area_long);
  }

pub inserted : (heads used k : ℕ) (links area row : List ℕ) → IsTable heads used links area → k < heads → IsFramed row → used + 4 + length row ≤ length area
    → (let links_now : List ℕ = written (4 * k) (to_be_bytes w32 (used + 1)) links in let area_now : List ℕ = written (used + 4) row (written used (to_be_bytes w32 (link_at links (4 * k))) area) in
    IsTable heads (used + 4 + length row) links_now area_now × (nodes_in heads links_now area_now ≡ new_node k row (nodes_in heads links area) ∷ nodes_in heads links area) × (length area_now ≡ length area))
inserted heads used k links area row is inside framed room =
    let nodes = nodes_in heads links area in
    let threaded = new_threaded heads used k links area row nodes is.threaded is.used_is is.sized inside framed is.short room in
    let long = area_long heads used k links area row nodes is.threaded is.used_is is.sized inside framed is.short room in
    let links_same = links_long_now heads used k links area row nodes is.threaded is.used_is is.sized inside framed is.short room in
    let used_now : used + 4 + length row ≡ used_by (new_node k row nodes ∷ nodes) = ap (λ (p : ℕ). p + 4 + length row) is.used_is in
    let table = table_is heads (used + 4 + length row) _ _ (new_node k row nodes ∷ nodes) threaded used_now (omega (arith, links_same, is.sized)) is.some is.few (omega (arith, long, is.short)) in
    (table.0, table.1, long)
