-- The row of a node of a table.
use Rattle.std.proofs.Common.{◌≡◌, ◌≢◌, ℕ, ◌+◌, ◌^◌, ◌<◌, ◌≤◌, List, take, drop, length, Option, Some, None, IfSome, ap, sym, ◌∙◌, inl, inr, arith, add-zero}
use Rattle.std.proofs.lemmas.Bool.{cases_lt}
use Rattle.std.proofs.lemmas.List.{length-take, length-drop}
use Rattle.std.specs.Int.{w128, to_be_bytes}
use Rattle.block_arena.proofs.Copies.{length-written}
use Rattle.row_codec.specs.RowReading.{number_in}
use Rattle.bucket_table.specs.Tables.{Node, used_by, newest_on, next_on_chain, IsFramed, HasNode, part_of, row_of, with_number}
use Rattle.bucket_table.specs.Regions.{cut, link_at}
use Rattle.bucket_table.specs.Threads.{IsTable, nodes_in}
use Rattle.bucket_table.proofs.Cuts.{cut_cut, take_written}
use Rattle.bucket_table.proofs.LookedUp.{newest_has, next_has}
use Rattle.bucket_table.proofs.Nodes.{framed_long, node_inside, row_there}

pub record IsThere (p : ℕ) (row area : List ℕ) (end : ℕ) : Type 0 where
  pub head : link_at area (p + 4) + 4 ≡ length row
  pub bytes : cut (p + 4) (length row) area ≡ row
  pub framed : IsFramed row
  pub long : 4 ≤ length row
  pub ends : p + 4 + length row ≤ end
  pub inside : end ≤ length area
  pub short : length area < 2 ^ 32

pub there : (heads used p : ℕ) (links area : List ℕ) → IsTable heads used links area → HasNode p (nodes_in heads links area) → IsThere p (row_of p (nodes_in heads links area)) area (used_by (nodes_in heads links area))
there heads used p links area is has =
    let row = row_there p heads area (nodes_in heads links area) is.threaded.stand has in
    record {
      head = row.0;
      bytes = row.1;
      framed = row.2;
      long = framed_long _ row.2;
      ends = node_inside p heads area (nodes_in heads links area) is.threaded.stand has;
      inside = is.threaded.inside;
      short = is.short;
    }

-- a part of it is a part of the area
pub part_there : (p at n end : ℕ) (row area : List ℕ) → IsThere p row area end → at + n ≤ length row → part_of at n row ≡ cut (p + 4 + at) n area
part_there p at n end row area is inside = ap (cut at n) (sym is.bytes) ∙ cut_cut (p + 4) (length row) at n area inside

-- no bytes are a part that goes past its end
pub too_long : (at n : ℕ) (row : List ℕ) → length row < at + n → 0 < n → length (part_of at n row) ≢ n
too_long at n row past some same =
    let short : length (part_of at n row) ≤ length (drop at row) = length_take n (drop at row) in
    omega (arith, short, same, past, some, length-drop at row)
  where
    length_take : (n : ℕ) (xs : List ℕ) → length (take n xs) ≤ length xs
    length_take n xs = omega (arith, length-take n xs)

-- ---- its first bytes, where they reach far enough

module _ (p at count end : ℕ) (row area front bytes : List ℕ) (is : IsThere p row area end) (front_is : front ≡ cut p count area) (head : 8 ≤ count) where
  pub front_link : link_at front 0 ≡ link_at area p
  front_link = ap (λ (xs : List ℕ). link_at xs 0) front_is ∙ ap number_in (cut_cut p count 0 4 area (omega (arith, head)) ∙ ap (λ (k : ℕ). cut k 4 area) (add-zero p))

  front_len : link_at front 4 + 4 ≡ length row
  front_len = ap (λ (xs : List ℕ). link_at xs 4 + 4) front_is ∙ ap (λ (xs : List ℕ). number_in xs + 4) (cut_cut p count 4 4 area (omega (arith, head))) ∙ is.head

  module _ (some : 0 < length bytes) (reach : 4 + (at + length bytes) ≤ count) where
    front_part : at + length bytes ≤ length row → part_of at (length bytes) row ≡ cut (4 + at) (length bytes) front
    front_part inside =
        part_there p at (length bytes) end row area is inside
        ∙ ap (λ (k : ℕ). cut k (length bytes) area) (let e : p + 4 + at ≡ p + (4 + at) = omega arith in e)
        ∙ sym (cut_cut p count (4 + at) (length bytes) area (omega (arith, reach)))
        ∙ ap (cut (4 + at) (length bytes)) (sym front_is)

    pub front_shows : ((at + length bytes ≤ link_at front 4 + 4) × (cut (4 + at) (length bytes) front ≡ bytes)) → part_of at (length bytes) row ≡ bytes
    front_shows shown = front_part (omega (arith, shown.0, front_len)) ∙ shown.1

    pub front_shown : part_of at (length bytes) row ≡ bytes → (at + length bytes ≤ link_at front 4 + 4) × (cut (4 + at) (length bytes) front ≡ bytes)
    front_shown shown =
        let inside : at + length bytes ≤ length row =
        elim (cases_lt (length row) (at + length bytes)) [
          | inl past ↦ absurd (too_long at (length bytes) row past some (ap length shown))
          | inr within ↦ within
        ]
        in
        (omega (arith, inside, front_len), sym (front_part inside) ∙ shown)

-- ---- what is found has a node

pub found_on : (k : ℕ) (nodes : List Node) (found : Option ℕ) → found ≡ newest_on k nodes → IfSome found (λ p. HasNode p nodes)
found_on k nodes None is = tt
found_on k nodes (Some p) is = newest_has k p nodes (sym is)

pub found_next : (p : ℕ) (nodes : List Node) (found : Option ℕ) → found ≡ next_on_chain p nodes → IfSome found (λ q. HasNode q nodes)
found_next p nodes None is = tt
found_next p nodes (Some q) is = next_has p q nodes (sym is)

-- ---- a number in it

pub number_framed : (at value : ℕ) (row : List ℕ) → IsFramed row → 4 ≤ at → at + 16 ≤ length row → IsFramed (with_number at value row)
number_framed at value row framed behind wide =
    let long : length (with_number at value row) ≡ length row = length-written at (to_be_bytes w128 value) row wide in
    ap (λ (head : List ℕ). number_in head + 4) (take_written at (to_be_bytes w128 value) row wide 4 behind) ∙ framed ∙ sym long
