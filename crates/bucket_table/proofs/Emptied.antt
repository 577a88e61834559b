-- A table without rows.
use Rattle.std.proofs.Common.{◌≡◌, ℕ, ◌+◌, ◌-◌, ◌*◌, ◌/◌, ◌^◌, ◌<◌, ◌≤◌, List, [], length, take, replicate, refl, ap, sym, ◌∙◌, subst, arith}
use Rattle.std.proofs.lemmas.List.{drop-replicate, length-replicate, take-replicate}
use Rattle.row_codec.specs.RowReading.{number_in}
use Rattle.bucket_table.specs.Regions.{link_at}
use Rattle.bucket_table.specs.Threads.{IsTable, IsThreaded, nodes_in}
use Rattle.bucket_table.proofs.Threaded.{table_is}

pub link_in_zeros : (n at : ℕ) → at + 4 ≤ n → link_at (replicate n 0) at ≡ 0
link_in_zeros n at inside = ap (λ (bytes : List ℕ). number_in (take 4 bytes)) (drop-replicate at n 0) ∙ ap number_in (take-replicate 4 (n - at) 0 (omega (arith, inside)))

-- no head links to a node
pub empty_table : (heads n : ℕ) (area : List ℕ) → 4 * heads ≤ n → 0 < heads → 4 * heads < 2 ^ 32 → length area < 2 ^ 32 → IsTable heads 0 (replicate n 0) area × (nodes_in heads (replicate n 0) area ≡ [])
empty_table heads n area sized some few short =
    let is : IsThreaded heads (replicate n 0) area [] = record {
      stand = tt;
      linked = λ k inside. link_in_zeros n (4 * k) (omega (arith, inside, sized));
      inside = omega arith;
    } in
    table_is heads 0 (replicate n 0) area [] is refl (let long = length-replicate {A = ℕ} n 0 in omega (arith, long, sized)) some few short

-- a table whose heads are all zero
pub empty_over : (heads : ℕ) (links area : List ℕ) → heads ≡ length links / 4 → links ≡ replicate (length links) 0 → 4 ≤ length links → length links < 2 ^ 32 → length area < 2 ^ 32 → IsTable heads 0 links area × (nodes_in heads links area ≡ [])
empty_over heads links area is zeros some few short =
    let n = length links in
    let empty = empty_table heads n area (omega (arith, is)) (omega (arith, is, some)) (omega (arith, is, few)) short in
    (subst (λ (l : List ℕ). IsTable heads 0 l area) (sym zeros) empty.0, subst (λ (l : List ℕ). nodes_in heads l area ≡ []) (sym zeros) empty.1)
