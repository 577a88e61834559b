-- Rows that are put on their chains anew. About private fields; no public clause cites this.
use Rattle.std.specs.Prelude.{◌≡◌, ℕ, ◌+◌, ◌<◌, ◌≤◌, ◌^◌, List, [], ◌∷◌, All, length, map, ⊤}
use Rattle.bucket_table.specs.Regions.{Region, cut, with_bytes}
use Rattle.bucket_table.specs.Tables.{IsFramed, Node, used_by}
use Rattle.bucket_table.specs.Threads.{IsTable, nodes_in}
use Rattle.bucket_table.specs.Widening.{rechained}

-- the newest row stands behind the older ones, whatever link stands before it
pub record IsRow (area : List ℕ) (n : Node) (older : List Node) : Type 0 where
  pub place : n.place ≡ used_by older
  pub framed : IsFramed n.row
  pub row : cut (n.place + 4) (length n.row) area ≡ n.row

abbrev pub AreRows : List ℕ → List Node → Type 0
AreRows area [] = ⊤
AreRows area (n ∷ older) = IsRow area n older × AreRows area older

-- these rows take so much of an area, and none of them is longer than `most`
pub record HasRows (rows : List Node) (used most : ℕ) (area : List ℕ) : Type 0 where
  pub stand : AreRows area rows
  pub used_is : used ≡ used_by rows
  pub inside : used ≤ length area
  pub short : length area < 2 ^ 32
  pub fits : All (λ n. length n.row ≤ most) rows

-- the bytes of two areas changed, so that these rows stand on the chains of their hashes
pub record Rethreads (hash : List ℕ → ℕ) (rows : List Node) (heads used : ℕ) (links area links_now area_now : Region) : Type 0 where
  pub heads_same : links_now ≡ with_bytes links_now.bytes links
  pub rows_same : area_now ≡ with_bytes area_now.bytes area
  pub long : length area_now.bytes ≡ length area.bytes
  pub table : IsTable heads used links_now.bytes area_now.bytes
  pub nodes : nodes_in heads links_now.bytes area_now.bytes ≡ map (rechained hash heads) rows
