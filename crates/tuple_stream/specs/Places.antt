-- Places in a stream.
use Rattle.std.specs.Prelude.{◌≡◌, ℕ, ◌+◌, ◌-◌, ◌≤◌, ◌==◌, List, [], ◌++◌, length, drop, max, if◌then◌else◌}
use Rattle.std.specs.List.{concat}
use Rattle.store_api.specs.Holdings.{Holdings}
use Rattle.tuple_stream.specs.Streamed.{Streamed, all_bytes, joined, rows_by_page, rows_of}

-- a byte of a page, and how many rows stand before it, all counted from 0
pub record Place : Type 0 where
  pub page : ℕ
  pub byte : ℕ
  pub row : ℕ

-- where reading goes on: nothing that is spent is read
abbrev pub start_in : Streamed → Place → ℕ
start_in s place = if place.page == 0 then max place.byte s.spent else place.byte

-- the rows from a place on
abbrev pub rows_from : Place → Streamed → Holdings → List (List ℕ)
rows_from place s h = joined (rows_by_page (start_in s place) (all_bytes s h (drop place.page s.pages)))

-- the place stands before a row of the stream, or at its end
pub record IsPlace (place : Place) (s : Streamed) (h : Holdings) : Type 0 where
  pub before : List (List ℕ)
  pub rows : rows_of s h ≡ before ++ rows_from place s h
  pub behind : place.row ≡ length before
  pub page_is : place.page ≤ length s.pages - 1
  pub first : s.pages ≡ [] → place.byte ≡ 0
  pub last : place.page + 1 ≡ length s.pages → start_in s place + length (concat (rows_from place s h)) ≡ s.used

-- each place still is one, and behind it stand the same rows, and then these
abbrev pub KeepsPlaces : List (List ℕ) → Streamed → Streamed → Holdings → Holdings → Type 0
KeepsPlaces more s now old new =
    (place : Place) → IsPlace place s old → IsPlace place now new × (rows_from place now new ≡ rows_from place s old ++ more)

-- whatever its pages show, a place names a page of the stream, where there is one, and has no more rows before it than there are
pub record IsWithin (place : Place) (s : Streamed) : Type 0 where
  pub page_is : place.page ≤ length s.pages - 1
  pub row_is : place.row ≤ s.count

-- the start
abbrev pub first : Place
first = record { page = 0; byte = 0; row = 0 }
