-- How many pages a stream has, and where reading starts. Statements alone.
use Rattle.std.specs.Prelude.{◌≡◌, ℕ, ◌+◌, ◌*◌, ◌≤◌, ◌==◌, List, length, if◌then◌else◌}
use Rattle.std.specs.List.{concat}
use Rattle.store_api.specs.Holdings.{Holdings}
use Rattle.tuple_stream.specs.Streamed.{Streamed, len_in}
use Rattle.tuple_stream.specs.Streams.{IsShaped, HasRows}
use Rattle.tuple_stream.specs.Places.{IsPlace, IsWithin, rows_from, first}

-- no more than it has rows, and together no more than twice the bytes of the rows and one page, or two where a part
-- of the first page is spent
pub record FewPages (rows : List (List ℕ)) (s : Streamed) (h : Holdings) : Type 0 where
  pub by_rows : length s.pages ≤ length rows
  pub by_bytes : length s.pages * len_in s h ≤ 2 * length (concat rows) + (if s.spent == 0 then 1 else 2) * len_in s h

-- that is so of every stream that shows its rows
abbrev pub AllFew : Type 0
AllFew = (t : ℕ) (rows : List (List ℕ)) (s : Streamed) (h : Holdings) → IsShaped t s h → HasRows rows s h → FewPages rows s h

-- the start is within every stream; it is a place of each that shows its rows, and all of them are behind it
pub record Starts (t : ℕ) (s : Streamed) (h : Holdings) : Type 0 where
  pub within : IsWithin first s
  pub place : (rows : List (List ℕ)) → IsShaped t s h → HasRows rows s h → IsPlace first s h × (rows_from first s h ≡ rows)

abbrev pub StartsFirst : Type 0
StartsFirst = (t : ℕ) (s : Streamed) (h : Holdings) → Starts t s h
