-- Partitions of rows that stand on one another. The last one is the top. Lengths are in bytes.
use Rattle.std.specs.Prelude.{All, ◌≡◌, ℕ, ◌+◌, ◌-◌, ◌*◌, ◌^◌, ◌<◌, ◌≤◌, List, [], ◌++◌, length, replicate, set, slice_get, sum_by, Some, None}
use Rattle.store_api.specs.Conditions.{IsBlockCount}
use Rattle.store_api.specs.Holdings.{Holdings, length_of, unused_of}
use Rattle.store_api.specs.Signs.{Signs}
use Rattle.tuple_stream.specs.Streamed.{Streamed}
use Rattle.tuple_stream.specs.Families.{Family, family, held_in}

-- the blocks of each page; a stream of rows for each partition; and the level of each, which is how many nibbles of a
-- path its rows have in common
pub record Stack : Type 0 where
  pub page_blocks : ℕ
  pub streams : List Streamed
  pub levels : List ℕ

-- the streams over a store
abbrev pub over : Stack → Holdings → Signs → Family
over p h signs = family p.streams h signs

-- a stream without rows
abbrev pub empty : ℕ → Streamed
empty blocks = record { page_blocks = blocks; pages = []; pinned = None; spent = 0; used = 0; count = 0 }

-- a stack without partitions
abbrev pub no_stack : ℕ → Stack
no_stack blocks = record { page_blocks = blocks; streams = []; levels = [] }

-- sixteen partitions without rows, of the first level
abbrev pub first_sixteen : ℕ → Stack
first_sixteen blocks = record { page_blocks = blocks; streams = replicate 16 (empty blocks); levels = replicate 16 1 }

-- sixteen more on top, of the level above the one at this place, which has none of its rows from then on and the same level
abbrev pub divided : ℕ → ℕ → Stack → Stack
divided at level p = record p {
  streams = p.streams ++ replicate 16 (empty p.page_blocks);
  levels = set p.levels at (level + 1) ++ replicate 16 (level + 1);
}

-- where a partition stands: at a level from 1 to 16, and no higher than seventeen times that
pub record IsPlaced (at level : ℕ) : Type 0 where
  pub deep : level ≤ 16
  pub low : at < 17 * level

-- no partition has a page
abbrev pub HaveNoPages : List Streamed → Type 0
HaveNoPages streams = All (λ s. (s.pages ≡ []) × (s.pinned ≡ None)) streams

-- each partition has a level, and its pages have the stack's blocks
pub record IsStack (p : Stack) : Type 0 where
  pub sized : IsBlockCount p.page_blocks
  pub each : (i : ℕ) (s : Streamed) → slice_get p.streams i ≡ Some s → s.page_blocks ≡ p.page_blocks
  pub levelled : length p.levels ≡ length p.streams
  pub placed : (i level : ℕ) → slice_get p.levels i ≡ Some level → IsPlaced i level

-- what is left to do: a partition outweighs seventeen of the next level
abbrev pub weight : Stack → ℕ
weight p = sum_by (λ level. 18 ^ (16 - level)) p.levels

-- no page of the partitions below this one is pinned
abbrev pub RestBelow : ℕ → Stack → Type 0
RestBelow from p = (i : ℕ) (s : Streamed) → slice_get p.streams i ≡ Some s → i < from → s.pinned ≡ None

-- those below this one rest, and from there on the client has room for a page of each, those counted that are pinned
pub record HasRoomFrom (t from : ℕ) (p : Stack) (h : Holdings) (signs : Signs) : Type 0 where
  pub rests : RestBelow from p
  pub room : (length p.streams - from) * length_of p.page_blocks h ≤ unused_of t h + held_in (over p h signs)
