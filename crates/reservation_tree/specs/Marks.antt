-- Marks of stored blocks, as bytes.
use Rattle.std.specs.Prelude.{◌≡◌, ◌<◌, ◌^◌, ◌++◌, ℕ, List}
use Rattle.std.specs.Int.{w32, w64, to_be_bytes}
use Rattle.reservation_tree.specs.declared.mark.Mark.{Mark}

-- the twenty bytes of a mark: each number with its highest byte first
unfoldable pub mark_bytes : Mark → List ℕ
mark_bytes m = to_be_bytes w64 m.name ++ (to_be_bytes w64 m.version ++ to_be_bytes w32 m.block)

-- the numbers are values of their types
pub record IsMark (m : Mark) : Type 0 where
  pub name : m.name < 2 ^ 64
  pub version : m.version < 2 ^ 64
  pub block : m.block < 2 ^ 32

-- marks with the same bytes are the same
abbrev pub MarksDiffer : Type 0
MarksDiffer = (m n : Mark) → IsMark m → IsMark n → mark_bytes m ≡ mark_bytes n → m ≡ n
