-- Blocks. Lengths are in bytes.
use Rattle.std.specs.Prelude.{◌≡◌, ◌==◌, ℕ, List, [], ◌∷◌, All, IsTrue, length}
use Rattle.std.specs.List.{list_any}

-- how long a block may be: a power of two from 64 to 65536
abbrev pub IsBlockLen : ℕ → Type 0
IsBlockLen n = IsTrue (list_any (λ len. len == n) (64 ∷ 128 ∷ 256 ∷ 512 ∷ 1024 ∷ 2048 ∷ 4096 ∷ 8192 ∷ 16384 ∷ 32768 ∷ 65536 ∷ []))

-- every block has `len` bytes
abbrev pub AreBlocks : ℕ → List (List ℕ) → Type 0
AreBlocks len blocks = All (λ block. length block ≡ len) blocks
