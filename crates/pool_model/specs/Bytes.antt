-- Bytes of blocks.
use Rattle.std.specs.Prelude.{ℕ, ◌*◌, Bool, true, false}

-- the bytes of so many blocks of this length
unfoldable pub bytes_of : ℕ → ℕ → ℕ
bytes_of block_len blocks = blocks * block_len

-- so many where it is so, and else none
abbrev pub only_if : Bool → ℕ → ℕ
only_if true n = n
only_if false n = 0
