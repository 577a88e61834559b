-- What a contract sees of an arena and of a buffer. Lengths are in bytes.
use Rattle.std.specs.Prelude.{◌≡◌, ℕ, ◌+◌, ◌*◌, List, drop, length, slice_range}
use Rattle.block_arena.specs.Bytes.{fitted, written}

-- how many blocks an arena was opened with, how many of them are free, and the length of each
pub record Supply : Type 0 where
  pub block_len : ℕ
  pub blocks : ℕ
  pub free : ℕ

-- the blocks of a buffer, how long each is, and the bytes of all of them in one list
pub record Buffer : Type 0 where
  pub block_len : ℕ
  pub blocks : ℕ
  pub bytes : List ℕ

-- a buffer of so many blocks, each so long
pub record IsBufferOf (count len : ℕ) (buf : Buffer) : Type 0 where
  pub blocks : buf.blocks ≡ count
  pub block_len : buf.block_len ≡ len
  pub whole : length buf.bytes ≡ count * len

-- the bytes of the i-th block
abbrev pub block_of : Buffer → ℕ → List ℕ
block_of buf i = slice_range buf.bytes (i * buf.block_len) (i * buf.block_len + buf.block_len)

-- the buffer with other bytes
abbrev pub with_bytes : Buffer → List ℕ → Buffer
with_bytes buf bytes = record buf { bytes = bytes }

-- the buffer whose i-th block is left with these bytes
abbrev pub with_block : Buffer → ℕ → List ℕ → Buffer
with_block buf i bytes = with_bytes buf (written (i * buf.block_len) (fitted (block_of buf i) bytes) buf.bytes)

-- the same, where these bytes are the block's behind the first twenty
abbrev pub with_marked : Buffer → ℕ → List ℕ → Buffer
with_marked buf i bytes = with_block buf i (drop 20 bytes)
