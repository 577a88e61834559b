-- Several loans of one length, as one list of bytes. About private fields; no public clause cites this.
use Rattle.std.specs.Prelude.{◌≡◌, ℕ, ◌*◌, ◌<◌, ◌^◌, List, map, All, length, take, drop}
use Rattle.std.specs.List.{concat}
use Rattle.block_arena.specs.Memory.{IsBufferOf}
use Rattle.row_codec.specs.RowReading.{number_in}
use Rattle.store_api.specs.Tokens.{LoanToken}
use Rattle.bucket_table.specs.Tables.{Lent}

-- the loans with their blocks and these blocks' length, and the bytes of all of them in one list
pub record Region : Type 0 where
  pub blocks : ℕ
  pub block_len : ℕ
  pub loans : List Lent
  pub bytes : List ℕ

abbrev pub with_bytes : List ℕ → Region → Region
with_bytes bytes r = record r { bytes = bytes }

abbrev pub lent : LoanToken → Lent
lent l = record { number = l.number; client = l.client; blocks = l.buf.blocks; block_len = l.buf.block_len }

abbrev pub pieces : List LoanToken → List (List ℕ)
pieces loans = map (λ l. l.buf.bytes) loans

abbrev pub area_of : List LoanToken → List ℕ
area_of loans = concat (pieces loans)

-- loans of one length, and a u32 numbers their bytes
pub record AreParts (blocks block_len len : ℕ) (loans : List LoanToken) : Type 0 where
  pub each : len ≡ blocks * block_len
  pub sized : All (λ l. IsBufferOf blocks block_len l.buf) loans
  pub short : length loans * len < 2 ^ 32

-- so many bytes at a place
abbrev pub cut : ℕ → ℕ → List ℕ → List ℕ
cut at count bytes = take count (drop at bytes)

-- the number that the four bytes at a place spell
abbrev pub link_at : List ℕ → ℕ → ℕ
link_at bytes at = number_in (cut at 4 bytes)
