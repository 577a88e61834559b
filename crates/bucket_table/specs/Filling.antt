-- Loans that come to an area and go from it. About private fields; no public clause cites this.
use Rattle.std.specs.Prelude.{◌≡◌, ℕ, ◌+◌, ◌*◌, List, ◌++◌, length, take, replicate}
use Rattle.store_api.specs.Holdings.{Holdings}
use Rattle.bucket_table.specs.Tables.{Lent}
use Rattle.bucket_table.specs.Lending.{AreHeld, Lends, bytes_of}
use Rattle.bucket_table.specs.Regions.{Region}

-- the bytes of one loan of an area
abbrev pub each_of : Region → ℕ
each_of r = r.blocks * r.block_len

-- the area with these loans more, and so many zeros
abbrev pub with_zeros : List Lent → ℕ → Region → Region
with_zeros more zeros r = record r { loans = r.loans ++ more; bytes = r.bytes ++ replicate zeros 0 }

-- so many loans came, of zeros
pub record Fills (t count : ℕ) (was now : Region) (old new : Holdings) : Type 0 where
  pub more : List Lent
  pub region : now ≡ with_zeros more (count * each_of was) was
  pub many : length more ≡ count
  pub bytes : bytes_of more ≡ count * each_of was
  pub lends : Lends t more old new

-- as many loans came as there were, of as many bytes
pub record Doubles (t : ℕ) (was now : Region) (old new : Holdings) : Type 0 where
  pub fills : Fills t (length was.loans) was now old new
  pub bytes : bytes_of was.loans ≡ length was.bytes
  pub more : bytes_of fills.more ≡ length was.bytes

-- the last loans went, with their bytes, and the others stay
pub record Shrinks (was now : Region) (old new : Holdings) : Type 0 where
  pub gone : List Lent
  pub loans : was.loans ≡ now.loans ++ gone
  pub blocks : now.blocks ≡ was.blocks
  pub block_len : now.block_len ≡ was.block_len
  pub bytes : now.bytes ≡ take (length now.bytes) was.bytes
  pub long : length now.bytes + length gone * each_of was ≡ length was.bytes
  pub held : (t : ℕ) → AreHeld t old was.loans → AreHeld t new now.loans
  pub lends : (t : ℕ) → AreHeld t old was.loans → Lends t gone new old

-- so many loans came to the first area, and then so many to the second
pub record FillsBoth (t heads nodes : ℕ) (links links_now area area_now : Region) (old new : Holdings) : Type 0 where
  pub between : Holdings
  pub first : Fills t heads links links_now old between
  pub second : Fills t nodes area area_now between new
