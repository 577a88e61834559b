-- With what pools open.
use Rattle.std.specs.Prelude.{◌≡◌, ◌==◌, ◌⊎◌, ℕ, ◌≤◌}
use Rattle.block_arena.specs.Blocks.{IsBlockLen}
use Rattle.pool_model.specs.Bytes.{bytes_of}
use Rattle.pool_model.specs.State.{Opening}
use Rattle.pin_core.specs.declared.conf.PoolConf.{PoolConf}

-- a pool may open with these numbers
pub record OpensWith (conf : PoolConf) : Type 0 where
  pub block_len : IsBlockLen conf.block_len
  pub some : 1 ≤ conf.blocks
  pub blocks : conf.blocks ≤ 1048576
  pub memory : bytes_of conf.block_len conf.blocks ≤ 2147483648
  pub profile : (conf.profile ≡ 1) ⊎ (conf.profile ≡ 2)

-- an opening with these numbers, and so many slots
pub record IsOpeningOf (conf : PoolConf) (count : ℕ) (o : Opening) : Type 0 where
  pub blocks : o.blocks ≡ conf.blocks
  pub block_len : o.block_len ≡ conf.block_len
  pub first_name : o.first_name ≡ conf.first_name
  pub marked : o.marked ≡ (conf.profile == 2)
  pub slots : o.slots ≡ count
