-- What the trail of one owner's pool is, for whoever knows how it opened.
use Rattle.std.specs.Prelude.{◌≡◌, ℕ, List, Option, Some, None, ⊤}
use Rattle.pool_model.specs.declared.entry.Entry.{Entry}
use Rattle.pool_model.specs.Legal.{IsLegal}
use Rattle.pool_model.specs.LookingBack.{made_by}
use Rattle.pool_model.specs.State.{Opening}
use Rattle.own_entries.specs.AboveLaws.{AllBy}
use Rattle.local_pool.specs.Counting.{AtOpening}

-- a legal history of a pool that opened with so many blocks of so many bytes, made by this session alone, which opened once
pub record IsHistoryOf (blocks block_len session : ℕ) (trail : List Entry) : Type 0 where
  pub opening : Opening
  pub blocks_are : opening.blocks ≡ blocks
  pub len_is : opening.block_len ≡ block_len
  pub legal : IsLegal opening trail
  pub alone : AllBy session trail
  pub whole : made_by trail session ≡ trail

-- where its opening is named
abbrev pub IsHistory : Option AtOpening → ℕ → ℕ → List Entry → Type 0
IsHistory None block_len session trail = ⊤
IsHistory (Some first) block_len session trail = IsHistoryOf first.blocks block_len session trail
