-- What a pinned page shows where a load may give any block that was stored in the pool.
use Rattle.std.specs.Prelude.{◌≡◌, ◌<◌, ◌++◌, ℕ, List, true, Some, length}
use Rattle.block_arena.specs.Memory.{Buffer, block_of}
use Rattle.pool_model.specs.declared.entry.Entry.{Entry}
use Rattle.pool_model.specs.State.{Opening, shown}
use Rattle.pool_model.specs.StoredBlocks.{IsStored, version_of}
use Rattle.store_api.specs.Holdings.{LivePage}
use Rattle.pin_core.specs.Marking.{front_of}

-- each block of the buffer was stored in this pool, at any time and in any slot, behind the mark that the page's blocks have
-- where the write that stored them began with the entry of this number
abbrev pub AreStoredAs : Opening → List Entry → ℕ → ℕ → ℕ → Buffer → Type 0
AreStoredAs o seen p began blocks buf = (i : ℕ) → i < blocks → IsStored o seen (front_of (Some (shown began)) p i ++ block_of buf i)

-- where stored blocks have marks, and fewer entries stand than the greatest u64: where each block of the buffer was stored
-- in this pool behind the mark of the page's last write that ended well, the buffer shows what was left in the page
abbrev pub ShowsStored : Opening → List Entry → ℕ → LivePage → Buffer → Type 0
ShowsStored o seen p page buf =
    (began : ℕ) → o.marked ≡ true → version_of seen p ≡ Some began → length seen < 18446744073709551615 → AreStoredAs o seen p began page.blocks buf → buf.bytes ≡ page.left
