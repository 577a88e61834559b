-- A query over a pool of its own. What slots count together is a tally: `before` the call, and `now` that they came back.
use Rattle.std.specs.Prelude.{◌≡◌, ◌*◌, ◌^◌, ◌==◌, ◌<◌, ◌≤◌, ℕ, Bool, Option, Some, IfSome, ⊤}
use Rattle.pool_model.specs.Bytes.{bytes_of}
use Rattle.reservation_tree.specs.declared.errors.PoolErr.{PoolErr}
use Rattle.reservation_tree.specs.declared.errors.PoolErr.TheVariants.{ScratchFull, WriteFault, ReadFault, NamesSpent, Memory}
use Rattle.pin_core.specs.calls.Setup.{OpensWith}
use Rattle.pin_core.specs.Tallies.{Counted}
use Rattle.pin_core.specs.declared.conf.PoolConf.{PoolConf}
use Rattle.pin_core.specs.declared.tally.Tally.{Tally}
use Rattle.query_plan.specs.Sizes.{least_of}
use Rattle.query_plan.specs.declared.plan.Query.{Query}
use Rattle.query_run.specs.Both.{Told}
use Rattle.query_run.specs.Stopped.{IsWant}
use Rattle.query_run.specs.Through.{need, rows_through}

-- all memory of a pool that opens with these numbers
abbrev pub memory_of : PoolConf → ℕ
memory_of conf = bytes_of conf.block_len conf.blocks

-- a pool may open with these numbers, which name its first page 0, and has the least reservation of the query, which fits its limit
pub record HasMemoryFor (query : Query) (conf : PoolConf) : Type 0 where
  pub opens : OpensWith conf
  pub first : conf.first_name ≡ 0
  pub least : least_of query conf.block_len ≤ memory_of conf
  pub allowed : least_of query conf.block_len ≤ query.limit

-- each of these slots tells what it holds
abbrev pub all_tell : Tally → Bool
all_tell slots = slots.silent == 0

-- all slots are there again, of which as many tell what they hold, and no count of theirs fell
abbrev pub ComeBack : Tally → Tally → Type 0
ComeBack before now = Counted 0 0 0 before now

-- the faults of the slots rose, or a count of them stands at its last value
abbrev pub HaveFailed : Tally → Tally → Type 0
HaveFailed before now = now.stuck ≡ 0 → before.faults < now.faults

-- so many slots are fewer than those of the pages that a query needs, over bytes that are told
abbrev pub LacksSlots : Query → ℕ → Option Told → ℕ → Type 0
LacksSlots query page told slots = IfSome told (λ both. slots < need query page both * query.page_blocks)

-- and its rows are so many that no name of a page may be left
abbrev pub MaySpendNames : Query → Option Told → Type 0
MaySpendNames query told = IfSome told (λ both. 2 ^ 55 ≤ rows_through query both)

-- why a pool stopped a query over these bytes, which may take so many slots: of these no more were left than pages leave over, and it lacks
-- slots; a write or a read failed, so that `failed` holds; no name of a page was left; or memory was wanting
abbrev pub IsPoolStop : Query → ℕ → Option Told → ℕ → Type 0 → PoolErr → Type 0
IsPoolStop query page told quota failed (ScratchFull need free) =
    IsWant query.page_blocks (Some quota) (ScratchFull need free) × LacksSlots query page told quota
IsPoolStop query page told quota failed (WriteFault entry) = failed
IsPoolStop query page told quota failed (ReadFault entry) = failed
IsPoolStop query page told quota failed NamesSpent = MaySpendNames query told
IsPoolStop query page told quota failed Memory = ⊤
IsPoolStop query page told quota failed _ = ⊥

-- the same of a pool that several queries share: its names were spent by all of them together, so that `names` holds
abbrev pub IsSharedStop : Query → ℕ → Option Told → ℕ → Type 0 → Type 0 → PoolErr → Type 0
IsSharedStop query page told quota failed names NamesSpent = names
IsSharedStop query page told quota failed names why = IsPoolStop query page told quota failed why
