-- What the slots of a pool count together, and what entries make of that.
use Rattle.std.specs.Prelude.{◌≡◌, ℕ, ◌+◌, ◌≤◌, if◌then◌else◌, List, Option, Some, None, true, filter, length}
use Rattle.std.specs.List.{sum_by}
use Rattle.outside.specs.declared.slot.Slot.{Ghosts}
use Rattle.scratch_dev.specs.Rows.{stores_at, uncounted}
use Rattle.pool_model.specs.declared.event.Event.{Event as What}
use Rattle.pool_model.specs.declared.event.Event.TheVariants.{WriteOk}
use Rattle.pool_model.specs.declared.entry.Entry.{Entry as Event}
use Rattle.pool_model.specs.LookingBack.{Made, maker_of}
use Rattle.pool_model.specs.Failures.{failures_in}
use Rattle.pool_model.specs.State.{Opening}
use Rattle.store_api.specs.Signs.{is_stale_load}
use Rattle.pin_core.specs.declared.parts.Parts.{Parts}
use Rattle.pin_core.specs.declared.tally.Tally.{Tally}
use Rattle.pin_core.specs.Standing.{StandsFor, slots_home}
use Rattle.pin_core.specs.calls.Runs.{stuck, strays_at, unstrayed, is_sure}

-- how many writes and reads failed
abbrev pub all_failures : List Event → ℕ
all_failures h = failures_in (λ made. true) h

-- the blocks of a page, as it was made
abbrev pub blocks_of : Option Made → ℕ
blocks_of None = 0
blocks_of (Some made) = made.blocks

-- how many blocks an event stored: those of the page whose write ended well
abbrev pub stored_by : List Event → What → ℕ
stored_by h (WriteOk p) = blocks_of (maker_of h p)
stored_by h _ = 0

-- the blocks of the pages of all writes that ended well
abbrev pub written_blocks : List Event → ℕ
written_blocks h = sum_by (λ e. stored_by h e.event) h

-- how many loads gave a block with another mark than the wanted one
abbrev pub all_stale : List Event → ℕ
all_stale h = length (filter (λ e. is_stale_load e.event) h)

-- the faults never fell, and rose with each failure where no count of them stands at its last value; where all slots
-- count their stores still, they stored so many blocks more; where all tell what they hold and count their strays still,
-- so many loads more strayed; a count that stood at its last value does still; and as many slots are there, of which as
-- many give nothing but what they tell
pub record Counted (failures blocks stale : ℕ) (before now : Tally) : Type 0 where
  pub never_fall : before.faults ≤ now.faults
  pub failed : now.stuck ≡ 0 → before.faults + failures ≤ now.faults
  pub stays : before.stuck ≤ now.stuck
  pub stores : now.uncounted ≡ 0 → before.stores + blocks ≤ now.stores
  pub short : before.uncounted ≤ now.uncounted
  pub strays : now.unstrayed ≡ 0 → before.strays + stale ≤ now.strays
  pub loose : before.unstrayed ≤ now.unstrayed
  pub silent : now.silent ≡ before.silent
  pub slots : now.slots ≡ before.slots

module _ {D : Type 0} (slot : Ghosts D) where
  -- 1 for a slot that doesn't tell what it holds, or may give another block
  abbrev pub silence : D → ℕ
  silence d = if is_sure slot d then 0 else 1

  -- what slots count together, over which measures are summed so
  abbrev pub tally_by : ((D → ℕ) → ℕ) → Tally
  tally_by sum = record { faults = sum slot.faults; stuck = sum (stuck slot); stores = sum (stores_at slot); uncounted = sum (uncounted slot); strays = sum (strays_at slot); unstrayed = sum (unstrayed slot); silent = sum silence; slots = sum (λ d. 1) }

  -- these slots; those of a pool that are in no job; and the same with those in jobs, as these took them
  abbrev pub tally_of : List D → Tally
  tally_of slots = tally_by (λ measure. sum_by measure slots)

  abbrev pub tally_in : Parts D → Tally
  tally_in v = tally_by (λ measure. slots_home measure v)

  abbrev pub tally_with : Parts D → List D → Tally
  tally_with v row = tally_by (λ measure. slots_home measure v + sum_by measure row)

  -- the parts stand for this history, and the slots `out` are in jobs, as these took them: with them the pool's slots
  -- count what the history tells, beside what they counted when the pool opened
  pub record SumsWithJobs (first : Tally) (o : Opening) (h : List Event) (out : List D) (v : Parts D) : Type 0 where
    pub stands : StandsFor slot o h v
    pub counted : Counted (all_failures h) (written_blocks h) (all_stale h) first (tally_with v out)
