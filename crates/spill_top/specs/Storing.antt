-- What the slots must have stored of a query that has its answer. Lengths are in bytes.
use Rattle.std.specs.Prelude.{◌≡◌, ◌+◌, ◌-◌, ◌*◌, ◌≤◌, ℕ, List, ◌∷◌, Option, Some, None, min}
use Rattle.pin_core.specs.declared.tally.Tally.{Tally}
use Rattle.query_plan.specs.declared.plan.Query.{Query}
use Rattle.query_run.specs.Both.{Told}
use Rattle.query_run.specs.Spilling.{spill}
use Rattle.spill_top.specs.declared.ending.Ending.{Ending}
use Rattle.spill_top.specs.declared.ending.Ending.TheVariants.{Lines}
use Rattle.spill_top.specs.Sides.{told_of}

-- what a query must keep beyond its limit, and beyond all memory of its pool; nothing is said where the bytes of its inputs aren't told
abbrev pub owed : Query → ℕ → Option Told → ℕ
owed query memory None = 0
owed query memory (Some both) = spill query both - min query.limit memory

-- the same of a query that ended so: only an answer owes something
abbrev pub owed_by : ℕ → (List ℕ → Option (List ℕ)) → Query → Ending → ℕ
owed_by memory files query (Lines lines) = owed query memory (told_of query files)
owed_by memory files query _ = 0

-- and of all queries
abbrev pub all_owed : ℕ → (List ℕ → Option (List ℕ)) → List Query → List Ending → ℕ
all_owed memory files (query ∷ queries) (ending ∷ ends) = owed_by memory files query ending + all_owed memory files queries ends
all_owed memory files _ _ = 0

-- the slots stored so many bytes or more, in blocks of this length, where each of them counts its stores, and its count doesn't stand at
-- its last value
abbrev pub HaveStored : ℕ → ℕ → Tally → Tally → Type 0
HaveStored block_len bytes before now = now.uncounted ≡ 0 → before.stores * block_len + bytes ≤ now.stores * block_len
