-- What holds at each entry of a history that a session has seen.
use Rattle.std.specs.Prelude.{◌≡◌, ◌++◌, List}
use Rattle.pool_model.specs.declared.entry.Entry.{Entry}
use Rattle.pool_model.specs.State.{Opening}
use Rattle.pool_model.specs.Legal.{state_after}
use Rattle.pool_model.specs.TraceLaws.{FitsPool}

-- after each front of a history, charges and children fit each tracker's reservation, and that fits its limit; what each client
-- holds fits its reservation; and what is in memory fits the pool
abbrev pub FitsThroughout : Opening → List Entry → Type 0
FitsThroughout o h = (front more : List Entry) → h ≡ front ++ more → FitsPool (state_after o front)
