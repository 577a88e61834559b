-- The rows that go through the operators of a query, and what they need at most. Lengths are in bytes.
use Rattle.std.specs.Prelude.{ℕ, ◌+◌, ◌-◌, ◌*◌, ◌/◌, ◌&&◌, Bool, true, false, List, [], ◌∷◌, ◌++◌, filter, length, min, nat_le, sum_by, if◌then◌else◌, Option, Some, None}
use Rattle.row_codec.specs.declared.values.Value.{Value}
use Rattle.row_codec.specs.RowBytes.{row_bytes}
use Rattle.scan_filter.specs.Passes.{passes}
use Rattle.query_plan.specs.declared.plan.Query.{Query}
use Rattle.query_plan.specs.declared.plan.Side.TheVariants.{Left, Right}
use Rattle.query_plan.specs.declared.plan.SidePlan.{SidePlan}
use Rattle.query_plan.specs.Sizes.{groups}
use Rattle.query_run.specs.Both.{Told, answered_with, passing_of_both}
use Rattle.query_run.specs.Input.{accepts, rows_read, weight_of}

-- ---- the rows that pass

-- the pairs that a query groups: none where it doesn't join, or has them as its answer
abbrev pub grouped_pairs : Bool → Option SidePlan → Query → Told → List (List Value)
grouped_pairs true (Some right) plan told = answered_with (Some right) plan told
grouped_pairs true None plan told = []
grouped_pairs false right plan told = []

abbrev pub pairs_in : Query → Told → List (List Value)
pairs_in plan told = grouped_pairs (groups plan) plan.right plan told

-- how many rows operators take at most: those that pass, and the pairs that are grouped
abbrev pub rows_through : Query → Told → ℕ
rows_through plan told = length (passing_of_both plan told) + length (pairs_in plan told)

-- ---- the rows that are taken: none behind the place where an input is refused

-- the rows before the first that weighs more than a page has bytes
abbrev pub light_front : Query → ℕ → List (List Value) → List (List Value)
light_front plan page [] = []
light_front plan page (row ∷ rest) = if nat_le (weight_of plan row) page then row ∷ light_front plan page rest else []

-- those of them that pass the filter of a side
abbrev pub taken_of : Query → SidePlan → ℕ → List (List Value) → List (List Value)
taken_of plan asked page rows = filter (passes asked.preds) (light_front plan page rows)

-- of the rows of a side those that pass its filter, up to the place where its input is refused
abbrev pub taken_in : Query → SidePlan → ℕ → List ℕ → List (List Value)
taken_in plan asked page bytes = taken_of plan asked page (rows_read asked bytes)

abbrev pub lefts_taken : Query → ℕ → Told → List (List Value)
lefts_taken plan page told = taken_in plan plan.left page told.left

-- of the right side none where the left input is refused
abbrev pub rights_taken_with : Option SidePlan → Query → ℕ → Told → List (List Value)
rights_taken_with None plan page told = []
rights_taken_with (Some right) plan page told = if accepts plan Left plan.left page told.left then taken_in plan right page told.right else []

abbrev pub rights_taken : Query → ℕ → Told → List (List Value)
rights_taken plan page told = rights_taken_with plan.right plan page told

-- whether the inputs that the query has are accepted to their ends
abbrev pub accepts_right : Option SidePlan → Query → ℕ → List ℕ → Bool
accepts_right None plan page bytes = true
accepts_right (Some right) plan page bytes = accepts plan Right right page bytes

abbrev pub accepts_both : Query → ℕ → Told → Bool
accepts_both plan page told = accepts plan Left plan.left page told.left && accepts_right plan.right plan page told.right

-- the pairs that are grouped: none where an input is refused
abbrev pub pairs_taken : Query → ℕ → Told → List (List Value)
pairs_taken plan page told = if accepts_both plan page told then pairs_in plan told else []

-- the rows of both sides that are taken
abbrev pub rows_taken : Query → ℕ → Told → List (List Value)
rows_taken plan page told = lefts_taken plan page told ++ rights_taken plan page told

-- how many rows and pairs are taken
abbrev pub count_taken : Query → ℕ → Told → ℕ
count_taken plan page told = length (rows_taken plan page told) + length (pairs_taken plan page told)

-- and what they weigh together, a pair once
abbrev pub weight_taken : Query → ℕ → Told → ℕ
weight_taken plan page told =
    sum_by (weight_of plan) (rows_taken plan page told) + sum_by (λ row. length (row_bytes row) + 16 * length plan.aggs) (pairs_taken plan page told)

-- the pages of the quota that suffice: one for each that is taken and sixteen more, or those that twice their weight fills and 600 more
abbrev pub need : Query → ℕ → Told → ℕ
need plan page told = min (count_taken plan page told + 16) ((2 * weight_taken plan page told + page - 1) / page + 600)
