-- The two inputs of a query, by side. Where it doesn't join there is no right one, which is as good as one without bytes and faults.
use Rattle.std.specs.Prelude.{ℕ, Bool, true, false, List, [], Option, Some, None}
use Rattle.outside.specs.Counts.{Rose}
use Rattle.query_plan.specs.declared.plan.Query.{Query}
use Rattle.query_plan.specs.declared.plan.Side.{Side}
use Rattle.query_plan.specs.declared.plan.Side.TheVariants.{Left, Right}
use Rattle.query_plan.specs.declared.plan.SidePlan.{SidePlan}
use Rattle.query_run.specs.Both.{Told, both_told}

-- what belongs to each side
abbrev pub on_sides : {A : Type 0} → A → A → Side → A
on_sides left right Left = left
on_sides left right Right = right

-- what stands under the file of a right side, or this where there is none
abbrev pub at_right : {A : Type 0} → A → Option SidePlan → (List ℕ → A) → A
at_right none None at = none
at_right none (Some right) at = at right.file

-- the bytes of each input, where they are told
abbrev pub bytes_on : Query → (List ℕ → Option (List ℕ)) → Side → Option (List ℕ)
bytes_on query files side = on_sides (files query.left.file) (at_right (Some []) query.right files) side

-- the count of faults of each input's file
abbrev pub faults_on : Query → (List ℕ → ℕ) → Side → ℕ
faults_on query reads side = on_sides (reads query.left.file) (at_right 0 query.right reads) side

-- the count of a side rose
abbrev pub RoseOn : (Side → ℕ) → (Side → ℕ) → Side → Type 0
RoseOn before now side = Rose (before side) (now side)

-- the bytes of both inputs, where both are told
abbrev pub both_on : (Side → Option (List ℕ)) → Option Told
both_on bytes = both_told (bytes Left) (bytes Right)

-- those of a query's files
abbrev pub told_of : Query → (List ℕ → Option (List ℕ)) → Option Told
told_of query files = both_on (bytes_on query files)

-- the same where this is so, and else nothing is told
abbrev pub if_told : Bool → Option Told → Option Told
if_told true told = told
if_told false told = None
