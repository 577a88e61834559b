-- Both inputs of a query. Where it doesn't join there is no right one, which is as good as one without bytes and faults.
use Rattle.std.specs.Prelude.{◌≡◌, ◌≤◌, ◌++◌, ℕ, List, [], Option, Some, None, IfSome, IsSomeAnd}
use Rattle.row_codec.specs.declared.values.Value.{Value}
use Rattle.join_op.specs.Pairs.{pairs_of}
use Rattle.query_plan.specs.declared.plan.Query.{Query}
use Rattle.query_plan.specs.declared.plan.Side.TheVariants.{Right}
use Rattle.query_plan.specs.declared.plan.SidePlan.{SidePlan}
use Rattle.query_run.specs.Input.{IsAccepted, IsAcceptedIn, passing, passing_in, rows_read}
use Rattle.query_run.specs.Plans.{join_shape_of}

-- the bytes of both
pub record Told : Type 0 where
  pub left : List ℕ
  pub right : List ℕ

abbrev pub both_told : Option (List ℕ) → Option (List ℕ) → Option Told
both_told (Some left) (Some right) = Some (record { left = left; right = right })
both_told (Some left) None = None
both_told None rights = None

-- the bytes of an input, and its faults
abbrev pub told_in : {S : Type 0} → (S → Option (List ℕ)) → Option S → Option (List ℕ)
told_in told None = Some []
told_in told (Some input) = told input

abbrev pub faults_in : {S : Type 0} → (S → ℕ) → Option S → ℕ
faults_in faults None = 0
faults_in faults (Some input) = faults input

-- an input is there as before, and its count of faults didn't fall
abbrev pub HoldsInput : {S : Type 0} → (S → ℕ) → Option S → Option S → Type 0
HoldsInput faults None now = now ≡ None
HoldsInput faults (Some input) now = IsSomeAnd now (λ later. faults input ≤ faults later)

-- the inputs that the query has are accepted to their ends
pub record AreAccepted (plan : Query) (page : ℕ) (told : Told) : Type 0 where
  pub left : IsAccepted plan page told.left
  pub right : IfSome plan.right (λ right. IsAcceptedIn plan Right right page told.right)

-- the rows of a right input, and those of them that pass its filter
abbrev pub right_rows : Option SidePlan → List ℕ → List (List Value)
right_rows None bytes = []
right_rows (Some right) bytes = rows_read right bytes

abbrev pub right_passing : Option SidePlan → List ℕ → List (List Value)
right_passing None bytes = []
right_passing (Some right) bytes = passing_in right bytes

-- the rows that are answered over: the left ones that pass, or where there is a right side, the pairs of those of both
abbrev pub answered_with : Option SidePlan → Query → Told → List (List Value)
answered_with None plan told = passing plan told.left
answered_with (Some right) plan told = pairs_of (join_shape_of plan right) (passing plan told.left) (passing_in right told.right)

abbrev pub answered : Query → Told → List (List Value)
answered plan told = answered_with plan.right plan told

-- the rows of both inputs that pass
abbrev pub passing_of_both : Query → Told → List (List Value)
passing_of_both plan told = passing plan told.left ++ right_passing plan.right told.right
