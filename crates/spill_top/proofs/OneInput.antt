-- A query that has no right input: what its caller owes, and what its error says of the only one.
use Rattle.std.proofs.Common.{◌≡◌, ℕ, List, Option, None, IfSome, false, refl}
use Rattle.outside.specs.Counts.{Rose}
use Rattle.query_plan.specs.Sizes.{joins}
use Rattle.query_plan.specs.declared.plan.Query.{Query}
use Rattle.query_run.specs.Causes.{IsOfBytes, IsSourceFault, NamesInt}
use Rattle.query_run.specs.Input.{IsRefusal}
use Rattle.query_run.specs.Plans.{kinds_of_columns}
use Rattle.query_run.specs.Refused.{SaysOfInputs, Source, source}
use Rattle.query_plan.specs.declared.outcome.QueryErr.{QueryErr}
use Rattle.query_run.proofs.Alone.{says_alone}

-- it doesn't join, so no source stands there
pub not_joins : (plan : Query) → plan.right ≡ None → false ≡ joins plan
not_joins plan alone = rw alone refl

-- what its bytes are refused for
pub refused_alone : {page : ℕ} {told rest : Option (List ℕ)} {faults faults_now : ℕ} {rights : Source} → (plan : Query) (why : QueryErr) → plan.right ≡ None
    → SaysOfInputs plan page (source told rest faults faults_now) rights why → IsOfBytes why → IfSome told (λ bytes. IsRefusal plan page bytes why)
refused_alone plan why alone says = (says_alone plan _ _ _ why alone says).refused

-- a bad field is one of a column of ints
pub field_alone : {page : ℕ} {lefts rights : Source} → (plan : Query) (why : QueryErr) → plan.right ≡ None → SaysOfInputs plan page lefts rights why → NamesInt (kinds_of_columns plan.left.columns) why
field_alone plan why alone says = (says_alone plan _ _ _ why alone says).field

-- a fault of it was counted
pub fault_alone : {page : ℕ} {told rest : Option (List ℕ)} {faults faults_now : ℕ} {rights : Source} → (plan : Query) (why : QueryErr) → plan.right ≡ None
    → SaysOfInputs plan page (source told rest faults faults_now) rights why → IsSourceFault why → Rose faults faults_now
fault_alone plan why alone says = (says_alone plan _ _ _ why alone says).source_fault
