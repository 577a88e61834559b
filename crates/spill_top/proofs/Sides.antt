-- What stands of the inputs of a query, by side.
use Rattle.std.proofs.Common.{◌≡◌, ◌≤◌, ℕ, List, [], Option, Some, None, is_some, arith, refl}
use Rattle.std.specs.Option.{option_map}
use Rattle.std.proofs.lemmas.Bool.{false≢true}
use Rattle.outside.specs.Counts.{NoneFell}
use Rattle.outside.specs.Names.{AllStay}
use Rattle.query_plan.specs.declared.plan.Query.{Query}
use Rattle.query_plan.specs.declared.plan.Side.{Side}
use Rattle.query_plan.specs.declared.plan.Side.TheVariants.{Left, Right}
use Rattle.query_plan.specs.declared.plan.SidePlan.{SidePlan}
use Rattle.query_run.specs.Both.{faults_in}
use Rattle.spill_top.specs.declared.ending.Ending.{Ending}
use Rattle.spill_top.specs.Jobs.{HasSides, InputStands, Opened, faults_of, opened}
use Rattle.spill_top.specs.Sides.{at_right, bytes_on, faults_on, on_sides}

-- their counts don't fall, and their bytes stay, where those of all names do
right-kept : (asked : Option SidePlan) (old now : List ℕ → ℕ) → NoneFell old now → at_right 0 asked old ≤ at_right 0 asked now
right-kept None old now kept = omega arith
right-kept (Some right) old now kept = kept right.file

pub faults_kept : (query : Query) (old now : List ℕ → ℕ) → NoneFell old now → (side : Side) → faults_on query old side ≤ faults_on query now side
faults_kept query old now kept Left = kept query.left.file
faults_kept query old now kept Right = right-kept query.right old now kept

right-same : (asked : Option SidePlan) (old now : List ℕ → Option (List ℕ)) → AllStay old now → at_right (Some []) asked now ≡ at_right (Some []) asked old
right-same None old now stay = refl
right-same (Some right) old now stay = stay right.file

pub bytes_same : (query : Query) (old now : List ℕ → Option (List ℕ)) → AllStay old now → (side : Side) → bytes_on query now side ≡ bytes_on query old side
bytes_same query old now stay Left = stay query.left.file
bytes_same query old now stay Right = right-same query.right old now stay

-- nothing is asked of inputs that aren't open
pub none_stand : (bytes : Side → Option (List ℕ)) (ended : Option Ending) (side : Side) → InputStands (bytes side) (on_sides None None side) ended
none_stand bytes ended Left = tt
none_stand bytes ended Right = tt

-- nor of those of a query that has ended
one-stands : (told : Option (List ℕ)) (input : Option Opened) (ending : Ending) → InputStands told input (Some ending)
one-stands told None ending = tt
one-stands told (Some source) ending = tt

pub ended_stand : (bytes : Side → Option (List ℕ)) (left right : Option Opened) (ending : Ending) (side : Side) → InputStands (bytes side) (on_sides left right side) (Some ending)
ended_stand bytes left right ending Left = one-stands (bytes Left) left ending
ended_stand bytes left right ending Right = one-stands (bytes Right) right ending

-- where none is open, none is that of a query which doesn't join
pub no_sides : (query : Query) (refused ended : Option Ending) (output : Option Opened) → HasSides query (record { refused = refused; left = None; right = None; output = output; ended = ended })
no_sides query refused ended output = record { only = λ some. absurd (false≢true some); both = λ on some. absurd (false≢true some) }

-- what is shown of a source, if it is open
module _ {S : Type 0} (remaining : S → Option (List ℕ)) (reads : S → ℕ) where
  abbrev pub shown : Option S → Option Opened
  shown input = option_map (λ s. opened (remaining s) (reads s)) input

  pub shown_some : (input : Option S) → is_some input ≡ is_some (shown input)
  shown_some None = refl
  shown_some (Some s) = refl

  pub counted : (input : Option S) → faults_of (shown input) ≡ faults_in reads input
  counted None = refl
  counted (Some s) = refl
