-- A query without a right input.
use Rattle.std.proofs.Common.{◌≡◌, ◌∙◌, ℕ, List, [], Option, Some, None, IfSome, false, true, is_some, inl, inr, refl, sym, true≢false}
use Rattle.query_plan.specs.Sizes.{groups, joins}
use Rattle.query_plan.specs.declared.plan.Query.{Query}
use Rattle.query_plan.specs.declared.plan.Side.{Side}
use Rattle.query_plan.specs.declared.plan.Side.TheVariants.{Left, Right}
use Rattle.query_plan.specs.declared.plan.SidePlan.{SidePlan}
use Rattle.query_run.specs.Both.{told_in}
use Rattle.query_run.specs.Causes.{side_of}
use Rattle.query_run.specs.Plans.{IsGrouping, IsRunnable}
use Rattle.query_run.specs.Refused.{SaysOfInputs, SaysOfSide, Source}
use Rattle.query_plan.specs.declared.outcome.QueryErr.{QueryErr}

pub not_joined : (plan : Query) → plan.right ≡ None → joins plan ≡ true → ⊥
not_joined plan alone joins = let none : is_some plan.right ≡ false = rw alone refl in true≢false (sym joins ∙ none)

-- a query that runs without one groups
pub grouping : (plan : Query) → IsRunnable plan → plan.right ≡ None → IsGrouping plan
grouping plan is alone =
    let groups-it : groups plan ≡ true = elim is.does [ inl it ↦ it | inr joined ↦ absurd (not_joined plan alone joined) ] in
    record { paged = is.paged; alone = alone; left = is.left; shape = is.shape groups-it; keys = is.keys; aggs = is.aggs }

pub none_of : (o : Option SidePlan) → is_some o ≡ false → o ≡ None
none_of None is = refl
none_of (Some right) is = absurd (true≢false is)

-- it is as good as one that has no bytes
pub told_none : {S : Type 0} → (told : S → Option (List ℕ)) → (o : Option S) → o ≡ None → Some [] ≡ told_in told o
told_none told o none = rw none refl

not-right : (o : Option Side) → IfSome o (λ other. other ≡ Left) → o ≡ Some Right → ⊥
not-right None alone is = cc
not-right (Some side) alone is = cc

-- what is said of the left input is said of both
pub says_left : (plan : Query) (page : ℕ) (lefts rights : Source) (why : QueryErr) → SaysOfSide plan Left plan.left page lefts why → SaysOfInputs plan page lefts rights why
says_left plan page lefts rights why says = record { left = λ other. says; right = λ is. absurd (not-right (side_of why) says.alone is) }

-- and where there is no right one, the other way round
pub says_alone : (plan : Query) (page : ℕ) (lefts rights : Source) (why : QueryErr) → plan.right ≡ None → SaysOfInputs plan page lefts rights why → SaysOfSide plan Left plan.left page lefts why
says_alone plan page lefts rights why alone says = says.left (λ is. rw alone at (says.right is))
