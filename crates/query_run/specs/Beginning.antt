-- An operator of a query that was started and given no row yet, over a store with pages of so many bytes. About inner calls; no public
-- clause cites this.
use Rattle.std.specs.Prelude.{◌≡◌, ◌<◌, ◌^◌, ℕ, []}
use Rattle.store_api.specs.Holdings.{Holdings}
use Rattle.store_api.specs.Signs.{Signs}
use Rattle.group_op.specs.Operator as group
use Rattle.join_op.specs.Operator as join
use Rattle.query_plan.specs.declared.plan.Query.{Query}
use Rattle.query_plan.specs.declared.plan.SidePlan.{SidePlan}
use Rattle.query_run.specs.Plans.{join_shape_of, shape_of}
use Rattle.query_run.specs.Taking.{LeftStands}

-- a grouping of the plan's rows
pub record BeginsGroups (plan : Query) (page : ℕ) (op : group.Operator) (h : Holdings) (signs : Signs) : Type 0 where
  pub is : group.IsOperator op h signs
  pub feeding : group.IsFeeding op
  pub shape_is : op.shape ≡ shape_of plan
  pub keeps : group.Keeps signs.trail [] op h signs
  pub page_is : page ≡ group.page_of op h
  pub short : page < 2 ^ 32
  pub long : 0 < page

-- a join of the plan's left side with this right one
pub record BeginsJoin (plan : Query) (right : SidePlan) (page : ℕ) (op : join.Operator) (h : Holdings) (signs : Signs) : Type 0 where
  pub stands : LeftStands op h signs
  pub shape_is : op.shape ≡ join_shape_of plan right
  pub keeps : join.Keeps signs.trail [] [] op h signs
  pub page_is : page ≡ join.page_of op h
  pub short : page < 2 ^ 32
  pub long : 0 < page
