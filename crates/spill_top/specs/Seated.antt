-- A query over a session of a pool in which no other is.
use Rattle.std.specs.Prelude.{◌≡◌, ◌<◌, ◌⊎◌, ◌++◌, ℕ, Bool, List, [], ◌∷◌, Option, Result, Err, IfErr, OnOk, filter}
use Rattle.std.specs.List.{AllByRecursion}
use Rattle.pool_model.specs.LookingBack.{is_by}
use Rattle.pool_model.specs.State.{Opening}
use Rattle.pool_model.specs.declared.entry.Entry.{Entry}
use Rattle.reservation_tree.specs.declared.errors.PoolErr.TheVariants.{Memory}
use Rattle.turn_table.specs.Face.{Spot}
use Rattle.turn_table.specs.Lists.{times}
use Rattle.pool.specs.declared.item.Item.{Item}
use Rattle.pool.specs.Items.{history, own_in}
use Rattle.pool.specs.Seating.{HasBegun, beginning_items}
use Rattle.pool.specs.Sitting.{Sitting, held_by, signs_by}
use Rattle.pool.specs.Standing.{IsMarked}
use Rattle.session_shares.specs.Shares.{AreAmong}
use Rattle.query_plan.specs.declared.plan.Query.{Query}
use Rattle.query_plan.specs.Sizes.{least_of, page_len}
use Rattle.query_run.specs.Both.{both_told}
use Rattle.query_run.specs.Stopped.{RanOver}
use Rattle.spill_top.specs.Unmarked.{MayStopUnmarked}
use Rattle.query_run.specs.Trail.{KeptRows}
use Rattle.query_plan.specs.declared.outcome.Ran.{Ran}
use Rattle.query_plan.specs.declared.outcome.QueryErr.{QueryErr}
use Rattle.query_plan.specs.declared.outcome.QueryErr.TheVariants.{Pool}

-- a session came alone into a pool that opened so, with what it asked for, and ended: what it was first and last, and what the
-- pass saw when it had ended. It is the one session of what it saw, and its number is the pass's again; where sessions come by no
-- item but one that says so, it came once
pub record SatAlone (o : Opening) (told : Bool) (limit quota least : ℕ) (pass : Spot Item) : Type 0 where
  pub first : Sitting
  pub last : Sitting
  pub begun : HasBegun o.block_len told limit quota least (held_by o told first)
  pub query : ℕ
  pub came : own_in first.number first.spot.knows.seen ≡ history (beginning_items first.number query limit quota least)
  pub number : last.number ≡ first.number
  pub more : List Item
  pub seen : pass.knows.seen ≡ last.spot.knows.seen ++ more
  pub went : List Entry
  pub own : own_in first.number pass.knows.seen ≡ own_in first.number last.spot.knows.seen ++ went
  pub right : 0 < times first.number pass.knows.rights
  pub among : AreAmong (first.number ∷ []) (history last.spot.knows.seen)
  pub once : AllByRecursion IsMarked pass.knows.seen → filter (is_by first.number) (history last.spot.knows.seen) ≡ own_in first.number last.spot.knows.seen

-- a plan ran over such a session, which then showed this of its pool
pub record RanAlone (o : Opening) (told : Bool) (plan : Query) (quota : ℕ) (pass : Spot Item) (lefts rights : Option (List ℕ)) (result : Result Ran QueryErr) : Type 0 where
  pub sat : SatAlone o told plan.limit quota (least_of plan o.block_len) pass
  pub over : RanOver plan (both_told lefts rights) (held_by o told sat.first) (held_by o told sat.last) (signs_by o sat.first) (signs_by o sat.last)
  pub stop : IfErr result (MayStopUnmarked plan (both_told lefts rights) (held_by o told sat.first) (signs_by o sat.first) (signs_by o sat.last))
  pub kept : OnOk result (KeptRows plan (page_len plan o.block_len) lefts rights (signs_by o sat.first).trail (signs_by o sat.last).trail)

-- a plan ran over such a session, or there was no memory for one
abbrev pub RanIfSeated : Opening → Bool → Query → ℕ → Spot Item → Option (List ℕ) → Option (List ℕ) → Result Ran QueryErr → Type 0
RanIfSeated o told plan quota pass lefts rights result = (result ≡ Err (Pool Memory)) ⊎ RanAlone o told plan quota pass lefts rights result
