-- A join that was fed both inputs of a query, and whose pairs are the lines of its answer.
use Rattle.std.specs.Prelude.{◌≡◌, ℕ, List, ◌++◌, Option, IfSome, eqb, map, ⊤}
use Rattle.std.specs.List.{IsDistinct}
use Rattle.std.specs.Io.KnownBytes.{Appends}
use Rattle.pool_model.specs.declared.entry.Entry.{Entry}
use Rattle.pool_model.specs.declared.event.Event.{Event}
use Rattle.row_codec.specs.declared.values.Value.{Value}
use Rattle.csv_edge.specs.Written.{AppendsFront}
use Rattle.tuple_stream.specs.Families.{Family}
use Rattle.tuple_stream.specs.Trails.{EnteredEvents, all_left}
use Rattle.store_api.specs.declared.shapes.JoinShape.{JoinShape}
use Rattle.join_op.specs.Joining.{PinsBefore}
use Rattle.join_op.specs.Laid.{HoldsSides, LeavesSide}
use Rattle.join_op.specs.Stored.{left_side, right_side}
use Rattle.join_op.specs.Pairs.{SameRows}
use Rattle.query_plan.specs.declared.plan.Query.{Query}
use Rattle.query_plan.specs.declared.plan.Side.TheVariants.{Left, Right}
use Rattle.query_plan.specs.declared.plan.SidePlan.{SidePlan}
use Rattle.query_run.specs.Answer.{answer_text}
use Rattle.query_run.specs.Feeding.{HasFed}
use Rattle.query_run.specs.Input.{IsAccepted, IsAcceptedIn, passing, passing_in}
use Rattle.query_run.specs.Plans.{join_shape_of}
use Rattle.query_run.specs.Writing.{Begun, HasTaken, Written}
use Rattle.query_run.specs.declared.feeding.Fed.{Fed}

-- rows of both inputs were read, and those that pass were fed: the join keeps them
pub record HasFedBoth (plan : Query) (right : SidePlan) (page : ℕ) (lefts_told rights_told : Option (List ℕ)) (left_fed right_fed : Fed) (keeps : List (List Value) → List (List Value) → Type 0) : Type 0 where
  pub lefts : List (List Value)
  pub rights : List (List Value)
  pub lefts_fed : HasFed plan Left plan.left page lefts_told left_fed (λ rows. rows ≡ lefts)
  pub rights_fed : HasFed plan Right right page rights_told right_fed (λ rows. rows ≡ rights)
  pub kept : keeps lefts rights

-- pairs were taken, each as often, in some order; or the first ones of such an order
pub record HasTakenPairs (pairs : List (List Value)) (before : Begun) (now : Written) : Type 0 where
  pub out : List (List Value)
  pub same : SameRows out pairs
  pub taken : HasTaken before out now

pub record HasTakenSomePairs (pairs : List (List Value)) (before : Begun) (now : Written) : Type 0 where
  pub some : List (List Value)
  pub rest : List (List Value)
  pub same : SameRows (some ++ rest) pairs
  pub taken : HasTaken before some now

-- pairs were taken by an emitter, each as often, in some order
pub record TookPairs (pairs : List (List Value)) (took : List (List Value) → Type 0) : Type 0 where
  pub rows : List (List Value)
  pub same : SameRows rows pairs
  pub taken : took rows

-- an answer with pairs as its rows, in some order, was appended, or a front of it
pub record WrotePairs (plan : Query) (pairs : List (List Value)) (old new : Option (List ℕ)) : Type 0 where
  pub out : List (List Value)
  pub same : SameRows out pairs
  pub written : Appends old new (answer_text plan out)

pub record WroteSomePairs (plan : Query) (pairs : List (List Value)) (old new : Option (List ℕ)) : Type 0 where
  pub out : List (List Value)
  pub same : SameRows out pairs
  pub written : AppendsFront old new (answer_text plan out)

-- rows of both sides were kept on pages before they were read again, while the sides `f` and `g` of the join are there
pub record KeptBoth (plan : Query) (right : SidePlan) (page : ℕ) (lefts_told rights_told : Option (List ℕ)) (f g : Family) (start now : Option (List Entry)) : Type 0 where
  pub lefts : List (List Value)
  pub rights : List (List Value)
  pub lefts_read : IfSome lefts_told (λ bytes. IsAccepted plan page bytes × (lefts ≡ passing plan bytes))
  pub rights_read : IfSome rights_told (λ bytes. IsAcceptedIn plan Right right page bytes × (rights ≡ passing_in right bytes))
  pub kept : EnteredEvents (HoldsSides (join_shape_of plan right) lefts rights f g ⊤) start now

-- rows of both sides were kept on pages, as for a query; then one was pinned before any was left, and while none was, `still` is so
pub record HoldsRowsWhile (still : Type 0) (shape : JoinShape) (lefts rights : List (List Value)) (events : List Event) : Type 0 where
  pub lefts_laid : List Event
  pub rights_laid : List Event
  pub later : List Event
  pub split : events ≡ lefts_laid ++ (rights_laid ++ later)
  pub left : LeavesSide (left_side shape) lefts lefts_laid
  pub right : LeavesSide (right_side shape) rights rights_laid
  pub once : IsDistinct eqb (map (λ l. l.name) (all_left (lefts_laid ++ rights_laid)))
  pub reads : PinsBefore still later
