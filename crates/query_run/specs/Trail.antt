-- What the entries of a query tell, where its store tells its trail.
use Rattle.std.specs.Prelude.{◌≡◌, ◌≤◌, ◌*◌, ℕ, List, [], ◌∷◌, ◌++◌, All, length, map, eqb, Option, None, Some, IfSome, ⊤}
use Rattle.std.specs.List.{IsDistinct}
use Rattle.pool_model.specs.declared.event.Event.{Event}
use Rattle.pool_model.specs.declared.event.Event.TheVariants.{AddTracker, Increase}
use Rattle.pool_model.specs.declared.entry.Entry.{Entry}
use Rattle.row_codec.specs.declared.values.Value.{Value}
use Rattle.row_codec.specs.Order.{path_order}
use Rattle.tuple_stream.specs.Families.{Family}
use Rattle.tuple_stream.specs.Trails.{EnteredEvents, Leaves, PinsFirst, all_left}
use Rattle.group_rows.specs.Standing.{StandFor}
use Rattle.group_rows.specs.Tables.{HaveDistinctKeys}
use Rattle.group_op.specs.Laid.{HoldsGroups}
use Rattle.group_op.specs.Stored.{IsPartialRow, keys_len, partials_at}
use Rattle.join_op.specs.Laid.{LeavesSide}
use Rattle.join_op.specs.Stored.{left_side, right_side}
use Rattle.store_api.specs.declared.shapes.JoinShape.{JoinShape}
use Rattle.query_plan.specs.declared.plan.Query.{Query}
use Rattle.query_plan.specs.declared.plan.Side.TheVariants.{Right}
use Rattle.query_plan.specs.declared.plan.SidePlan.{SidePlan}
use Rattle.query_run.specs.Input.{IsAccepted, IsAcceptedIn, passing, passing_in}
use Rattle.query_run.specs.Plans.{grouping_of, join_shape_of, shape_of}

-- clients of the query come first, one after the other: the reservation of each is raised to so many bytes, and it may be
-- allowed more
abbrev pub ReservesFirst : ℕ → List ℕ → List Event → Type 0
ReservesFirst query [] events = ⊤
ReservesFirst query (bytes ∷ more) events =
    (c limit : ℕ) × (rest : List Event) × (bytes ≤ limit) × (events ≡ AddTracker c query limit None ∷ Increase c bytes ∷ rest) × ReservesFirst query more rest

-- first pages are left, each once, and none is pinned again or ends; then one is pinned before any is left. The rows on
-- them are partial rows, no more than the rows that passed, and combined they are these rows' groups: one for each key,
-- where those of all keys, with four bytes more each, fit in two pages
pub record HoldsPartials (plan : Query) (page : ℕ) (rows : List (List Value)) (events : List Event) : Type 0 where
  pub laid : List Event
  pub later : List Event
  pub split : events ≡ laid ++ later
  pub partials : List (List ℕ)
  pub leaves : Leaves partials laid
  pub reads : PinsFirst later
  pub formed : All (IsPartialRow (shape_of plan)) partials
  pub few : length partials ≤ length rows
  pub stand : StandFor path_order (grouping_of plan) rows (partials_at (shape_of plan) partials)
  pub small : keys_len (shape_of plan) rows ≤ 2 * page → HaveDistinctKeys (partials_at (shape_of plan) partials)

-- rows were kept on pages before they were read again: those that pass, where the bytes of the input are told
pub record KeptGroups (plan : Query) (page : ℕ) (told : Option (List ℕ)) (start now : Option (List Entry)) : Type 0 where
  pub rows : List (List Value)
  pub read : IfSome told (λ bytes. IsAccepted plan page bytes × (rows ≡ passing plan bytes))
  pub kept : EnteredEvents (HoldsPartials plan page rows) start now

-- the same while the grouping is there: pages were left, and then read
pub record KeptAndRead (plan : Query) (page : ℕ) (told : Option (List ℕ)) (g : Family) (start now : Option (List Entry)) : Type 0 where
  pub rows : List (List Value)
  pub read : IfSome told (λ bytes. IsAccepted plan page bytes × (rows ≡ passing plan bytes))
  pub kept : EnteredEvents (HoldsGroups (shape_of plan) page rows g) start now

-- first the pages of the left rows are made and left, then those of the right ones, none twice, and none is pinned again or
-- ends; then one is pinned before any is left
pub record HoldsRows (shape : JoinShape) (lefts rights : List (List Value)) (events : List Event) : Type 0 where
  pub lefts_laid : List Event
  pub rights_laid : List Event
  pub later : List Event
  pub split : events ≡ lefts_laid ++ (rights_laid ++ later)
  pub left : LeavesSide (left_side shape) lefts lefts_laid
  pub right : LeavesSide (right_side shape) rights rights_laid
  pub once : IsDistinct eqb (map (λ l. l.name) (all_left (lefts_laid ++ rights_laid)))
  pub reads : PinsFirst later

-- rows of both sides were kept on pages before they were read again: those that pass, where the bytes of their input are told
pub record KeptSides (plan : Query) (right : SidePlan) (page : ℕ) (lefts_told rights_told : Option (List ℕ)) (start now : Option (List Entry)) : Type 0 where
  pub lefts : List (List Value)
  pub rights : List (List Value)
  pub lefts_read : IfSome lefts_told (λ bytes. IsAccepted plan page bytes × (lefts ≡ passing plan bytes))
  pub rights_read : IfSome rights_told (λ bytes. IsAcceptedIn plan Right right page bytes × (rights ≡ passing_in right bytes))
  pub kept : EnteredEvents (HoldsRows (join_shape_of plan right) lefts rights) start now

-- what a query kept on pages before it read it again
abbrev pub KeptWith : Option SidePlan → Query → ℕ → Option (List ℕ) → Option (List ℕ) → Option (List Entry) → Option (List Entry) → Type 0
KeptWith None plan page lefts_told rights_told start now = KeptGroups plan page lefts_told start now
KeptWith (Some right) plan page lefts_told rights_told start now = KeptSides plan right page lefts_told rights_told start now

abbrev pub KeptRows : Query → ℕ → Option (List ℕ) → Option (List ℕ) → Option (List Entry) → Option (List Entry) → Type 0
KeptRows plan page lefts_told rights_told start now = KeptWith plan.right plan page lefts_told rights_told start now
