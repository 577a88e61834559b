-- The groups of one grouping are handed on to another one of the same shape, over another store.
use Rattle.std.specs.Prelude.{◌≡◌, ℕ, List, ◌++◌, ◌⊎◌, true, false, [], All, flat_map, Option, Some, None, IfSome}
use Rattle.std.specs.List.Sorted.{IsPermutation}
use Rattle.row_codec.specs.declared.values.Value.{Value}
use Rattle.reservation_tree.specs.declared.errors.PoolErr.{PoolErr}
use Rattle.store_api.specs.declared.shapes.Shape.{Shape}
use Rattle.store_api.specs.Holdings.{Holdings, Nothing}
use Rattle.store_api.specs.MemStore.{no_signs}
use Rattle.store_api.specs.Signs.{Signs, WasAnswered}
use Rattle.store_api.specs.declared.store.Store.{Ghosts}
use Rattle.tuple_stream.specs.Families.{slots_in}
use Rattle.partition_stack.specs.Stack.{over}
use Rattle.group_rows.specs.Partials.{Partial}
use Rattle.group_op.specs.Emission.{SayAll}
use Rattle.group_op.specs.Held.{LeavesOthers}
use Rattle.group_op.specs.Feeding.{IsPartOf}
use Rattle.group_op.specs.declared.pouring.Inlet.{Inlet}
use Rattle.group_op.specs.Operator.{Holds, IsFeeding, IsOperator, IsSame, Operator, page_of, started}

-- one may be handed over to the other: both take rows, and their shapes and pages are alike
pub record MayHandOver (op : Operator) (h : Holdings) (into : Operator) (beside : Holdings) : Type 0 where
  pub from : IsFeeding op
  pub to : IsFeeding into
  pub shape : into.shape ≡ op.shape
  pub pages : page_of into beside ≡ page_of op h

-- it holds what it held, and besides these rows in some order
pub record HoldsBesides (mine fed : List (List Value)) (op : Operator) (h : Holdings) (signs : Signs) : Type 0 where
  pub rows : List (List Value)
  pub same : IsPermutation fed rows
  pub holds : Holds (mine ++ rows) op h signs

-- whatever was fed to the one, the other holds too. `h` and `beside` are what the stores held before
abbrev pub HandedOver : Operator → Holdings → Signs → Operator → Holdings → Signs → Operator → Holdings → Signs → Type 0
HandedOver op h signs into beside before into' beside' after =
    (fed mine : List (List Value)) → h.told ≡ true → Holds fed op h signs → Holds mine into beside before → HoldsBesides mine fed into' beside' after

-- what calls of a grouping leave to its store, whose slots that are free or its own stay as many
pub record LeavesStore (old new : Operator) (h h' : Holdings) (before after : Signs) : Type 0 where
  pub op : IsOperator new h' after
  pub others : LeavesOthers old.client.tracker h h' before after
  pub slots : slots_in (over new.parts h' after) ≡ slots_in (over old.parts h before)

-- one of two stores answered so
abbrev pub WasAnsweredBy : Signs → Signs → Signs → Signs → PoolErr → Type 0
WasAnsweredBy old new before after e = WasAnswered e old new ⊎ WasAnswered e before after

-- a grouping, the names by which it and its store are lent, and what that holds and has shown, before the first row
pub record Lent : Type 0 where
  pub op : Operator
  pub op_name : ℕ
  pub held : Holdings
  pub signs : Signs
  pub store_name : ℕ

abbrev pub lent_of : Operator → ℕ → Holdings → Signs → ℕ → Lent
lent_of op op_name held signs store_name = record { op = op; op_name = op_name; held = held; signs = signs; store_name = store_name }

-- a store that holds nothing, and a grouping over none
abbrev pub nothing_held : Holdings
nothing_held = record {
  block_len = 0;
  session = 0;
  query = 0;
  limit = 0;
  reservation = 0;
  room = 0;
  above = Nothing;
  live_clients = 0;
  clients = λ t. None;
  pages = λ q. None;
  loans = λ q. None;
  free_slots = None;
  told = false;
}

abbrev pub nowhere : Lent
nowhere = lent_of (started (record { session = 0; tracker = 0 }) 0 (record { kinds = []; keys = []; aggs = [] })) 0 nothing_held no_signs 0

-- what an inlet is now
module _ {St : Type 0} (store : Ghosts St) where
  abbrev pub lent_by : Inlet St → Lent
  lent_by inlet = lent_of inlet.into.now inlet.into.ghost_name (store.holds inlet.beside.now) (store.signs inlet.beside.now) inlet.beside.ghost_name

-- the faults of one that was stopped so
abbrev pub faults_so_far : Option PoolErr → ℕ
faults_so_far None = 0
faults_so_far (Some e) = 1

-- a row came to what it held: any rows for which it stands
abbrev pub TakesRow : List Value → Operator → Holdings → Signs → Operator → Holdings → Signs → Type 0
TakesRow row op h signs op' h' signs' =
    (fed more : List (List Value)) → IsPartOf op.shape row more → Holds fed op h signs → Holds (fed ++ more) op' h' signs'

-- it took these rows: beside what it held, it holds any rows for which they stand, as long as nothing stopped it
pub record HasPoured (rows : List (List Value)) (was now : Lent) (stopped : Option PoolErr) : Type 0 where
  pub op_named : now.op_name ≡ was.op_name
  pub store_named : now.store_name ≡ was.store_name
  pub feeding : IsFeeding now.op
  pub same : IsSame was.op now.op
  pub leaves : LeavesStore was.op now.op was.held now.held was.signs now.signs
  pub cause : IfSome stopped (λ e. WasAnswered e was.signs now.signs)
  pub holds : stopped ≡ None → (of : List Value → List (List Value)) (mine : List (List Value)) → All (λ row. IsPartOf was.op.shape row (of row)) rows
      → Holds mine was.op was.held was.signs → Holds (mine ++ flat_map of rows) now.op now.held now.signs

-- it took rows that say these partial rows
pub record HasPouredAll (shape : Shape) (partials : List Partial) (was now : Lent) (stopped : Option PoolErr) : Type 0 where
  pub rows : List (List Value)
  pub say : SayAll shape partials rows
  pub poured : HasPoured rows was now stopped
