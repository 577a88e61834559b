-- An emitter that writes the lines of rows behind a text that waits.
use Rattle.std.specs.Prelude.{◌≡◌, ◌≢◌, ℕ, List, ◌++◌, Option, Some, None, length, map, true, ℤ}
use Rattle.outside.specs.Counts.{Rose}
use Rattle.outside.specs.Faults.{Faults, faults_of}
use Rattle.outside.specs.declared.stream.Sink.{Ghosts}
use Rattle.outside.specs.Sinks.{StopsAt}
use Rattle.row_codec.specs.declared.values.Agg.TheVariants.{Sum}
use Rattle.row_codec.specs.declared.values.Value.{Value}
use Rattle.row_codec.specs.Order.{path_order}
use Rattle.group_rows.specs.Aggregates.{aggregate}
use Rattle.group_rows.specs.Combining.{AreValues}
use Rattle.group_rows.specs.Partials.{groups_by}
use Rattle.group_op.specs.Operator.{Holds, Operator, bytes_for}
use Rattle.group_op.specs.Stored.{grouping_of}
use Rattle.store_api.specs.Holdings.{Holdings}
use Rattle.store_api.specs.Signs.{Signs}
use Rattle.store_api.specs.declared.shapes.Shape.{Shape}
use Rattle.store_api.specs.declared.store.Store.{Ghosts as StoreGhosts}
use Rattle.query_run.specs.Answer.{group_rows, lines_of}
use Rattle.query_run.specs.FedRows.{AreFed}
use Rattle.query_run.specs.declared.answering.AnswerLines.{AnswerLines}
use Rattle.query_run.specs.Parts.{FrontOf, HasSent, StopsWriting}
use Rattle.query_plan.specs.declared.outcome.QueryErr.{QueryErr}
use Rattle.query_plan.specs.declared.outcome.QueryErr.TheVariants.{SinkFault}

-- a sink before a text: its bytes, where they are told, and its faults; what waits to be written before the first row, and
-- the columns of numbers that are summed
pub record Begun : Type 0 where
  pub contents : Option (List ℕ)
  pub faults : Faults
  pub front : List ℕ
  pub columns : List ℕ

-- the sink now; why it stopped, if it did; the text that waits; and the number of rows and the sums so far
pub record Written : Type 0 where
  pub contents : Option (List ℕ)
  pub faults : Faults
  pub stopped : Option QueryErr
  pub waits : List ℕ
  pub count : ℕ
  pub totals : List ℤ

abbrev pub written : Option (List ℕ) → Faults → Option QueryErr → List ℕ → ℕ → List ℤ → Written
written contents faults stopped waits count totals =
    record { contents = contents; faults = faults; stopped = stopped; waits = waits; count = count; totals = totals }

-- the same of lines of an answer
module _ {K : Type 0} (target : Ghosts K) where
  abbrev pub lines_now : AnswerLines K → Written
  lines_now lines = written (target.contents lines.sink.now) (faults_of target lines.sink.now) lines.stopped lines.part.lines lines.rows lines.totals.items

-- the lines of some rows behind what waited
abbrev pub text_behind : List ℕ → List (List Value) → List ℕ
text_behind front rows = front ++ lines_of rows

-- as long as the sink goes on, the text was sent but for what waits, and no write failed; once it stopped, which is for want of
-- memory or because the sink failed, a front of the text was sent, nothing of it behind the first failed write, and a fault was
-- counted exactly where the sink failed
abbrev pub HasSentOf : Option QueryErr → Begun → Written → List ℕ → Type 0
HasSentOf None before now text = HasSent before.contents now.contents now.waits text × (now.faults.count ≡ before.faults.count) × (now.faults.first ≡ before.faults.first)
HasSentOf (Some why) before now text =
    FrontOf before.contents now.contents text × (why ≡ SinkFault → Rose before.faults.count now.faults.count) × (why ≢ SinkFault → now.faults.count ≡ before.faults.count)
    × StopsWriting why × StopsAt (why ≡ SinkFault) before.faults.first now.faults.first now.contents

-- these rows were taken
pub record HasTaken (before : Begun) (rows : List (List Value)) (now : Written) : Type 0 where
  pub sent : HasSentOf now.stopped before now (text_behind before.front rows)
  pub counted : now.count ≡ length rows
  pub totals : now.totals ≡ map (λ column. aggregate (Sum column) rows) before.columns

-- the groups of these rows were taken, or the first of them
pub record HasTakenSome (shape : Shape) (rows : List (List Value)) (before : Begun) (now : Written) : Type 0 where
  pub some : List (List Value)
  pub rest : List (List Value)
  pub split : group_rows (record { keys = shape.keys; aggs = shape.aggs }) rows ≡ some ++ rest
  pub taken : HasTaken before some now

abbrev pub HasTakenGroups : Shape → List (List Value) → Begun → Written → Type 0
HasTakenGroups shape rows before now = HasTaken before (group_rows (record { keys = shape.keys; aggs = shape.aggs }) rows) now

-- a grouping that was fed as many rows, with as many bytes, of the same groups as these
pub record HoldsFor (rows : List (List Value)) (op : Operator) (h : Holdings) (signs : Signs) : Type 0 where
  pub fed : List (List Value)
  pub many : length fed ≡ length rows
  pub weigh : bytes_for op.shape fed ≡ bytes_for op.shape rows
  pub holds : Holds fed op h signs
  pub same : groups_by path_order (grouping_of op.shape) fed ≡ groups_by path_order (grouping_of op.shape) rows
  pub values : AreValues rows
  pub formed : AreFed op.shape.kinds rows

-- what holds of all rows of the groups that a grouping holds, where its store tells what a pin shows
module _ {St : Type 0} (store : StoreGhosts St) where
  abbrev pub OfRowsTold : Operator → St → (List (List Value) → Type 0) → Type 0
  OfRowsTold op s P = (rows : List (List Value)) → HoldsFor rows op (store.holds s) (store.signs s) → (store.holds s).told ≡ true → P rows
