-- One answer of groupings over several stores. About inner calls; no public clause cites this. Lists run from the first store to the
-- last; a sink and a store come as their ghost members, each as one value.
use Rattle.std.specs.Prelude.{◌≡◌, ◌<◌, ℕ, List, None, Result, IfErr, IfOk, IsErrOf, OnErr, OnOk, length, slice_index_or}
use Rattle.std.specs.List.{flat_map}
use Rattle.std.specs.List.Sorted.{IsPermutation}
use Rattle.std.specs.Io.KnownBytes.{Appends}
use Rattle.outside.specs.Sinks.{StopsAt}
use Rattle.outside.specs.declared.stream.Sink.{Ghosts as SinkGhosts}
use Rattle.row_codec.specs.declared.values.Value.{Value}
use Rattle.csv_edge.specs.Written.{AppendsFront}
use Rattle.store_api.specs.declared.store.Store.{Ghosts as StoreGhosts}
use Rattle.group_op.specs.Operator.{Operator}
use Rattle.query_plan.specs.declared.outcome.QueryErr.{QueryErr}
use Rattle.query_plan.specs.declared.outcome.QueryErr.TheVariants.{SinkFault}
use Rattle.query_plan.specs.declared.outcome.Ran.{Ran}
use Rattle.query_plan.specs.declared.plan.Query.{Query}
use Rattle.query_run.specs.Answer.{LineNumbers, answer_text, group_rows}
use Rattle.query_run.specs.Causes.{OfPool, side_of}
use Rattle.query_run.specs.FedRows.{AreFed}
use Rattle.query_run.specs.Gathering.{HoldLists}
use Rattle.query_run.specs.Inside.{GoesOn}
use Rattle.query_run.specs.Plans.{grouping_of, shape_of}
use Rattle.query_run.specs.Several.{AnsweredByOne}
use Rattle.query_run.specs.Stopped.{CountsSink}
use Rattle.query_run.specs.declared.grouping.Read.{Read}

module _ {St : Type 0} (under : StoreGhosts St) where
  -- this holds of all rows that were fed to the groupings together, where each store tells what a pin shows
  abbrev pub OfLists : Query → List St → List Operator → (List (List Value) → Type 0) → Type 0
  OfLists plan stores ops P =
      (lists : List (List (List Value))) (rows : List (List Value)) → HoldLists under stores ops lists → IsPermutation rows (flat_map (λ list. list) lists)
      → AreFed (shape_of plan).kinds rows → P rows

  -- calls left each grouping one of the same client over its store
  pub record AllWentOn (old now : List St) (ops ops' : List Operator) : Type 0 where
    pub len : length now ≡ length old
    pub many : length ops' ≡ length ops
    pub each : (k : ℕ) (d : St) (f : Operator) → k < length ops
        → GoesOn (slice_index_or ops k f) (slice_index_or ops' k f) (under.holds (slice_index_or old k d)) (under.holds (slice_index_or now k d))
        (under.signs (slice_index_or old k d)) (under.signs (slice_index_or now k d))

module _ {K St : Type 0} (target : SinkGhosts K) (under : StoreGhosts St) where
  -- the answer of all rows was written, or a front of it, and why not more
  pub record WroteAll (plan : Query) (read : Read) (before after : K) (result : Result Ran QueryErr) (old now : List St) (ops ops' : List Operator) : Type 0 where
    pub answer : OnOk result (OfLists under plan old ops (λ rows. Appends (target.contents before) (target.contents after) (answer_text plan (group_rows (grouping_of plan) rows))))
    pub front : OnErr result (OfLists under plan old ops (λ rows. AppendsFront (target.contents before) (target.contents after) (answer_text plan (group_rows (grouping_of plan) rows))))
    pub numbers : IfOk result (λ ran. (ran.left ≡ read.left) × (ran.right ≡ read.right) × (ran.kept ≡ read.kept))
    pub lines : IfOk result (λ ran. OfLists under plan old ops (λ rows. LineNumbers plan rows ran))
    pub cause : IfErr result (λ e. side_of e ≡ None)
    pub pool : IfErr result (OfPool (AnsweredByOne under old now))
    pub sink : CountsSink (IsErrOf result SinkFault) (target.faults before) (target.faults after)
    pub stops : StopsAt (IsErrOf result SinkFault) (target.at_failure before) (target.at_failure after) (target.contents after)
    pub went : AllWentOn under old now ops ops'
