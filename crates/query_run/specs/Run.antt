-- What the run of a query leaves: of its inputs and its sink, of its numbers or its cause, and of its store. The traits of a source,
-- a sink and a store come as their ghost members, each as one value.
use Rattle.std.specs.Prelude.{◌≡◌, ◌≤◌, ◌⊎◌, ℕ, Bool, true, List, Option, Result, IfErr, IfOk, IfSome, IsErrOf, IsSome, OnOk}
use Rattle.std.specs.Io.KnownBytes.{IsAtEnd}
use Rattle.outside.specs.Sinks.{StopsAt}
use Rattle.outside.specs.declared.stream.Sink.{Ghosts as SinkGhosts}
use Rattle.outside.specs.declared.stream.Source.{Ghosts as SourceGhosts}
use Rattle.store_api.specs.declared.store.Store.{Ghosts as StoreGhosts}
use Rattle.query_plan.specs.Sizes.{page_len}
use Rattle.query_plan.specs.declared.outcome.QueryErr.{QueryErr}
use Rattle.query_plan.specs.declared.outcome.QueryErr.TheVariants.{SinkFault}
use Rattle.query_plan.specs.declared.outcome.Ran.{Ran}
use Rattle.query_plan.specs.declared.plan.Query.{Query}
use Rattle.query_run.specs.Answer.{Numbers, WroteAnswer, WroteFront}
use Rattle.query_run.specs.Both.{HoldsInput, Told, both_told, faults_in, told_in}
use Rattle.query_run.specs.Causes.{side_of}
use Rattle.query_run.specs.Refused.{SaysOfInputs, Source, input_over}
use Rattle.query_run.specs.Stopped.{CountsSink, MayStop, RanOver}
use Rattle.query_run.specs.Trail.{KeptRows}

-- the inputs of a query and its sink at a time; where it doesn't join there is no right input
pub record World (S K : Type 0) : Type 0 where
  pub left : S
  pub right : Option S
  pub sink : K

abbrev pub world : {S K : Type 0} → S → Option S → K → World S K
world left right sink = record { left = left; right = right; sink = sink }

module _ {S K : Type 0} (source : SourceGhosts S) where
  -- the bytes that are left of each input, and of both, where they are told
  abbrev pub left_told : World S K → Option (List ℕ)
  left_told w = source.remaining w.left

  abbrev pub right_told : World S K → Option (List ℕ)
  right_told w = told_in source.remaining w.right

  abbrev pub inputs : World S K → Option Told
  inputs w = both_told (left_told w) (right_told w)

  -- all of both was read
  abbrev pub AreRead : World S K → Type 0
  AreRead w = IsAtEnd (left_told w) × IsAtEnd (right_told w)

  -- each input over a call
  abbrev pub left_over : World S K → World S K → Source
  left_over before after = input_over source before.left after.left

  abbrev pub right_over : World S K → World S K → Source
  right_over before after = record {
    told = right_told before;
    rest = right_told after;
    faults = faults_in source.faults before.right;
    faults_now = faults_in source.faults after.right;
  }

module _ {S K : Type 0} (source : SourceGhosts S) (target : SinkGhosts K) where
  -- the whole answer over the inputs was appended to the sink, or a front of it
  abbrev pub HasAnswer : Query → ℕ → World S K → World S K → Type 0
  HasAnswer plan page before after = WroteAnswer plan page (inputs source before) (target.contents before.sink) (target.contents after.sink)

  abbrev pub HasFront : Query → ℕ → World S K → World S K → Type 0
  HasFront plan page before after = WroteFront plan page (inputs source before) (target.contents before.sink) (target.contents after.sink)

  -- what a query read and wrote, and what it said of it. Which bytes an answer has is said where pins are told
  pub record ReadAndWrote (plan : Query) (page : ℕ) (tells : Bool) (before after : World S K) (result : Result Ran QueryErr) : Type 0 where
    -- it wrote the whole answer, over all bytes of its inputs, and its numbers are those of the answer
    pub answer : tells ≡ true → OnOk result (HasAnswer plan page before after)
    pub read : OnOk result (AreRead source after)
    pub numbers : IfOk result (λ ran. IfSome (inputs source before) (Numbers plan page tells ran))
    -- or what it says of an input is so, and then nothing was written
    pub input : IfErr result (SaysOfInputs plan page (left_over source before after) (right_over source before after))
    pub untouched : IfErr result (λ e. IsSome (side_of e) → after.sink ≡ before.sink)
    -- a sink that failed has a front of the answer; whatever stopped the query, nothing was written, or all was read before
    pub front : tells ≡ true → IsErrOf result SinkFault → HasFront plan page before after
    pub stopped : IfErr result (λ _. (after.sink ≡ before.sink) ⊎ (AreRead source after × (tells ≡ true → HasFront plan page before after)))
    -- the sink counts a fault exactly where that is the cause, and nothing stands behind its first failed write
    pub sink : CountsSink (IsErrOf result SinkFault) (target.faults before.sink) (target.faults after.sink)
    pub stops : StopsAt (IsErrOf result SinkFault) (target.at_failure before.sink) (target.at_failure after.sink) (target.contents after.sink)
    -- the sources are still there, and no count of their faults fell
    pub sources : (source.faults before.left ≤ source.faults after.left) × HoldsInput source.faults before.right after.right

module _ {S K St : Type 0} (source : SourceGhosts S) (target : SinkGhosts K) (under : StoreGhosts St) where
  -- a plan ran over a store: what it read and wrote; why the store stopped it, if it did; what it kept on pages before it read it
  -- again; and what it left of its store
  pub record RanQuery (plan : Query) (before after : World S K) (old new : St) (result : Result Ran QueryErr) : Type 0 where
    pub outside : ReadAndWrote source target plan (page_len plan (under.holds old).block_len) (under.holds old).told before after result
    pub pool : IfErr result (MayStop plan (inputs source before) (under.holds old) (under.signs old) (under.signs new))
    pub kept : OnOk result (KeptRows plan (page_len plan (under.holds old).block_len) (left_told source before) (right_told source before)
        (under.signs old).trail (under.signs new).trail)
    pub store : RanOver plan (inputs source before) (under.holds old) (under.holds new) (under.signs old) (under.signs new)
