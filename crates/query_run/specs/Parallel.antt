-- One plan over several stores: its rows are fed to a grouping over each, and what the others have goes to the first. Lists run from
-- the first store to the last; the traits of a source, a sink and a store come as their ghost members, each as one value.
use Rattle.std.specs.Prelude.{◌≡◌, ◌≢◌, ◌<◌, ◌≤◌, ℕ, List, [], All, Option, Result, Ok, Err, IfErr, IfOk, OnOk, length, slice_index_or}
use Rattle.std.specs.Io.KnownBytes.{IsAtEnd}
use Rattle.std.specs.List.{flat_map}
use Rattle.std.specs.List.Sorted.{IsPermutation}
use Rattle.outside.specs.declared.stream.Sink.{Ghosts as SinkGhosts}
use Rattle.outside.specs.declared.stream.Source.{Ghosts as SourceGhosts}
use Rattle.row_codec.specs.declared.values.Value.{Value}
use Rattle.store_api.specs.declared.store.Store.{Ghosts as StoreGhosts}
use Rattle.group_op.specs.Operator.{Operator}
use Rattle.fragments.specs.declared.dealing.Failure.{Failure}
use Rattle.fragments.specs.declared.dealing.Failure.TheVariants as Failed
use Rattle.reservation_tree.specs.declared.errors.PoolErr.{PoolErr}
use Rattle.reservation_tree.specs.declared.errors.PoolErr.TheVariants as PoolErrs
use Rattle.query_plan.specs.Sizes.{page_len}
use Rattle.query_plan.specs.declared.outcome.QueryErr.{QueryErr}
use Rattle.query_plan.specs.declared.outcome.QueryErr.TheVariants.{Pool, SinkFault}
use Rattle.query_plan.specs.declared.outcome.Ran.{Ran}
use Rattle.query_plan.specs.declared.plan.Query.{Query}
use Rattle.query_plan.specs.declared.plan.Side.TheVariants.{Left}
use Rattle.query_run.specs.Causes.{OfPool}
use Rattle.query_run.specs.Feeding.{HasFed}
use Rattle.query_run.specs.Plans.{shape_of}
use Rattle.query_run.specs.Refused.{SaysOfSide, Source}
use Rattle.query_run.specs.Run.{ReadAndWrote, World}
use Rattle.query_run.specs.Several.{AllWork, AnsweredByOne, AreGivenBack, MayEnd, all_tell, block_len_of}
use Rattle.query_run.specs.SoFar.{fed_of}
use Rattle.query_run.specs.Taking.{GroupFeeds, GroupGoes, GroupStands}

-- how many rows were read and passed, where all were dealt; or what stopped that, as what stopped the query
abbrev pub counts_by : Result (Unit {0}) (Failure QueryErr PoolErr) → ℕ → ℕ → Result (ℕ × ℕ) QueryErr
counts_by (Ok done) read kept = Ok (read, kept)
counts_by (Err Failed.Memory) read kept = Err (Pool PoolErrs.Memory)
counts_by (Err (Failed.Reading e)) read kept = Err e
counts_by (Err (Failed.Feeding e)) read kept = Err (Pool e)

module _ {St : Type 0} (under : StoreGhosts St) where
  -- up to nine groupings of the plan's rows may be fed, each over its store, and the blocks of all stores are of one length
  pub record MayFeed (plan : Query) (stores : List St) (ops : List Operator) : Type 0 where
    pub some : 1 ≤ length stores
    pub few : length stores ≤ 9
    pub many : length ops ≡ length stores
    pub stand : (k : ℕ) (d : St) (f : Operator) → k < length stores
        → GroupStands (slice_index_or ops k f) (under.holds (slice_index_or stores k d)) (under.signs (slice_index_or stores k d))
    pub shape : All (λ op. op.shape ≡ shape_of plan) ops
    pub blocks : All (λ op. op.parts.page_blocks ≡ plan.page_blocks) ops
    pub same : All (λ store. (under.holds store).block_len ≡ block_len_of under stores) stores

  -- calls left each grouping one of the same rows over its store
  pub record AllGo (old now : List St) (ops ops' : List Operator) : Type 0 where
    pub len : length now ≡ length old
    pub many : length ops' ≡ length ops
    pub each : (k : ℕ) (d : St) (f : Operator) → k < length ops
        → GroupGoes (slice_index_or ops k f) (slice_index_or ops' k f) (under.holds (slice_index_or old k d)) (under.holds (slice_index_or now k d))
        (under.signs (slice_index_or old k d)) (under.signs (slice_index_or now k d))

  -- rows were fed to the groupings, each row to one of them
  pub record AreShared (old now : List St) (ops ops' : List Operator) (rows : List (List Value)) : Type 0 where
    pub lists : List (List (List Value))
    pub len : length lists ≡ length ops
    pub all : IsPermutation rows (flat_map (λ list. list) lists)
    pub each : (k : ℕ) (d : St) (f : Operator) → k < length ops
        → GroupFeeds (slice_index_or ops k f) (slice_index_or ops' k f) (slice_index_or lists k [])
        (under.holds (slice_index_or old k d)) (under.holds (slice_index_or now k d)) (under.signs (slice_index_or old k d)) (under.signs (slice_index_or now k d))

  -- so many rows were read, and so many passed: those of the input, where its bytes are told. Those that pass were fed to the groupings
  abbrev pub HasShared : Query → Option (List ℕ) → ℕ → ℕ → List St → List St → List Operator → List Operator → Type 0
  HasShared plan told read kept old now ops ops' =
      HasFed plan Left plan.left (page_len plan (block_len_of under old)) told (fed_of read kept) (AreShared old now ops ops')

  -- an input was fed to groupings over several stores, or something stopped that: the input, or the store of one of them
  pub record FedParallel (plan : Query) (input : Source) (result : Result (ℕ × ℕ) QueryErr) (old now : List St) (ops ops' : List Operator) : Type 0 where
    -- all rows were read, and those that pass were shared among the groupings
    pub shared : IfOk result (λ counts. HasShared plan input.told counts.0 counts.1 old now ops ops')
    pub read : OnOk result (IsAtEnd input.rest)
    -- what is said of the input is so, and a store gave the answer that is its own
    pub says : IfErr result (SaysOfSide plan Left plan.left (page_len plan (block_len_of under old)) input)
    pub cause : IfErr result (λ e. e ≢ SinkFault)
    pub pool : IfErr result (OfPool (AnsweredByOne under old now))
    -- each grouping is one of the same rows over its store still, and no count of the source's faults fell
    pub go : AllGo old now ops ops'
    -- so that stores over which they were started are as they were, once they end
    pub ends : MayEnd under now ops'
    pub works : (first : List St) → AllWork under plan first old ops → AllWork under plan first now ops'
    pub faults : input.faults ≤ input.faults_now

module _ {S K St : Type 0} (source : SourceGhosts S) (target : SinkGhosts K) (under : StoreGhosts St) where
  -- a plan ran over several stores: what it read and wrote, as over one that tells what a pin shows where all do; which of them stopped
  -- it, if one did; and that each is as it was
  pub record RanShared (plan : Query) (before after : World S K) (old now : List St) (result : Result Ran QueryErr) : Type 0 where
    pub outside : ReadAndWrote source target plan (page_len plan (block_len_of under old)) (all_tell under old) before after result
    pub pool : IfErr result (OfPool (AnsweredByOne under old now))
    pub stores : AreGivenBack under old now
