-- What stands of a query while calls are made for others.
use Rattle.std.proofs.Common.{◌≡◌, ◌≢◌, ◌∙◌, ◌≤◌, inl, inr, ℕ, Bool, true, List, Option, Some, None, IfSome, set, sym, subst, ap, arith}
use Rattle.std.specs.List.{slice_get}
use Rattle.std.specs.Option.{IsSomeAnd}
use Rattle.outside.specs.Counts.{Rose}
use Rattle.outside.specs.Names.{TakesFaults, Written, fresh}
use Rattle.pin_core.specs.declared.tally.Tally.{Tally}
use Rattle.pin_core.proofs.Tallied.{counted_more}
use Rattle.reservation_tree.specs.declared.errors.PoolErr.{PoolErr}
use Rattle.reservation_tree.specs.declared.errors.PoolErr.TheVariants as pool
use Rattle.query_plan.specs.Sizes.{page_len}
use Rattle.query_plan.specs.declared.plan.Query.{Query}
use Rattle.query_plan.specs.declared.plan.Side.{Side}
use Rattle.query_run.specs.Both.{Told}
use Rattle.query_run.specs.Causes.{OfPool}
use Rattle.query_plan.specs.declared.outcome.QueryErr.{QueryErr}
use Rattle.query_plan.specs.declared.outcome.QueryErr.TheVariants as query
use Rattle.spill_top.specs.declared.ending.Ending.{Ending}
use Rattle.spill_top.specs.declared.ending.Ending.TheVariants.{Lines, Reservation, Stopped}
use Rattle.spill_top.specs.Pooled.{ComeBack, HaveFailed, IsSharedStop}
use Rattle.spill_top.specs.Running.{HasOutput, IsEnding, IsStopped, Met, Seen, Went, told_over}
use Rattle.spill_top.specs.Jobs.{HasFailed, HasFailedOn, IsSoFar, IsWork, Opened, OutputStands, SinkHolds, Work, faults_of, inputs_of, met_so_far}
use Rattle.spill_top.specs.Sides.{faults_on}
use Rattle.spill_top.specs.Steps.{AreWorks}
use Rattle.spill_top.proofs.Places.{set_get}
use Rattle.spill_top.proofs.Sides.{faults_kept}

pub rose_later : (before mid now : ℕ) → Rose before mid → mid ≤ now → Rose before now
rose_later before mid now rose more = λ short. omega (arith, rose, more, short)

pub rose_since : (before mid now : ℕ) → before ≤ mid → Rose mid now → Rose before now
rose_since before mid now less rose = λ short. omega (arith, rose, less, short)

pub went_on : (a b c : Seen) → Went a b → Went b c → Went a c
went_on a b c first then = record {
  files = λ name. then.files name ∙ first.files name;
  reads = λ name. let one = first.reads name in let two = then.reads name in omega (arith, one, two);
  created = λ name is. then.created name (first.created name is);
  writes = λ name. let one = first.writes name in let two = then.writes name in omega (arith, one, two);
  slots = counted_more 0 0 0 0 0 0 a.slots b.slots c.slots first.slots then.slots;
}

-- a slot that had failed still has
pub slots_later : (before mid now : Tally) → ComeBack mid now → HaveFailed before mid → HaveFailed before now
slots_later before mid now back failed = λ free.
    let short = back.stays in
    let more = back.never_fall in
    let rose = failed (omega (arith, free, short)) in
    omega (arith, rose, more)

pub failed_later : (before mid now : ℕ) (thing : Option Opened) → mid ≤ now → HasFailed before mid thing → HasFailed before now thing
failed_later before mid now thing more (inl rose) = inl (rose_later before mid now rose more)
failed_later before mid now thing more (inr has) = inr has

-- it was given back, and its faults are counted
pub taken : (before old now : ℕ) (thing : Option Opened) → before ≤ old → old ≤ now → TakesFaults (faults_of thing) old now → HasFailed before old thing → HasFailed before now None
taken before old now thing less more takes (inl rose) = inl (rose_later before old now rose more)
taken before old now thing less more takes (inr has) = inl (rose_since before old now less (takes has))

-- what a pool stopped a query with, once the failure is known by another fact
stop-later : (plan : Query) (page : ℕ) (given told : Option Told) (F F' N : Type 0) (why : PoolErr) → ((A : Told → Type 0) → IfSome given A → IfSome told A) → (F → F')
    → IsSharedStop plan page given plan.quota F N why → IsSharedStop plan page told plan.quota F' N why
stop-later plan page given told F F' N (pool.NoReservation tracker wanted room) tells slots is = is
stop-later plan page given told F F' N (pool.ScratchFull blocks free) tells slots is = (is.0, tells _ is.1)
stop-later plan page given told F F' N (pool.WriteFault entry) tells slots is = slots is
stop-later plan page given told F F' N (pool.ReadFault entry) tells slots is = slots is
stop-later plan page given told F F' N (pool.TooManyTrackers count) tells slots is = is
stop-later plan page given told F F' N pool.NamesSpent tells slots is = is
stop-later plan page given told F F' N pool.Memory tells slots is = is
stop-later plan page given told F F' N (pool.Stale wanted found) tells slots is = is

pub pool_later : (plan : Query) (page : ℕ) (given told : Option Told) (F F' N : Type 0) (why : QueryErr) → ((A : Told → Type 0) → IfSome given A → IfSome told A) → (F → F')
    → OfPool (IsSharedStop plan page given plan.quota F N) why → OfPool (IsSharedStop plan page told plan.quota F' N) why
pool_later plan page given told F F' N (query.SourceFault side) tells slots is = is
pool_later plan page given told F F' N (query.BadHeader side) tells slots is = is
pool_later plan page given told F F' N (query.BadCsv side number) tells slots is = is
pool_later plan page given told F F' N (query.BadField side number column) tells slots is = is
pool_later plan page given told F F' N (query.TooLarge side) tells slots is = is
pool_later plan page given told F F' N (query.RowTooLong side number bytes) tells slots is = is
pool_later plan page given told F F' N query.SinkFault tells slots is = is
pool_later plan page given told F F' N (query.Pool why) tells slots is = stop-later plan page given told F F' N why tells slots is

-- what a query meets with other failures
abbrev pub failed_so : (Side → Type 0) → Type 0 → Type 0 → Met → Met
failed_so R W F met = record met { read_failed = R; write_failed = W; slots_failed = F }

module _ (plan : Query) (met : Met) (R : Side → Type 0) (W F : Type 0) (reads : (side : Side) → met.read_failed side → R side) (writes : met.write_failed → W) (slots : met.slots_failed → F) where
  stopped-later : (why : QueryErr) → IsStopped plan met why → IsStopped plan (failed_so R W F met) why
  stopped-later why is = record {
    refused = is.refused;
    source_fault = λ side fault. reads side (is.source_fault side fault);
    sink_fault = λ fault. writes (is.sink_fault fault);
    pool = pool_later plan met.page met.told met.told met.slots_failed F met.names why (λ A so. so) slots is.pool;
  }

  pub ending_later : (ending : Ending) → IsEnding plan met ending → IsEnding plan (failed_so R W F met) ending
  ending_later (Lines lines) is = is
  ending_later (Reservation root wanted room) is = is
  ending_later (Stopped why) is = (is.0, stopped-later why is.1)

  pub so_far_later : (ended : Option Ending) → IsSoFar plan met ended → IsSoFar plan (failed_so R W F met) ended
  so_far_later None is = is
  so_far_later (Some ending) is = ending_later ending is

sink-later : (plan : Query) (page : ℕ) (told : Option Told) (before old now : Option Written) (sink : Opened) (ended : Option Ending) → now ≡ old
    → IfSome before (λ _. (old ≡ Some fresh) × SinkHolds plan page told sink.told ended) → IfSome before (λ _. (now ≡ Some fresh) × SinkHolds plan page told sink.told ended)
sink-later plan page told None old now sink ended same is = tt
sink-later plan page told (Some before) old now sink ended same is = (same ∙ is.0, is.1)

output-later : (plan : Query) (page : ℕ) (told : Option Told) (before old now : Option Written) (was is_now : Bool) (output : Option Opened) (ended : Option Ending) → now ≡ old → (was ≡ true → is_now ≡ true)
    → OutputStands plan page told before old was output ended → OutputStands plan page told before now is_now output ended
output-later plan page told before old now was is_now (Some sink) ended same created is = (created is.0, sink-later plan page told before old now sink ended same is.1)
output-later plan page told before old now was is_now None ended same created (inl is) = inl (is.0, same ∙ is.1)
output-later plan page told before old now was is_now None ended same created (inr is) =
    inr (subst (λ (w : Option Written). IsSomeAnd ended (HasOutput plan page told before w)) (sym same) is)

-- calls that leave the output of a query leave what stands of it
pub work_later : (start old now : Seen) (block_len : ℕ) (all : List Query) (query : Query) (w : Work) → Went old now → now.written query.output ≡ old.written query.output
    → IsWork start old block_len all query w → IsWork start now block_len all query w
work_later start old now block_len all query w went same is = record {
  went = went_on start old now is.went went;
  ending = so_far_later query (met_so_far start old block_len all query w)
      (HasFailedOn (faults_on query start.reads) (faults_on query now.reads) (inputs_of w)) (HasFailed (start.writes query.output) (now.writes query.output) w.output) (HaveFailed start.slots now.slots)
      (λ side. failed_later (faults_on query start.reads side) (faults_on query old.reads side) (faults_on query now.reads side) (inputs_of w side) (faults_kept query old.reads now.reads went.reads side))
      (failed_later (start.writes query.output) (old.writes query.output) (now.writes query.output) w.output (went.writes query.output))
      (slots_later start.slots old.slots now.slots went.slots) w.ended is.ending;
  inputs = is.inputs;
  sides = is.sides;
  output = output-later query (page_len query block_len) (told_over query start) (start.written query.output) (old.written query.output) (now.written query.output)
      (old.created query.output) (now.created query.output) w.output w.ended same (went.created query.output) is.output;
  fresh_sink = is.fresh_sink;
}

-- a call for the query at a place
pub works_step : (start old now : Seen) (block_len : ℕ) (queries : List Query) (works : List Work) (place : ℕ) (query : Query) (w : Work) → slice_get queries place ≡ Some query → Went old now
    → ((j : ℕ) (q : Query) → slice_get queries j ≡ Some q → j ≢ place → now.written q.output ≡ old.written q.output)
    → AreWorks start old block_len queries works → IsWork start now block_len queries query w → AreWorks start now block_len queries (set works place w)
works_step start old now block_len queries works place query w at went others are is = λ j q x at_q at_x.
    elim (set_get works place j w x at_x) [
      | inl here ↦ (let one : Some q ≡ Some query = sym at_q ∙ (ap (slice_get queries) here.0 ∙ at) in
          let same : q ≡ query = cc in
          subst (λ (y : Work). IsWork start now block_len queries q y) (sym here.1) (subst (λ (z : Query). IsWork start now block_len queries z w) (sym same) is))
      | inr there ↦ work_later start old now block_len queries q x went (others j q at_q there.0) (are j q x at_q there.1)
    ]
