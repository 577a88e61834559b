-- Batches that were dealt, as rows that were shared among groupings.
use Rattle.std.proofs.Common.{◌≡◌, ◌∙◌, ◌++◌, ◌∷◌, List, [], Result, Ok, Err, IfErr, OnOk, ap, arith, filter, map, refl, slice_index_or, sym}
use Rattle.std.proofs.lemmas.List.{get_or-map, length-map}
use Rattle.std.proofs.lemmas.List.Concat.{flat_map-cons}
use Rattle.std.specs.List.{flat_map}
use Rattle.outside.specs.declared.stream.Source.{Ghosts as SourceGhosts}
use Rattle.reservation_tree.specs.declared.errors.PoolErr.{PoolErr}
use Rattle.reservation_tree.specs.declared.errors.PoolErr.TheVariants as PoolErrs
use Rattle.row_codec.specs.declared.values.Value.{Value}
use Rattle.scan_filter.specs.Passes.{passes}
use Rattle.store_api.specs.declared.store.Store.{Ghosts as StoreGhosts}
use Rattle.fragments.specs.Causes.{HasLeft, IsCause}
use Rattle.fragments.specs.Dealing.{IsDealt}
use Rattle.fragments.specs.Rows.{RowsWeighAsMuch}
use Rattle.fragments.specs.declared.dealing.Failure.{Failure}
use Rattle.fragments.specs.declared.dealing.Failure.TheVariants as Failed
use Rattle.group_op.specs.Operator.{Operator, started}
use Rattle.query_plan.specs.Sizes.{page_len}
use Rattle.query_plan.specs.declared.outcome.QueryErr.{QueryErr}
use Rattle.query_plan.specs.declared.outcome.QueryErr.TheVariants.{Pool}
use Rattle.query_plan.specs.declared.plan.Query.{Query}
use Rattle.query_plan.specs.declared.plan.Side.TheVariants.{Left}
use Rattle.query_run.specs.Batches.{rows_in}
use Rattle.query_run.specs.Parallel.{AllGo, AreShared, FedParallel, MayFeed, counts_by}
use Rattle.query_run.specs.Passing.{HasGivenAll, HasGone, Input, StopsReading}
use Rattle.query_run.specs.Plans.{shape_of}
use Rattle.query_run.specs.Refused.{source}
use Rattle.query_run.specs.Several.{AnsweredByOne, block_len_of}
use Rattle.query_run.specs.Taking.{GroupFeeds, GroupGoes, GroupStops}
use Rattle.query_run.specs.declared.batches.Batch.{Batch}
use Rattle.query_run.specs.declared.passing.PassingRows.{PassingRows}
use Rattle.query_run.proofs.Going.{of_pool_so}
use Rattle.query_run.proofs.Orders.{rows_permute}
use Rattle.query_run.proofs.Says.{says_nothing}
use Rattle.query_run.proofs.Stores.{all_work_on, may_end}
use Rattle.query_run.proofs.Taken.{group_goes_none}

-- lists of lists, as one
joined : {X Y : Type 0} (f : X → List Y) (xs : List X) → flat_map (λ list. list) (map f xs) ≡ flat_map f xs
joined f [] = refl
joined f (x ∷ xs) = flat_map-cons (λ list. list) (f x) (map f xs) ∙ ap (λ rest. f x ++ rest) (joined f xs) ∙ sym (flat_map-cons f x xs)

-- nothing was called
pub all_still : {St : Type 0} (under : StoreGhosts St) (plan : Query) (stores : List St) (ops : List Operator) → MayFeed under plan stores ops → AllGo under stores stores ops ops
all_still under plan stores ops may =
    let many = may.many in
    record { len = refl; many = refl; each = λ k d f below. group_goes_none _ _ _ (may.stand k d f (omega (arith, many, below))) }

-- what feeders and the giver do, as the dealing has it
abbrev pub took : {St R : Type 0} (under : StoreGhosts St) → Operator → St → Operator → St → List (Batch R) → Type 0
took under a store b after batches = GroupFeeds a b (flat_map rows_in batches) (under.holds store) (under.holds after) (under.signs store) (under.signs after)

abbrev pub went : {St : Type 0} (under : StoreGhosts St) → Operator → St → Operator → St → Type 0
went under a store b after = GroupGoes a b (under.holds store) (under.holds after) (under.signs store) (under.signs after)

abbrev pub stops : {St : Type 0} (under : StoreGhosts St) → Operator → St → St → PoolErr → Type 0
stops under a store after e = GroupStops a (under.holds store) (under.signs store) (under.signs after) e

abbrev pub ended : {S R B : Type 0} (src : SourceGhosts S) (input : Input) → PassingRows S R B → PassingRows S R B → List (Batch R) → Type 0
ended src input a g batches = HasGivenAll src input g (flat_map rows_in batches)

abbrev pub why : {S R B : Type 0} (src : SourceGhosts S) (input : Input) → PassingRows S R B → PassingRows S R B → QueryErr → Type 0
why src input a g e = StopsReading src input g e

module _ {St S R B : Type 0} (under : StoreGhosts St) (src : SourceGhosts S) (input : Input) where
  -- rows that were dealt in batches were shared
  shared_by : (a g : PassingRows S R B) (ops ops' : List Operator) (old now : List St) → RowsWeighAsMuch (Batch R) (List Value)
      → (dealt : IsDealt (took {R = R} under) (ended src input) a ops old g ops' now) → (rows : List (List Value)) → rows ≡ flat_map rows_in dealt.all → AreShared under old now ops ops' rows
  shared_by a g ops ops' old now weigh dealt rows same =
      let lists = map (flat_map rows_in) dealt.lists in
      let one : flat_map (λ list. list) lists ≡ flat_map (flat_map rows_in) dealt.lists = joined (flat_map rows_in) dealt.lists in
      let order = rows_permute (flat_map rows_in dealt.all) (flat_map (flat_map rows_in) dealt.lists) (weigh rows_in dealt.all dealt.lists dealt.even) in
      record {
        lists = lists;
        len = length-map dealt.lists (flat_map rows_in) ∙ dealt.len;
        all = rw (same, one) order;
        each = λ k d f below.
            let many = dealt.len in
            let at : slice_index_or lists k [] ≡ flat_map rows_in (slice_index_or dealt.lists k []) = get_or-map (flat_map rows_in) dealt.lists k [] [] (omega (arith, below, many)) in
            rw at (dealt.each k f d below);
      }

  gone : (a g : PassingRows S R B) (ops ops' : List Operator) (old now : List St) → MayFeed under input.plan old ops → HasLeft (went under) (HasGone src input) a ops old g ops' now → AllGo under old now ops ops'
  gone a g ops ops' old now may left = record { len = left.besides_len ∙ may.many; many = left.ops_len; each = λ k d f below. left.each k f d below }

  -- what was dealt, or what stopped it, and what it left
  pub fed_parallel : (a g : PassingRows S R B) (dealt : Result (Unit {0}) (Failure QueryErr PoolErr)) (ops ops' : List Operator) (old now : List St) → MayFeed under input.plan old ops
      → input.page ≡ page_len input.plan (block_len_of under old) → RowsWeighAsMuch (Batch R) (List Value)
      → OnOk dealt (IsDealt (took {R = R} under) (ended src input) a ops old g ops' now) → IfErr dealt (IsCause (took {R = R} under) (stops under) (why src input) a ops old g ops' now) → HasLeft (went under) (HasGone src input) a ops old g ops' now
      → FedParallel under input.plan (source input.told (src.remaining g.rows.src.now) input.faults (src.faults g.rows.src.now)) (counts_by dealt g.read g.kept) old now ops ops'
  fed_parallel a g (Ok done) ops ops' old now may page weigh dealt cause left =
      let fed = dealt.given.fed in
      let many = left.besides_len in
      record {
        shared = record {
          rows = fed.rows;
          read = fed.read;
          kept = fed.kept;
          few = fed.few;
          formed = fed.formed;
          came = shared_by a g ops ops' old now weigh dealt (filter (passes input.plan.left.preds) fed.rows) fed.came;
          are = rw (sym page) fed.are;
        };
        read = dealt.given.at_end;
        says = tt;
        cause = tt;
        pool = tt;
        go = gone a g ops ops' old now may left;
        ends = may_end under old now ops ops' may.many (gone a g ops ops' old now may left);
        works = λ first. all_work_on under input.plan first old now ops ops' may.many (gone a g ops ops' old now may left);
        faults = left.giver_left.faults;
      }
  fed_parallel a g (Err Failed.Memory) ops ops' old now may page weigh dealt cause left =
      let some = may.some in
      record {
        shared = tt;
        read = tt;
        says = says_nothing input.plan Left input.plan.left _ _ (Pool PoolErrs.Memory) refl;
        cause = λ same. absurd (cc);
        pool = record { at = 0; below = omega (arith, some); answered = λ d. tt };
        go = gone a g ops ops' old now may left;
        ends = may_end under old now ops ops' may.many (gone a g ops ops' old now may left);
        works = λ first. all_work_on under input.plan first old now ops ops' may.many (gone a g ops ops' old now may left);
        faults = left.giver_left.faults;
      }
  fed_parallel a g (Err (Failed.Reading e)) ops ops' old now may page weigh dealt cause left =
      let some = may.some in
      record {
        shared = tt;
        read = tt;
        says = rw (sym page) cause.says;
        cause = cause.other;
        pool = of_pool_so (λ it. it ≡ PoolErrs.Memory) (AnsweredByOne under old now) (λ it is. rw is (record { at = 0; below = omega (arith, some); answered = λ d. tt })) e cause.memory;
        go = gone a g ops ops' old now may left;
        ends = may_end under old now ops ops' may.many (gone a g ops ops' old now may left);
        works = λ first. all_work_on under input.plan first old now ops ops' may.many (gone a g ops ops' old now may left);
        faults = left.giver_left.faults;
      }
  fed_parallel a g (Err (Failed.Feeding e)) ops ops' old now may page weigh dealt cause left =
      let any = started (record { session = 0; tracker = 0 }) input.plan.page_blocks (shape_of input.plan) in
      let many = may.many in
      let below = cause.below in
      record {
        shared = tt;
        read = tt;
        says = says_nothing input.plan Left input.plan.left _ _ (Pool e) refl;
        cause = λ same. absurd (cc);
        pool = record { at = cause.at; below = omega (arith, many, below); answered = λ d. (cause.so any d).answered };
        go = gone a g ops ops' old now may left;
        ends = may_end under old now ops ops' may.many (gone a g ops ops' old now may left);
        works = λ first. all_work_on under input.plan first old now ops ops' may.many (gone a g ops ops' old now may left);
        faults = left.giver_left.faults;
      }
