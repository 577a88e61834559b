-- Groupings over several stores, as the first of them has the groups of all.
use Rattle.std.proofs.Common.{◌≡◌, ◌∙◌, ◌<◌, ◌++◌, ◌∷◌, ℕ, zero, suc, List, [], Option, None, Result, Err, IfErr, IfOk, IsErrOf, OnErr, OnOk, ap, arith, inl, inr, length, refl, slice_index_or, subst, sym}
use Rattle.std.proofs.lemmas.List.Concat.{flat_map-cons}
use Rattle.std.proofs.lemmas.List.Sorted.{All-permutation, IsPermutation-append_right, IsPermutation-trans, sum_by-IsPermutation}
use Rattle.std.specs.List.{flat_map}
use Rattle.std.specs.List.Sorted.{IsPermutation}
use Rattle.outside.specs.Sinks.{StopsAt}
use Rattle.outside.specs.declared.stream.Sink.{Ghosts as SinkGhosts}
use Rattle.reservation_tree.specs.declared.errors.PoolErr.{PoolErr}
use Rattle.row_codec.specs.declared.values.Value.{Value}
use Rattle.store_api.proofs.Answered.{answered_before}
use Rattle.store_api.specs.Holdings.{Holdings}
use Rattle.store_api.specs.Signs.{Signs}
use Rattle.store_api.specs.declared.shapes.Shape.{Shape}
use Rattle.store_api.specs.declared.store.Store.{Ghosts as StoreGhosts}
use Rattle.group_op.specs.Operator.{Holds, Operator}
use Rattle.query_plan.specs.declared.outcome.QueryErr.{QueryErr}
use Rattle.query_plan.specs.declared.outcome.QueryErr.TheVariants.{Pool, SinkFault}
use Rattle.query_plan.specs.declared.outcome.Ran.{Ran}
use Rattle.query_plan.specs.declared.plan.Query.{Query}
use Rattle.std.specs.Io.KnownBytes.{Appends}
use Rattle.csv_edge.specs.Written.{AppendsFront}
use Rattle.query_run.specs.Answer.{LineNumbers, answer_text, group_rows}
use Rattle.query_run.specs.Causes.{OfPool, side_of}
use Rattle.query_run.specs.FedRows.{AreFed, IsFed}
use Rattle.query_run.specs.Gathering.{AllHandedOver, AnsweredBeside, HoldLists, LeftAll, MayGather, WentOn}
use Rattle.query_run.specs.Inside.{GoesOn}
use Rattle.query_run.specs.Plans.{grouping_of, shape_of}
use Rattle.query_run.specs.Several.{AnsweredByOne}
use Rattle.query_run.specs.Stopped.{CountsSink, StoppedBy, StoppedOver}
use Rattle.query_run.specs.Taking.{GroupStands}
use Rattle.query_run.specs.Together.{AllWentOn, OfLists, WroteAll}
use Rattle.query_run.specs.Writing.{HoldsFor, OfRowsTold}
use Rattle.query_run.specs.declared.grouping.Read.{Read}
use Rattle.partition_stack.proofs.Results.{if_err, if_ok, on_err, on_ok}
use Rattle.query_run.proofs.Ended.{untouched}
use Rattle.query_run.proofs.Going.{goes_then, of_pool_so}
use Rattle.query_run.proofs.Orders.{holds_ordered}

-- a grouping that was fed these rows in some order
holds_permuted : (fed rows : List (List Value)) (op : Operator) (h : Holdings) (signs : Signs) → Holds fed op h signs → AreFed op.shape.kinds rows → IsPermutation rows fed → HoldsFor rows op h signs
holds_permuted fed rows op h signs holds formed order =
    holds_ordered fed rows op h signs holds (All-permutation (IsFed op.shape.kinds) rows fed order formed) (λ count. sum_by-IsPermutation count rows fed order)

module _ {St : Type 0} (under : StoreGhosts St) (plan : Query) where
  -- a grouping of the plan over a store of this block length
  pub record Stands (len : ℕ) (op : Operator) (s : St) : Type 0 where
    pub stands : GroupStands op (under.holds s) (under.signs s)
    pub shape : op.shape ≡ shape_of plan
    pub blocks : op.parts.page_blocks ≡ plan.page_blocks
    pub block_len : (under.holds s).block_len ≡ len

  -- the others may be handed over to the first
  pub may_gather : (len : ℕ) (s0 : St) (ss : List St) (o0 : Operator) (os : List Operator) → length ss ≡ length os → Stands len o0 s0
      → ((k : ℕ) (f : Operator) (d : St) → k < length os → Stands len (slice_index_or os k f) (slice_index_or ss k d)) → MayGather under ss os s0 o0
  may_gather len s0 ss o0 os many first each = record {
    many = many;
    stands = first.stands;
    each = λ k d f below. (each k f d below).stands;
    alike = λ k d f below.
        let other = each k f d below in
        (first.shape ∙ sym other.shape, rw (first.blocks, other.blocks, first.block_len, other.block_len) refl);
  }

  -- what holds of all rows that the first has in the end holds of all that were fed
  pub of_lists : (P : List (List Value) → Type 0) (s0 s1 : St) (ss : List St) (o0 o1 : Operator) (os : List Operator) → OfRowsTold under o1 s1 P
      → AllHandedOver under ss os s0 o0 s1 o1 → WentOn under s0 o0 s1 o1 → o0.shape ≡ shape_of plan → OfLists under plan (s0 ∷ ss) (o0 ∷ os) P
  of_lists P s0 s1 ss o0 o1 os so handed went shape [] rows hold order formed = let len = hold.len in absurd (omega (arith, len))
  of_lists P s0 s1 ss o0 o1 os so handed went shape (list ∷ rest) rows hold order formed =
      let len = hold.len in
      let first = hold.each 0 s0 o0 (omega arith) in
      let others : HoldLists under ss os rest = record { len = omega (arith, len); each = λ k d f below. hold.each (suc k) d f (omega (arith, below)) } in
      let its = handed rest list others first.1 in
      let split : flat_map (λ l. l) (list ∷ rest) ≡ list ++ flat_map (λ l. l) rest = flat_map-cons (λ l. l) list rest in
      let all : IsPermutation rows (list ++ its.rows) =
      IsPermutation-trans rows (list ++ flat_map (λ l. l) rest) (list ++ its.rows) (subst (IsPermutation rows) split order) (IsPermutation-append_right list (flat_map (λ l. l) rest) its.rows its.same) in
      let kinds : (shape_of plan).kinds ≡ o1.shape.kinds = ap (λ (s : Shape). s.kinds) (sym (went.same.shape ∙ shape)) in
      so rows (holds_permuted (list ++ its.rows) rows o1 (under.holds s1) (under.signs s1) its.holds (subst (λ ks. AreFed ks rows) kinds formed) all) (went.went.leaves.others.told ∙ first.0)

  -- each went on
  pub all_went : (s0 s2 : St) (ss ss' : List St) (o0 o2 : Operator) (os os' : List Operator) → length ss ≡ length os
      → GoesOn o0 o2 (under.holds s0) (under.holds s2) (under.signs s0) (under.signs s2) → LeftAll under ss os ss' os' → AllWentOn under (s0 ∷ ss) (s2 ∷ ss') (o0 ∷ os) (o2 ∷ os')
  all_went s0 s2 ss ss' o0 o2 os os' many first others =
      let len = others.len in
      let more = others.many in
      record { len = omega (arith, len); many = omega (arith, more); each = each } where
        each : (k : ℕ) (d : St) (f : Operator) → k < length (o0 ∷ os)
            → GoesOn (slice_index_or (o0 ∷ os) k f) (slice_index_or (o2 ∷ os') k f) (under.holds (slice_index_or (s0 ∷ ss) k d)) (under.holds (slice_index_or (s2 ∷ ss') k d))
            (under.signs (slice_index_or (s0 ∷ ss) k d)) (under.signs (slice_index_or (s2 ∷ ss') k d))
        each zero d f below = first
        each (suc k) d f below = others.each k d f (omega (arith, below))

  -- the first store stopped it, or one of the others
  pub first_answered : (s0 s1 s2 : St) (ss ss' : List St) (o0 o1 : Operator) (blocks : ℕ) (total : _) (e : QueryErr) → WentOn under s0 o0 s1 o1
      → StoppedOver blocks total (under.signs s1) (under.signs s2) e → OfPool (AnsweredByOne under (s0 ∷ ss) (s2 ∷ ss')) e
  first_answered s0 s1 s2 ss ss' o0 o1 blocks total e went = of_pool_so (StoppedBy blocks total (under.signs s1) (under.signs s2)) (AnsweredByOne under (s0 ∷ ss) (s2 ∷ ss'))
      (λ why stopped. record { at = 0; below = omega arith; answered = λ d. answered_before why (under.signs s0) (under.signs s1) (under.signs s2) went.went.leaves.grows stopped.answered }) e

  pub any_answered : (s0 s1 : St) (ss ss' : List St) (e : PoolErr) → AnsweredBeside under ss ss' s0 s1 e → AnsweredByOne under (s0 ∷ ss) (s1 ∷ ss') e
  any_answered s0 s1 ss ss' e (inl one) = let below = one.below in record { at = suc one.at; below = omega (arith, below); answered = λ d. one.answered d }
  any_answered s0 s1 ss ss' e (inr own) = record { at = 0; below = omega arith; answered = λ d. own }

module _ {K St : Type 0} (target : SinkGhosts K) (under : StoreGhosts St) where
  -- the others went to the first, which wrote the answer
  pub wrote_all : (plan : Query) (read : Read) (before after : K) (result : Result Ran QueryErr) (s0 s1 s2 : St) (ss ss' : List St) (o0 o1 o2 : Operator) (os os' : List Operator) (blocks : ℕ) (total : Option ℕ)
      → length ss ≡ length os → o0.shape ≡ shape_of plan → AllHandedOver under ss os s0 o0 s1 o1 → WentOn under s0 o0 s1 o1 → LeftAll under ss os ss' os' → GoesOn o1 o2 (under.holds s1) (under.holds s2) (under.signs s1) (under.signs s2)
      → OnOk result (OfRowsTold under o1 s1 (λ rows. Appends (target.contents before) (target.contents after) (answer_text plan (group_rows (grouping_of plan) rows))))
      → OnErr result (OfRowsTold under o1 s1 (λ rows. AppendsFront (target.contents before) (target.contents after) (answer_text plan (group_rows (grouping_of plan) rows))))
      → IfOk result (λ ran. (ran.left ≡ read.left) × (ran.right ≡ read.right) × (ran.kept ≡ read.kept)) → IfOk result (λ ran. OfRowsTold under o1 s1 (λ rows. LineNumbers plan rows ran))
      → IfErr result (λ e. side_of e ≡ None) → IfErr result (StoppedOver blocks total (under.signs s1) (under.signs s2))
      → CountsSink (IsErrOf result SinkFault) (target.faults before) (target.faults after) → StopsAt (IsErrOf result SinkFault) (target.at_failure before) (target.at_failure after) (target.contents after)
      → WroteAll target under plan read before after result (s0 ∷ ss) (s2 ∷ ss') (o0 ∷ os) (o2 ∷ os')
  wrote_all plan read before after result s0 s1 s2 ss ss' o0 o1 o2 os os' blocks total many shape handed went left goes ok err numbers lines cause pool sink stops = record {
    answer = on_ok result (λ so. of_lists under plan _ s0 s1 ss o0 o1 os so handed went shape) ok;
    front = on_err result (λ so. of_lists under plan _ s0 s1 ss o0 o1 os so handed went shape) err;
    numbers = numbers;
    lines = if_ok result (λ ran so. of_lists under plan (λ rows. LineNumbers plan rows ran) s0 s1 ss o0 o1 os so handed went shape) lines;
    cause = cause;
    pool = if_err result (λ e stopped. first_answered under plan s0 s1 s2 ss ss' o0 o1 blocks total e went stopped) pool;
    sink = sink;
    stops = stops;
    went = all_went under plan s0 s2 ss ss' o0 o2 os os' many (goes_then o0 o1 o2 _ _ _ _ _ _ went.went goes) left;
  }

  -- nothing was written, for want of a store or of memory
  pub wrote_none : (plan : Query) (read : Read) (sink : K) (e : PoolErr) (s0 s1 : St) (ss ss' : List St) (o0 o1 : Operator) (os os' : List Operator) → length ss ≡ length os
      → WentOn under s0 o0 s1 o1 → LeftAll under ss os ss' os' → AnsweredBeside under ss ss' s0 s1 e
      → WroteAll target under plan read sink sink (Err (Pool e)) (s0 ∷ ss) (s1 ∷ ss') (o0 ∷ os) (o1 ∷ os')
  wrote_none plan read sink e s0 s1 ss ss' o0 o1 os os' many went left came = record {
    answer = tt;
    front = λ lists rows hold order formed. untouched (target.contents sink) (answer_text plan (group_rows (grouping_of plan) rows));
    numbers = tt;
    lines = tt;
    cause = refl;
    pool = any_answered under plan s0 s1 ss ss' e came;
    sink = record { fault = λ failed. absurd (cc); quiet = inr refl; kept = omega arith };
    stops = inl refl;
    went = all_went under plan s0 s1 ss ss' o0 o1 os os' many went.went left;
  }
