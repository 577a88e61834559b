-- Groupings are handed over to another one, from the first on.
use Rattle.std.proofs.Common.{◌≡◌, ◌≢◌, ◌∙◌, ◌<◌, ◌≤◌, ◌+◌, ◌++◌, ◌∷◌, ℕ, List, [], ap, append-nil, append_assoc, arith, inl, inr, length, refl, slice_index_or, slice_set, subst, sym, take, true, ⊎_elim}
use Rattle.std.proofs.lemmas.Bool.{cases_eq, cases_lt}
use Rattle.std.proofs.lemmas.Grind.{flat_map-append}
use Rattle.std.proofs.lemmas.List.{get_or_default, get_or-set_other, get_or-set_same, length-set, take_all, take_more}
use Rattle.std.proofs.lemmas.List.Concat.{flat_map-cons}
use Rattle.std.proofs.lemmas.List.Sorted.{IsPermutation-append_left, IsPermutation-append_right, IsPermutation-refl, IsPermutation-trans}
use Rattle.std.specs.List.{flat_map}
use Rattle.std.specs.List.Sorted.{IsPermutation}
use Rattle.row_codec.specs.declared.values.Value.{Value}
use Rattle.store_api.specs.declared.store.Store.{Ghosts as StoreGhosts}
use Rattle.store_api.proofs.Answered.{answered_before}
use Rattle.reservation_tree.specs.declared.errors.PoolErr.{PoolErr}
use Rattle.group_op.specs.Operator.{Holds, IsSame, Operator}
use Rattle.group_op.specs.Pouring.{HandedOver, LeavesStore, MayHandOver, WasAnsweredBy}
use Rattle.query_run.specs.Gathering.{AllHandedOver, AnsweredBeside, GatheredTo, LeftAll, MayGather, WentOn}
use Rattle.query_run.specs.Inside.{GoesOn}
use Rattle.query_run.proofs.Going.{feeds_still, goes_none}
use Rattle.query_run.proofs.Taken.{group_goes_none, group_goes_then, group_still}

abbrev all_of : List (List (List Value)) → List (List Value)
all_of lists = flat_map (λ list. list) lists

all_more : (n : ℕ) (lists : List (List (List Value))) → n < length lists → all_of (take (n + 1) lists) ≡ all_of (take n lists) ++ slice_index_or lists n []
all_more n lists below =
    ap all_of (take_more lists n [] below) ∙ flat_map-append (λ list. list) (take n lists) (slice_index_or lists n [] ∷ [])
    ∙ ap (λ rows. all_of (take n lists) ++ rows) (flat_map-cons (λ list. list) (slice_index_or lists n []) [] ∙ append-nil (slice_index_or lists n []))

both_permuted : (xs ys zs ws : List (List Value)) → IsPermutation xs ys → IsPermutation zs ws → IsPermutation (xs ++ zs) (ys ++ ws)
both_permuted xs ys zs ws first then = IsPermutation-trans (xs ++ zs) (ys ++ zs) (ys ++ ws) (IsPermutation-append_left zs xs ys first) (IsPermutation-append_right ys zs ws then)

module _ {St : Type 0} (under : StoreGhosts St) where
  -- nothing was handed over yet
  pub none_gathered : (stores : List St) (ops : List Operator) (beside : St) (into : Operator) → MayGather under stores ops beside into → GatheredTo under 0 stores ops beside into stores ops beside into
  none_gathered stores ops beside into may = record {
    len = refl;
    many = refl;
    went = group_goes_none into (under.holds beside) (under.signs beside) may.stands;
    done = λ k d f below. absurd (omega (arith, below));
    rest_stores = λ k d from. refl;
    rest_ops = λ k f from. refl;
    holds = λ lists mine hold holds. record { rows = []; same = IsPermutation-refl []; holds = rw (append-nil mine) holds };
  }

  -- a call of one that was handed over
  one_goes : (a b : Operator) (s t : St) → b.client ≡ a.client → LeavesStore a b (under.holds s) (under.holds t) (under.signs s) (under.signs t)
      → GoesOn a b (under.holds s) (under.holds t) (under.signs s) (under.signs t)
  one_goes a b s t client leaves = record { op = leaves.op; client = client; leaves = leaves.others; slots = leaves.slots }

  -- one that others were handed over to
  one_went : (a b : Operator) (s t : St) → IsSame a b → LeavesStore a b (under.holds s) (under.holds t) (under.signs s) (under.signs t) → WentOn under s a t b
  one_went a b s t same leaves = record { went = one_goes a b s t same.client leaves; same = same }

  module _ (at : ℕ) (stores : List St) (ops : List Operator) (beside : St) (into : Operator) (stores' : List St) (ops' : List Operator) (beside' : St) (into' : Operator)
      (d0 : St) (f0 : Operator) (store : St) (op : Operator) (beside'' : St) (into'' : Operator) where
    -- one more was handed over, or its store or the other one answered
    pub record StepsTo : Type 0 where
      pub below : at < length ops
      pub long : length stores ≡ length ops
      pub before : GatheredTo under at stores ops beside into stores' ops' beside' into'
      pub client : op.client ≡ (slice_index_or ops' at f0).client
      pub leaves : LeavesStore (slice_index_or ops' at f0) op (under.holds (slice_index_or stores' at d0)) (under.holds store) (under.signs (slice_index_or stores' at d0)) (under.signs store)
      pub same : IsSame into' into''
      pub went : LeavesStore into' into'' (under.holds beside') (under.holds beside'') (under.signs beside') (under.signs beside'')

    module _ (step : StepsTo) where
      here_store : (d : St) → slice_index_or stores' at d ≡ slice_index_or stores' at d0
      here_store d = let below = step.below in let long = step.long in let len = step.before.len in get_or_default stores' at d d0 (omega (arith, below, long, len))

      here_op : (f : Operator) → slice_index_or ops' at f ≡ slice_index_or ops' at f0
      here_op f = let below = step.below in let many = step.before.many in get_or_default ops' at f f0 (omega (arith, below, many))

      -- each that was called is one over its store still
      pub done_more : (k : ℕ) (d : St) (f : Operator) → k < at + 1
          → GoesOn (slice_index_or ops k f) (slice_index_or (slice_set ops' at op) k f) (under.holds (slice_index_or stores k d)) (under.holds (slice_index_or (slice_set stores' at store) k d))
          (under.signs (slice_index_or stores k d)) (under.signs (slice_index_or (slice_set stores' at store) k d))
      done_more k d f less =
          let below = step.below in
          let long = step.long in
          let len = step.before.len in
          let many = step.before.many in
          ⊎_elim
          (λ (same : k ≡ at).
          let store-is : slice_index_or (slice_set stores' at store) k d ≡ store = ap (λ n. slice_index_or (slice_set stores' at store) n d) same ∙ get_or-set_same stores' at store d (omega (arith, below, long, len)) in
          let op-is : slice_index_or (slice_set ops' at op) k f ≡ op = ap (λ n. slice_index_or (slice_set ops' at op) n f) same ∙ get_or-set_same ops' at op f (omega (arith, below, many)) in
          let store-was : slice_index_or stores k d ≡ slice_index_or stores' at d0 = sym (step.before.rest_stores k d (omega (arith, same))) ∙ ap (λ n. slice_index_or stores' n d) same ∙ here_store d in
          let op-was : slice_index_or ops k f ≡ slice_index_or ops' at f0 = sym (step.before.rest_ops k f (omega (arith, same))) ∙ ap (λ n. slice_index_or ops' n f) same ∙ here_op f in
          rw (store-is, op-is, store-was, op-was) (one_goes (slice_index_or ops' at f0) op (slice_index_or stores' at d0) store step.client step.leaves))
          (λ (other : k ≢ at).
          let store-is : slice_index_or (slice_set stores' at store) k d ≡ slice_index_or stores' k d = get_or-set_other stores' at k store d other in
          let op-is : slice_index_or (slice_set ops' at op) k f ≡ slice_index_or ops' k f = get_or-set_other ops' at k op f other in
          rw (store-is, op-is) (step.before.done k d f (omega (arith, less, other))))
          (cases_eq k at)

      -- each of the others is one over its store still, also where nothing more is handed over
      pub left_after : MayGather under stores ops beside into → LeftAll under stores ops (slice_set stores' at store) (slice_set ops' at op)
      left_after may = record {
        len = length-set stores' at store ∙ step.before.len;
        many = length-set ops' at op ∙ step.before.many;
        each = λ k d f below. ⊎_elim
            (λ (less : k < at + 1). done_more k d f less)
            (λ (more : at + 1 ≤ k).
            let store-is : slice_index_or (slice_set stores' at store) k d ≡ slice_index_or stores k d = get_or-set_other stores' at k store d (λ same. omega (arith, same, more)) ∙ step.before.rest_stores k d (omega (arith, more)) in
            let op-is : slice_index_or (slice_set ops' at op) k f ≡ slice_index_or ops k f = get_or-set_other ops' at k op f (λ same. omega (arith, same, more)) ∙ step.before.rest_ops k f (omega (arith, more)) in
            rw (store-is, op-is) (goes_none (slice_index_or ops k f) (under.holds (slice_index_or stores k d)) (under.signs (slice_index_or stores k d)) (may.each k d f below).is))
            (cases_lt k (at + 1));
      }

      pub went_more : WentOn under beside into beside'' into''
      went_more = group_goes_then into into' into'' _ _ _ _ _ _ step.before.went (one_went into' into'' beside' beside'' step.same step.went)

      pub one_more : HandedOver (slice_index_or ops' at f0) (under.holds (slice_index_or stores' at d0)) (under.signs (slice_index_or stores' at d0)) into' (under.holds beside') (under.signs beside') into'' (under.holds beside'') (under.signs beside'')
          → GatheredTo under (at + 1) stores ops beside into (slice_set stores' at store) (slice_set ops' at op) beside'' into''
      one_more handed =
          let below = step.below in
          record {
            len = length-set stores' at store ∙ step.before.len;
            many = length-set ops' at op ∙ step.before.many;
            went = went_more;
            done = done_more;
            rest_stores = λ k d from. get_or-set_other stores' at k store d (λ same. omega (arith, same, from)) ∙ step.before.rest_stores k d (omega (arith, from));
            rest_ops = λ k f from. get_or-set_other ops' at k op f (λ same. omega (arith, same, from)) ∙ step.before.rest_ops k f (omega (arith, from));
            holds = λ lists mine hold holds.
                let was = step.before.holds lists mine hold holds in
                let count = hold.len in
                let its = hold.each at d0 f0 below in
                let store-was : slice_index_or stores at d0 ≡ slice_index_or stores' at d0 = sym (step.before.rest_stores at d0 (omega arith)) in
                let op-was : slice_index_or ops at f0 ≡ slice_index_or ops' at f0 = sym (step.before.rest_ops at f0 (omega arith)) in
                let told : (under.holds (slice_index_or stores' at d0)).told ≡ true = subst (λ (s : St). (under.holds s).told ≡ true) store-was its.0 in
                let fed : Holds (slice_index_or lists at []) (slice_index_or ops' at f0) (under.holds (slice_index_or stores' at d0)) (under.signs (slice_index_or stores' at d0)) =
                subst (λ (o : Operator). Holds (slice_index_or lists at []) o (under.holds (slice_index_or stores' at d0)) (under.signs (slice_index_or stores' at d0))) op-was
                (subst (λ (s : St). Holds (slice_index_or lists at []) (slice_index_or ops at f0) (under.holds s) (under.signs s)) store-was its.1) in
                let now = handed (slice_index_or lists at []) (mine ++ was.rows) told fed was.holds in
                record {
                  rows = was.rows ++ now.rows;
                  same = rw (all_more at lists (omega (arith, below, count))) (both_permuted (all_of (take at lists)) was.rows (slice_index_or lists at []) now.rows was.same now.same);
                  holds = rw (sym (append_assoc mine was.rows now.rows)) now.holds;
                };
          }

      pub answered : (e : PoolErr) → WasAnsweredBy (under.signs (slice_index_or stores' at d0)) (under.signs store) (under.signs beside') (under.signs beside'') e
          → AnsweredBeside under stores (slice_set stores' at store) beside beside'' e
      answered e (inl its) =
          let below = step.below in
          let long = step.long in
          let len = step.before.len in
          inl (record {
            at = at;
            below = omega (arith, below, long);
            answered = λ d.
                let store-is : slice_index_or (slice_set stores' at store) at d ≡ store = get_or-set_same stores' at store d (omega (arith, below, long, len)) in
                let store-was : slice_index_or stores at d ≡ slice_index_or stores' at d0 = sym (step.before.rest_stores at d (omega arith)) ∙ here_store d in
                rw (store-is, store-was) its;
          })
      answered e (inr others) = inr (answered_before e (under.signs beside) (under.signs beside') (under.signs beside'') step.before.went.went.leaves.grows others)

  -- the next one may be handed over
  pub may_hand_over : (at : ℕ) (stores : List St) (ops : List Operator) (beside : St) (into : Operator) (stores' : List St) (ops' : List Operator) (beside' : St) (into' : Operator) (d : St) (f : Operator)
      → at < length ops → MayGather under stores ops beside into → GatheredTo under at stores ops beside into stores' ops' beside' into'
      → MayHandOver (slice_index_or ops' at f) (under.holds (slice_index_or stores' at d)) into' (under.holds beside')
  may_hand_over at stores ops beside into stores' ops' beside' into' d f below may so =
      let alike = may.alike at d f below in
      let still = group_still into into' _ _ _ _ so.went in
      rw (so.rest_stores at d (omega arith), so.rest_ops at f (omega arith)) (record {
        from = (may.each at d f below).feeding;
        to = feeds_still into into' may.stands.feeding so.went.same;
        shape = so.went.same.shape ∙ alike.0;
        pages = still.page_same ∙ alike.1;
      })

  -- once all were handed over
  pub all_gathered : (at : ℕ) (stores : List St) (ops : List Operator) (beside : St) (into : Operator) (stores' : List St) (ops' : List Operator) (beside' : St) (into' : Operator)
      → length ops ≤ at → GatheredTo under at stores ops beside into stores' ops' beside' into' → AllHandedOver under stores ops beside into beside' into'
  all_gathered at stores ops beside into stores' ops' beside' into' all so = λ lists mine hold holds.
      let its = so.holds lists mine hold holds in
      let count = hold.len in
      let whole : take at lists ≡ lists = take_all at lists (omega (arith, all, count)) in
      record { rows = its.rows; same = subst (λ (l : List (List (List Value))). IsPermutation (all_of l) its.rows) whole its.same; holds = its.holds }
