-- Groupings over several stores start and end.
use Rattle.std.proofs.Common.{◌≡◌, ◌≢◌, ◌∙◌, ◌<◌, ◌≤◌, ◌+◌, ◌&&◌, ◌++◌, ◌∷◌, ℕ, Bool, true, false, true≢false, All, List, [], ap, arith, inl, inr, length, length-append, refl, slice_index_or, slice_set, subst, suc, sym, take, zero, ⊎_elim}
use Rattle.std.proofs.lemmas.Bool.{cases_eq, cases_lt}
use Rattle.std.proofs.lemmas.List.{get_or_default, get_or-set_other, get_or-set_same, get_or-take, length-set}
use Rattle.std.proofs.Math.Seq.{get_or-append_seam, take-append_seam}
use Rattle.std.proofs.Math.ListN.{get_or-append}
use Rattle.store_api.specs.declared.store.Store.{Ghosts as StoreGhosts}
use Rattle.store_api.proofs.Growing.{grows_refl, grows_trans}
use Rattle.store_api.specs.Changes.{after_end_client}
use Rattle.store_api.specs.Holdings.{Holdings}
use Rattle.store_api.specs.Signs.{Grows, Signs}
use Rattle.store_api.specs.Tokens.{ClientToken}
use Rattle.tuple_stream.specs.Families.{slots_in}
use Rattle.partition_stack.specs.Leaving.{LeavesOthers}
use Rattle.partition_stack.specs.Stack.{over}
use Rattle.group_op.specs.Operator.{IsOperator, Operator, started}
use Rattle.query_plan.specs.Sizes.{page_len}
use Rattle.query_plan.specs.declared.plan.Query.{Query}
use Rattle.query_run.specs.Beginning.{BeginsGroups}
use Rattle.query_run.specs.Inside.{GoesOn, HasOwn}
use Rattle.query_run.specs.Plans.{shape_of}
use Rattle.query_run.specs.Parallel.{AllGo, MayFeed}
use Rattle.query_run.specs.Several.{AllWork, AreGivenBack, HaveEndedFrom, HaveStartedTo, IsGivenBack, MayEnd, MayShare, WorksSince, all_tell, block_len_of}
use Rattle.query_run.specs.Stopped.{HasRoomFor}
use Rattle.query_run.proofs.Around.{left_around, slots_first}
use Rattle.query_run.proofs.Going.{feeds_still, goes_none, goes_then}

-- a client came, and its grouping was started
pub works_here : (plan : Query) (c : ClientToken) (op : Operator) (most bytes : ℕ) (old new : Holdings) (before after : Signs) → op ≡ started c plan.page_blocks (shape_of plan)
    → old.live_clients ≡ 0 → HasOwn c most bytes old new → Grows before after → IsOperator op new after → WorksSince plan op old new before after
works_here plan c op most bytes old new before after is none own grows operator =
    let client : op.client ≡ c = ap (λ (o : Operator). o.client) is in
    let first : op ≡ started op.client plan.page_blocks (shape_of plan) = is ∙ ap (λ (t : ClientToken). started t plan.page_blocks (shape_of plan)) (sym client) in
    record {
      idle = none;
      most = most;
      bytes = bytes;
      start = new;
      at = after;
      own = subst (λ (t : ClientToken). HasOwn t most bytes old new) (sym client) own;
      came = grows;
      went = subst (λ (a : Operator). GoesOn a op new new after after) first (goes_none op new after operator);
    }

-- calls left it one of the same client
pub works_then : (plan : Query) (a b : Operator) (old h0 h1 : Holdings) (before s0 s1 : Signs) → WorksSince plan a old h0 before s0 → GoesOn a b h0 h1 s0 s1 → WorksSince plan b old h1 before s1
works_then plan a b old h0 h1 before s0 s1 works goes =
    let first = goes_then (started a.client plan.page_blocks (shape_of plan)) a b works.start h0 h1 works.at s0 s1 works.went goes in
    let client : started a.client plan.page_blocks (shape_of plan) ≡ started b.client plan.page_blocks (shape_of plan) = ap (λ (t : ClientToken). started t plan.page_blocks (shape_of plan)) (sym goes.client) in
    record {
      idle = works.idle;
      most = works.most;
      bytes = works.bytes;
      start = works.start;
      at = works.at;
      own = subst (λ (t : ClientToken). HasOwn t works.most works.bytes old works.start) (sym goes.client) works.own;
      came = works.came;
      went = subst (λ (x : Operator). GoesOn x b works.start h1 works.at s1) client first;
    }

-- the grouping ended, and then its client
pub given_back : (plan : Query) (op : Operator) (c : ClientToken) (old h0 h1 h2 : Holdings) (before s0 s1 s2 : Signs) → WorksSince plan op old h0 before s0 → c ≡ op.client
    → LeavesOthers op.client.tracker h0 h1 s0 s1 → h1.free_slots ≡ slots_in (over op.parts h0 s0) → h2 ≡ after_end_client c.tracker h1 → Grows s1 s2
    → IsGivenBack old h2 before s2
given_back plan op c old h0 h1 h2 before s0 s1 s2 works same leaves free is grows =
    let first : slots_in (over op.parts h0 s0) ≡ works.start.free_slots = works.went.slots ∙ slots_first plan.page_blocks works.start works.at in
    let ended : h2 ≡ after_end_client op.client.tracker h1 = is ∙ ap (λ (t : ClientToken). after_end_client t.tracker h1) same in
    record {
      left = rw ended (left_around op.client works.most works.bytes old works.start h0 h1 works.at s0 s1 works.own works.idle works.went.leaves leaves);
      free = rw ended (free ∙ first ∙ works.own.free_slots);
      grows = grows_trans before works.at s2 works.came (grows_trans works.at s0 s2 works.went.leaves.grows (grows_trans s0 s1 s2 leaves.grows grows));
    }

-- ---- the last of a list

module _ {X : Type 0} where
  pub last_is : (whole items rest : List X) (x : X) → items ≡ rest ++ x ∷ [] → items ≡ take (length items) whole → (d : X) → slice_index_or whole (length rest) d ≡ x
  last_is whole items rest x is front d =
      let long : length items ≡ length rest + 1 = ap length is ∙ length-append rest (x ∷ []) in
      let here : slice_index_or items (length rest) d ≡ x = ap (λ l. slice_index_or l (length rest) d) is ∙ get_or-append_seam rest x [] d in
      let there : slice_index_or items (length rest) d ≡ slice_index_or whole (length rest) d = ap (λ l. slice_index_or l (length rest) d) front ∙ get_or-take (length items) whole (length rest) d (omega (arith, long)) in
      sym there ∙ here

  -- the front of a list without its last one is one of it too
  pub front_less : (whole items rest : List X) (x : X) → items ≡ rest ++ x ∷ [] → items ≡ take (length items) whole → rest ≡ take (length rest) whole
  front_less whole items rest x is front =
      let e : length items ≡ length rest + 1 = ap length is ∙ length-append rest (x ∷ []) in
      let t : take (length rest) items ≡ rest = ap (take (length rest)) is ∙ take-append_seam rest (x ∷ []) in
      sym t ∙ ap (take (length rest)) front ∙ take_less (length rest) (length items) whole (omega (arith, e))
    where
      take_less : (m n : ℕ) (xs : List X) → m ≤ n → take m (take n xs) ≡ take m xs
      take_less zero n xs le = refl
      take_less (suc m) zero xs le = absurd (omega arith)
      take_less (suc m) (suc n) [] le = refl
      take_less (suc m) (suc n) (x ∷ xs) le = ap (λ l. x ∷ l) (take_less m n xs (omega arith))

-- ---- those over the first stores end, from the last one on

both_true : (a b : Bool) → (a && b) ≡ true → (a ≡ true) × (b ≡ true)
both_true true true both = (refl, refl)
both_true true false both = absurd (true≢false (sym both))
both_true false b both = absurd (true≢false (sym both))

module _ {St : Type 0} (under : StoreGhosts St) where
  pub none_ended : (stores : List St) (ops : List Operator) → HaveEndedFrom under (length ops) stores stores ops
  none_ended stores ops = record { len = refl; stay = λ k d at. refl; grow = λ k d below. grows_refl (under.signs (slice_index_or stores k d)); ended = λ plan k d f was before from below. absurd (omega (arith, from, below)) }

  -- one more has ended
  pub one_more_ended : (at : ℕ) (old now : List St) (ops : List Operator) (op : Operator) (any store : St) → at < length ops → length ops ≤ length old → HaveEndedFrom under (at + 1) old now ops
      → ((f : Operator) → slice_index_or ops at f ≡ op)
      → ((plan : Query) (was : Holdings) (before : Signs) → WorksSince plan op was (under.holds (slice_index_or now at any)) before (under.signs (slice_index_or now at any)) → IsGivenBack was (under.holds store) before (under.signs store))
      → Grows (under.signs (slice_index_or now at any)) (under.signs store)
      → HaveEndedFrom under at old (slice_set now at store) ops
  one_more_ended at old now ops op any store below few ended is ends grows =
      let long : at < length now = let l = ended.len in omega (arith, below, few, l) in
      record {
        len = length-set now at store ∙ ended.len;
        stay = λ k d out. get_or-set_other now at k store d (elim out [ inl before ↦ λ same. omega (arith, before, same) | inr behind ↦ λ same. omega (arith, behind, same, below) ]) ∙ ended.stay k d (elim out [ inl before ↦ inl (omega (arith, before)) | inr behind ↦ inr behind ]);
        grow = λ k d inside. ⊎_elim
            (λ (same : k ≡ at).
            let it : slice_index_or (slice_set now at store) k d ≡ store = ap (λ n. slice_index_or (slice_set now at store) n d) same ∙ get_or-set_same now at store d long in
            let was-it : slice_index_or old k d ≡ slice_index_or now at any = sym (ended.stay k d (inl (omega (arith, same)))) ∙ ap (λ n. slice_index_or now n d) same ∙ get_or_default now at d any long in
            rw (it, was-it) grows)
            (λ (other : k ≢ at). rw (get_or-set_other now at k store d other) (ended.grow k d inside))
            (cases_eq k at);
        ended = λ plan k d f was before from in-front works. ⊎_elim
            (λ (same : k ≡ at).
            let it : slice_index_or (slice_set now at store) k d ≡ store = ap (λ n. slice_index_or (slice_set now at store) n d) same ∙ get_or-set_same now at store d long in
            let was-it : slice_index_or old k d ≡ slice_index_or now at any = sym (ended.stay k d (inl (omega (arith, same)))) ∙ ap (λ n. slice_index_or now n d) same ∙ get_or_default now at d any long in
            let this : slice_index_or ops k f ≡ op = ap (λ n. slice_index_or ops n f) same ∙ is f in
            rw it (ends plan was before (rw this at (rw was-it at works))))
            (λ (other : k ≢ at).
            let there : slice_index_or (slice_set now at store) k d ≡ slice_index_or now k d = get_or-set_other now at k store d other in
            rw there (ended.ended plan k d f was before (omega (arith, from, other)) in-front works))
            (cases_eq k at);
      }

  -- ---- those over all stores start, from the first one on

  -- nothing was done to a store without clients
  pub still : (h : Holdings) (signs : Signs) → h.live_clients ≡ 0 → IsGivenBack h h signs signs
  still h signs none = record {
    left = record { live_clients = none; room = omega arith; reservation = omega arith; limit = refl; query = refl; session = refl; block_len = refl; told = refl };
    free = refl;
    grows = grows_refl signs;
  }

  pub none_started : (plan : Query) (stores : List St) → HaveStartedTo under plan 0 stores stores []
  none_started plan stores = record { len = refl; stay = λ k d from. refl; works = λ k d f below. absurd (omega arith); begins = λ k d f below. absurd (omega arith); blocks = λ k f below. absurd (omega arith); lens = λ k d. refl }

  pub one_more_started : (plan : Query) (at : ℕ) (old now : List St) (ops : List Operator) (op : Operator) (any store : St) → at < length old → length ops ≡ at → HaveStartedTo under plan at old now ops
      → WorksSince plan op (under.holds (slice_index_or now at any)) (under.holds store) (under.signs (slice_index_or now at any)) (under.signs store)
      → BeginsGroups plan (page_len plan (under.holds store).block_len) op (under.holds store) (under.signs store)
      → op.parts.page_blocks ≡ plan.page_blocks → (under.holds store).block_len ≡ (under.holds (slice_index_or now at any)).block_len
      → HaveStartedTo under plan (at + 1) old (slice_set now at store) (ops ++ op ∷ [])
  one_more_started plan at old now ops op any store below many started works begins blocks lens =
      let long : at < length now = let l = started.len in omega (arith, below, l) in
      let here : (k : ℕ) (d : St) → k ≡ at → slice_index_or (slice_set now at store) k d ≡ store =
      λ k d same. ap (λ n. slice_index_or (slice_set now at store) n d) same ∙ get_or-set_same now at store d long in
      let this : (k : ℕ) (f : Operator) → k ≡ at → slice_index_or (ops ++ op ∷ []) k f ≡ op =
      λ k f same. ap (λ n. slice_index_or (ops ++ op ∷ []) n f) (same ∙ sym many) ∙ get_or-append_seam ops op [] f in
      let there : (k : ℕ) (d : St) → k ≢ at → slice_index_or (slice_set now at store) k d ≡ slice_index_or now k d =
      λ k d other. get_or-set_other now at k store d other in
      let front : (k : ℕ) (f : Operator) → k < at → slice_index_or (ops ++ op ∷ []) k f ≡ slice_index_or ops k f =
      λ k f less. get_or-append ops (op ∷ []) f k (omega (arith, less, many)) in
      record {
        len = length-set now at store ∙ started.len;
        stay = λ k d from. there k d (λ same. omega (arith, from, same)) ∙ started.stay k d (omega (arith, from));
        works = λ k d f less. ⊎_elim
            (λ (same : k ≡ at).
            let was : slice_index_or old k d ≡ slice_index_or now at any = sym (started.stay k d (omega (arith, same))) ∙ ap (λ n. slice_index_or now n d) same ∙ get_or_default now at d any long in
            rw (here k d same, this k f same, was) works)
            (λ (other : k ≢ at). rw (there k d other, front k f (omega (arith, less, other))) (started.works k d f (omega (arith, less, other))))
            (cases_eq k at);
        begins = λ k d f less. ⊎_elim
            (λ (same : k ≡ at). rw (here k d same, this k f same) begins)
            (λ (other : k ≢ at). rw (there k d other, front k f (omega (arith, less, other))) (started.begins k d f (omega (arith, less, other))))
            (cases_eq k at);
        blocks = λ k f less. ⊎_elim
            (λ (same : k ≡ at). rw (this k f same) blocks)
            (λ (other : k ≢ at). rw (front k f (omega (arith, less, other))) (started.blocks k f (omega (arith, less, other))))
            (cases_eq k at);
        lens = λ k d. ⊎_elim
            (λ (same : k ≡ at).
            let was : slice_index_or old k d ≡ slice_index_or now at any = sym (started.stay k d (omega (arith, same))) ∙ ap (λ n. slice_index_or now n d) same ∙ get_or_default now at d any long in
            rw (here k d same, was) lens)
            (λ (other : k ≢ at). rw (there k d other) (started.lens k d))
            (cases_eq k at);
      }

  -- a grouping, as it doesn't matter which
  abbrev started_one : Query → Operator
  started_one plan = started (record { session = 0; tracker = 0 }) plan.page_blocks (shape_of plan)

  -- where one could not start, the store is as it was, and so are the others once those before it have ended
  pub all_back : (plan : Query) (at : ℕ) (old now last : List St) (ops : List Operator) (any store : St) → at < length old → length ops ≡ at → All (λ s. HasRoomFor plan (under.holds s)) old
      → HaveStartedTo under plan at old now ops → IsGivenBack (under.holds (slice_index_or now at any)) (under.holds store) (under.signs (slice_index_or now at any)) (under.signs store)
      → HaveEndedFrom under 0 (slice_set now at store) last ops → AreGivenBack under old last
  all_back plan at old now last ops any store below many room started back ended =
      let long : at < length now = let l = started.len in omega (arith, below, l) in record {
        len = ended.len ∙ length-set now at store ∙ started.len;
        each = λ k d inside. ⊎_elim
            (λ (same : k ≡ at).
            let was : slice_index_or old k d ≡ slice_index_or now at any = sym (started.stay k d (omega (arith, same))) ∙ ap (λ n. slice_index_or now n d) same ∙ get_or_default now at d any long in
            let is : slice_index_or last k d ≡ store = ended.stay k d (inr (omega (arith, same, many))) ∙ ap (λ n. slice_index_or (slice_set now at store) n d) same ∙ get_or-set_same now at store d long in
            rw (is, was) back)
            (λ (other : k ≢ at).
            let there : slice_index_or (slice_set now at store) k d ≡ slice_index_or now k d = get_or-set_other now at k store d other in
            ⊎_elim
            (λ (less : k < at).
            let f = started_one plan in
            let works = started.works k d f less in
            ended.ended plan k d f _ _ (omega arith) (omega (arith, less, many)) (rw there works))
            (λ (more : at ≤ k).
            let is : slice_index_or last k d ≡ slice_index_or old k d = ended.stay k d (inr (omega (arith, more, many))) ∙ there ∙ started.stay k d more in
            rw is (still (under.holds (slice_index_or old k d)) (under.signs (slice_index_or old k d)) (room k d inside).idle))
            (cases_lt k at))
            (cases_eq k at);
      }

  -- those that started stand over their stores, whatever is done to the next one
  pub started_there : (plan : Query) (at : ℕ) (old now : List St) (ops : List Operator) (store : St) → HaveStartedTo under plan at old now ops
      → (k : ℕ) (d : St) (f : Operator) → k < at
      → IsOperator (slice_index_or ops k f) (under.holds (slice_index_or (slice_set now at store) k d)) (under.signs (slice_index_or (slice_set now at store) k d))
  started_there plan at old now ops store started k d f below =
      let there : slice_index_or (slice_set now at store) k d ≡ slice_index_or now k d = get_or-set_other now at k store d (λ same. omega (arith, same, below)) in
      rw there (started.begins k d f below).is

  pub first_len : (xs ys : List St) → length ys ≡ length xs → ((d : St) → (under.holds (slice_index_or ys 0 d)).block_len ≡ (under.holds (slice_index_or xs 0 d)).block_len) → block_len_of under ys ≡ block_len_of under xs
  first_len [] [] len same = refl
  first_len [] (y ∷ ys) len same = absurd (omega (arith, len))
  first_len (x ∷ xs) [] len same = absurd (omega (arith, len))
  first_len (x ∷ xs) (y ∷ ys) len same = same x

  -- all have started, so they may be fed
  pub may_feed : (plan : Query) (old now : List St) (ops : List Operator) → MayShare under plan old → length ops ≡ length old → HaveStartedTo under plan (length old) old now ops → MayFeed under plan now ops
  may_feed plan [] now ops may many started = let some = may.some in absurd (omega (arith, some))
  may_feed plan (x ∷ old) now ops may many started =
      let len = started.len in
      let some = may.some in
      let few = may.few in
      record {
        some = omega (arith, some, len);
        few = omega (arith, few, len);
        many = omega (arith, many, len);
        stand = λ k d f below. let begins = started.begins k d f (omega (arith, below, len)) in record { is = begins.is; feeding = begins.feeding };
        shape = λ k f below. (started.begins k x f (omega (arith, below, many))).shape_is;
        blocks = λ k f below. started.blocks k f (omega (arith, below, many));
        same = λ k d below. started.lens k d ∙ may.same k d (omega (arith, below, len)) ∙ sym (first_len (x ∷ old) now started.len (started.lens 0));
      }

  -- calls of groupings that work leave them such
  pub all_work_on : (plan : Query) (first old now : List St) (ops ops' : List Operator) → length ops ≡ length old → AllGo under old now ops ops' → AllWork under plan first old ops → AllWork under plan first now ops'
  all_work_on plan first old now ops ops' same go works =
      let len = works.len in
      let many = works.many in
      record {
        len = go.len ∙ works.len;
        many = go.many ∙ works.many;
        each = λ k d f below. works_then plan (slice_index_or ops k f) (slice_index_or ops' k f) _ _ _ _ _ _ (works.each k d f below) (go.each k d f (omega (arith, below, many))).went;
      }

  -- and may end
  pub may_end : (old now : List St) (ops ops' : List Operator) → length ops ≡ length old → AllGo under old now ops ops' → MayEnd under now ops'
  may_end old now ops ops' same go =
      let many = go.many in
      let len = go.len in
      record { many = omega (arith, many, len, same); are = λ k d f below. (go.each k d f (omega (arith, below, many))).went.op }

  -- once they have ended, each store is as it was
  pub all_given_back : (plan : Query) (first old now : List St) (ops : List Operator) → HaveEndedFrom under 0 old now ops → AllWork under plan first old ops → AreGivenBack under first now
  all_given_back plan first old now ops ended works =
      let many = works.many in
      record {
        len = ended.len ∙ works.len;
        each = λ k d below. let f = started_one plan in ended.ended plan k d f _ _ (omega arith) (omega (arith, below, many)) (works.each k d f below);
      }

  -- all that is told of blocks and pins is as it was
  pub tells_same : (xs ys : List St) → length ys ≡ length xs → ((k : ℕ) (d : St) → k < length xs → (under.holds (slice_index_or ys k d)).told ≡ (under.holds (slice_index_or xs k d)).told) → all_tell under ys ≡ all_tell under xs
  tells_same [] [] len same = refl
  tells_same [] (y ∷ ys) len same = absurd (omega (arith, len))
  tells_same (x ∷ xs) [] len same = absurd (omega (arith, len))
  tells_same (x ∷ xs) (y ∷ ys) len same =
      let first = same 0 x (omega arith) in
      let rest = tells_same xs ys (omega (arith, len)) (λ k d below. same (suc k) d (omega (arith, below))) in
      rw (first, rest) refl

  pub each_tells : (xs : List St) → all_tell under xs ≡ true → (k : ℕ) (d : St) → k < length xs → (under.holds (slice_index_or xs k d)).told ≡ true
  each_tells [] tell k d below = absurd (omega (arith, below))
  each_tells (x ∷ xs) tell zero d below = (both_true (under.holds x).told (all_tell under xs) tell).0
  each_tells (x ∷ xs) tell (suc k) d below = each_tells xs (both_true (under.holds x).told (all_tell under xs) tell).1 k d (omega (arith, below))

  -- stores over which groupings have started
  pub works_alike : (plan : Query) (old now : List St) (ops : List Operator) → AllWork under plan old now ops → (k : ℕ) (d : St) → k < length old
      → ((under.holds (slice_index_or now k d)).told ≡ (under.holds (slice_index_or old k d)).told) × ((under.holds (slice_index_or now k d)).block_len ≡ (under.holds (slice_index_or old k d)).block_len)
      × Grows (under.signs (slice_index_or old k d)) (under.signs (slice_index_or now k d))
  works_alike plan old now ops works k d below =
      let its = works.each k d (started_one plan) below in
      let others = its.went.leaves.others in
      (others.told ∙ its.own.told, others.block_len ∙ its.own.block_len, grows_trans _ _ _ its.came its.went.leaves.grows)

  -- groupings that were fed may be fed still
  pub feeds_on : (plan : Query) (old now : List St) (ops ops' : List Operator) → MayFeed under plan old ops → AllGo under old now ops ops' → MayFeed under plan now ops'
  feeds_on plan [] now ops ops' may go = let some = may.some in absurd (omega (arith, some))
  feeds_on plan (x ∷ old) now ops ops' may go =
      let some = may.some in
      let few = may.few in
      let many = may.many in
      let len = go.len in
      let more = go.many in
      record {
        some = omega (arith, some, len);
        few = omega (arith, few, len);
        many = omega (arith, many, len, more);
        stand = λ k d f below.
            let goes = go.each k d f (omega (arith, below, many, len)) in
            let was = may.stand k d f (omega (arith, below, len)) in
            record { is = goes.went.op; feeding = feeds_still _ _ was.feeding goes.same };
        shape = λ k f below. let inside : k < length ops = omega (arith, below, more) in (go.each k x f inside).same.shape ∙ may.shape k f inside;
        blocks = λ k f below. let inside : k < length ops = omega (arith, below, more) in (go.each k x f inside).same.blocks ∙ may.blocks k f inside;
        same = λ k d below.
            let inside : k < length ops = omega (arith, below, many, len) in
            (go.each k d (started_one plan) inside).went.leaves.others.block_len ∙ may.same k d (omega (arith, below, len))
            ∙ sym (first_len (x ∷ old) now go.len (λ e. (go.each 0 e (started_one plan) (omega (arith, many))).went.leaves.others.block_len));
      }
