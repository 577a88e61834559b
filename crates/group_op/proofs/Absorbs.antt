-- The top partition is read, row after row.
use Rattle.std.proofs.Common.{◌≡◌, ◌∙◌, ℕ, zero, suc, ◌+◌, ◌-◌, ◌<◌, ◌≤◌, Bool, true, false, if◌then◌else◌, List, [], ◌∷◌, ◌++◌, length, map, drop, Option, Some, None, IfSome, IsSome, refl, ap, sym, subst, arith, append-nil, append_assoc, leb}
use Rattle.std.specs.Prelude.{slice_get}
use Rattle.std.specs.List.{concat}
use Rattle.std.proofs.lemmas.Bool.{le-leb, lt-leb}
use Rattle.std.proofs.lemmas.List.Elements.{All-nil}
use Rattle.std.proofs.lemmas.Option.{slice_get_within}
use Rattle.pool_model.specs.declared.event.Event.{Event}
use Rattle.store_api.specs.Holdings.{Holdings}
use Rattle.store_api.specs.Signs.{Signs}
use Rattle.store_api.proofs.Growing.{grows_trans}
use Rattle.store_api.specs.declared.shapes.Shape.{Shape}
use Rattle.tuple_stream.specs.Streamed.{Streamed}
use Rattle.tuple_stream.specs.Streams.{HasRows}
use Rattle.tuple_stream.specs.Families.{Family, FamilySteps, GoesAll, ShowAll}
use Rattle.tuple_stream.specs.FamilyCalls.{ReadsIn, SpendsIn, shares}
use Rattle.tuple_stream.specs.Trails.{EnteredEvents}
use Rattle.bucket_table.specs.Tables.{Node, Table}
use Rattle.partition_stack.specs.Changes.{ChangesAt, SpendsAt}
use Rattle.partition_stack.specs.Stack.{IsPlaced, Stack, over}
use Rattle.partition_stack.proofs.Making.{few_both, few_less, few_none, going_makes}
use Rattle.group_op.specs.Finishing.{HasRead, IsBetween, IsRead, Serves, Stacked}
use Rattle.group_rows.specs.Tables.{HaveDistinctKeys}
use Rattle.group_op.specs.Held.{AreEntries, IsHeld, State, page_len, rows_of, state}
use Rattle.group_op.specs.Making.{MakesFew, MakesLess}
use Rattle.group_op.specs.Pinning.{HasBegun}
use Rattle.group_op.specs.Stored.{IsPartialRow, SameGroups, grouping_of, partials_at}
use Rattle.group_op.specs.Wanting.{ShowNoMore}
use Rattle.group_op.proofs.Absorbed.{read_spent}
use Rattle.group_op.proofs.Begun.{begun_more, begun_none, begun_over}
use Rattle.group_op.proofs.Entering.{none_distinct, works_none}
use Rattle.group_op.proofs.Same.{same_refl}
use Rattle.group_op.proofs.Serving.{serves_of, serves_then, serves_touched}
use Rattle.group_op.proofs.Shown.{rows_read, show_more, show_unspent}

-- some rows were read, and so many are left
pub record HasSome (shape : Shape) (at level : ℕ) (d : Bool) (left : ℕ) (rows : ℕ → List (List ℕ)) (b : State) : Type 0 where
  pub some : List (List ℕ)
  pub rest : List (List ℕ)
  pub split : rows at ≡ some ++ rest
  pub many : left ≡ length rest
  pub read : HasRead shape at level d rows some rest b

-- no more pages were made than rows of so many were read, but for those of the table and those that are left
pub record HasMade (count left : ℕ) (a b : State) : Type 0 where
  pub most : ℕ
  pub short : most + left ≤ count
  pub less : MakesLess most b.table a.signs b.signs

pub record Absorbs (t : ℕ) (shape : Shape) (at level : ℕ) (d : Bool) (left : ℕ) (a b : State) : Type 0 where
  pub serves : Serves t shape a b
  pub place : IsRead d at level a.parts b.parts
  pub first : EnteredEvents (HasBegun d b) a.signs.trail b.signs.trail
  pub made : (s : Streamed) → slice_get a.parts.streams at ≡ Some s → HasMade s.count left a b
  pub rows : (rows : ℕ → List (List ℕ)) → Stacked shape rows a → HasSome shape at level d left rows b

slice_get_there : {X : Type 0} (xs : List X) (k : ℕ) → k < length xs → IsSome (slice_get xs k)
slice_get_there [] k inside = absurd (omega (arith, inside))
slice_get_there (x ∷ xs) zero inside = refl
slice_get_there (x ∷ xs) (suc k) inside = slice_get_there xs k (omega (arith, inside))

-- ---- nothing was read

module _ (t : ℕ) (shape : Shape) (at level left : ℕ) (a : State) (held : IsHeld t a) (entries : AreEntries shape (page_len a) a.table) (between : IsBetween a) (top : length a.parts.streams ≡ at + 1) where
  first_rows : (ℕ → List (List ℕ)) → ℕ → List (List ℕ)
  first_rows rows i = if leb i at then rows i else []

  here_row : (rows : ℕ → List (List ℕ)) (i : ℕ) → i ≤ at → first_rows rows i ≡ rows i
  unfolding first_rows
  here_row rows i low = rw (le-leb i at low) refl

  high_row : (rows : ℕ → List (List ℕ)) (i : ℕ) → at < i → first_rows rows i ≡ []
  unfolding first_rows
  high_row rows i high = rw (lt-leb i at high) refl

  first_read : (rows : ℕ → List (List ℕ)) → Stacked shape rows a → HasRead shape at level false rows [] (rows at) a
  first_read rows stacked =
      let none : rows_of a.table ≡ [] = ap (map (λ (n : Node). n.row)) between.empty in
      record {
        gone = [];
        now = first_rows rows;
        shows = λ i s there. subst (λ (rs : List (List ℕ)). HasRows rs s a.held) (sym (here_row rows i (let inside = slice_get_within a.parts.streams i s there in omega (arith, inside, top)))) (stacked.shows i s there);
        below = λ i low. here_row rows i (omega (arith, low));
        here = here_row rows at (omega arith);
        above = λ i high. high_row rows i high;
        formed = All-nil (IsPartialRow shape);
        undivided = λ is. refl;
        same = subst (λ (rs : List (List ℕ)). SameGroups (grouping_of shape) [] (partials_at shape (rs ++ []))) (sym none) (same_refl (grouping_of shape) []);
        distinct = subst (λ (rs : List (List ℕ)). HaveDistinctKeys (partials_at shape rs)) (sym none) none_distinct;
        fewer = let long = ap length none in omega (arith, long);
        lighter = let heavy = ap (λ (rs : List (List ℕ)). length (concat rs)) none in omega (arith, heavy);
      }

  count_there : (o : Option Streamed) → IfSome o (λ s. left ≡ s.count) → (rows : List (List ℕ)) → ((s : Streamed) → o ≡ Some s → HasRows rows s a.held) → IsSome o → left ≡ length rows
  count_there None counted rows has some = absurd cc
  count_there (Some s) counted rows has some = counted ∙ (has s refl).counted

  pub first_absorbs : IfSome (slice_get a.parts.streams at) (λ s. left ≡ s.count) → Absorbs t shape at level false left a a
  first_absorbs counted =
      record {
        serves = serves_of t shape a a (works_none t shape a.table a.parts a.held a.signs held entries);
        place = (top, refl, (λ i s there below. between.closed i s there));
        first = begun_none a a.signs.trail between;
        made = λ s there.
            let all : left ≡ s.count = subst (λ (o : Option Streamed). IfSome o (λ s. left ≡ s.count)) there counted in
            let none = ap (λ (nodes : List Node). length (map (λ (n : Node). n.row) nodes)) between.empty in
            record { most = 0; short = omega (arith, all); less = record { made = 0; fewer = omega (arith, none); few = few_none a.signs } };
        rows = λ rows stacked. record {
          some = [];
          rest = rows at;
          split = refl;
          many = count_there (slice_get a.parts.streams at) counted (rows at) (λ s there. stacked.shows at s there) (slice_get_there a.parts.streams at (omega (arith, top)));
          read = first_read rows stacked;
        };
      }

is_there : (o : Option Streamed) → IsSome o → (s : Streamed) × (o ≡ Some s)
is_there None some = absurd cc
is_there (Some s) some = (s, refl)

no_length : (xs : List (List ℕ)) → length xs ≡ 0 → xs ≡ []
no_length [] none = refl
no_length (x ∷ xs) none = absurd (omega (arith, none))

-- the same streams over the same store
pub read_over : (shape : Shape) (at level : ℕ) (d : Bool) (rows : ℕ → List (List ℕ)) (some rest : List (List ℕ)) (table : Table) (p q : Stack) (old new : Holdings) (before after : Signs) → over q new after ≡ over p old before
    → HasRead shape at level d rows some rest (state table p old before) → HasRead shape at level d rows some rest (state table q new after)
read_over shape at level d rows some rest table p q old new before after is read =
    record {
      gone = read.gone;
      now = read.now;
      shows = subst (ShowAll read.now) (sym is) read.shows;
      below = read.below;
      here = read.here;
      above = read.above;
      formed = read.formed;
      undivided = read.undivided;
      same = read.same;
      distinct = read.distinct;
      fewer = read.fewer;
      lighter = read.lighter;
    }

top_there : (d : Bool) (at level : ℕ) (was p : Stack) → IsRead d at level was p → IsSome (slice_get p.streams at)
top_there false at level was p place = let many = place.0 in slice_get_there p.streams at (omega (arith, many))
top_there true at level was p place = let many = place.0.sixteen in slice_get_there p.streams at (omega (arith, many))

-- ---- one call of the top partition

module _ (t : ℕ) (shape : Shape) (at level : ℕ) (d : Bool) (left : ℕ) (a : State) (table : Table) (p q : Stack) (old new : Holdings) (before after : Signs) (absorbs : Absorbs t shape at level d left a (state table p old before)) where
  place_kept : (e : Bool) → IsRead e at level a.parts p → ChangesAt at p q → length q.streams ≡ length p.streams → IsRead e at level a.parts q
  place_kept false place changes long =
      (long ∙ place.0, changes.levels ∙ place.1, λ i s there below. place.2 i s (sym (changes.others i (λ same. omega (arith, same, below))) ∙ there) below)
  place_kept true place changes long = (
    record {
      level_is = place.0.level_is;
      sixteen = long ∙ place.0.sixteen;
      above = place.0.above;
      near = place.0.near;
      low = place.0.low;
      rests = λ i s there below. place.0.rests i s (sym (changes.others i (λ same. omega (arith, same, below))) ∙ there) below;
    },
    changes.levels ∙ place.1,
  )

  pub serves_called : {laid : List Event → Type 0} → FamilySteps laid t (over p old before) (over q new after) → ChangesAt at p q → Serves t shape a (state table q new after)
  serves_called steps changes =
      serves_then t shape a (state table p old before) (state table q new after) absorbs.serves
      (serves_touched t shape table p q old new before after absorbs.serves.held absorbs.serves.entries steps changes.blocks)

  made_till : (n : ℕ) → MakesFew n a.signs before → FamilySteps (GoesAll (over p old before) (over q new after)) t (over p old before) (over q new after) → MakesFew n a.signs after
  made_till n few steps = few_both n 0 n a.signs before after (omega arith) few (going_makes t (over p old before) (over q new after) steps)

  -- a row could not be taken out
  pub made_unspent : FamilySteps (GoesAll (over p old before) (over q new after)) t (over p old before) (over q new after) → (s : Streamed) → slice_get a.parts.streams at ≡ Some s → MakesFew s.count a.signs after
  made_unspent steps s there =
      let was = absorbs.made s there in
      let short = was.short in
      let fewer = was.less.fewer in
      few_less was.less.made s.count a.signs after (omega (arith, short, fewer)) (made_till was.less.made was.less.few steps)

  -- one was taken out, and refused
  pub made_refused : FamilySteps (GoesAll (over p old before) (over q new after)) t (over p old before) (over q new after) → (last : Signs) → MakesFew (length (rows_of table)) after last → (s : Streamed) → slice_get a.parts.streams at ≡ Some s → MakesFew s.count a.signs last
  made_refused steps last more s there =
      let was = absorbs.made s there in
      let short = was.short in
      let fewer = was.less.fewer in
      few_both was.less.made (length (rows_of table)) s.count a.signs after last (omega (arith, short, fewer)) (made_till was.less.made was.less.few steps) more

  -- all that were read are in the table and in partitions
  pub less_read : (s : Streamed) → slice_get a.parts.streams at ≡ Some s → MakesLess s.count table a.signs before
  less_read s there =
      let was = absorbs.made s there in
      let short = was.short in
      let fewer = was.less.fewer in
      record { made = was.less.made; fewer = omega (arith, short, fewer); few = was.less.few }

  pub less_none : SpendsAt t at None (over p old before) (over q new after) → (s : Streamed) → slice_get a.parts.streams at ≡ Some s → MakesLess s.count table a.signs after
  less_none none s there = subst (λ (f : Family). MakesLess s.count table a.signs f.signs) (sym none.1) (less_read s there)

  pub place_called : ChangesAt at p q → length q.streams ≡ length p.streams → IsRead d at level a.parts q
  place_called changes long = place_kept d absorbs.place changes long

  no_more : (rows : ℕ → List (List ℕ)) (some rest : List (List ℕ)) → rows at ≡ some ++ rest → HasRead shape at level d rows some rest (state table p old before) → rest ≡ [] → HasRead shape at level d rows (rows at) [] (state table p old before)
  no_more rows some rest split read is =
      subst (λ (xs : List (List ℕ)). HasRead shape at level d rows xs [] (state table p old before)) (sym (split ∙ ap (λ (ys : List (List ℕ)). some ++ ys) is ∙ append-nil some))
      (subst (λ (ys : List (List ℕ)). HasRead shape at level d rows some ys (state table p old before)) is read)

  -- whether there was a row
  pub spent_row : (found : Bool) (row : List ℕ) → SpendsAt t at (if found then Some row else None) (over p old before) (over q new after) → found ≡ true → SpendsIn t at row (over p old before) (over q new after)
  spent_row found row spends is = subst (λ (b : Bool). SpendsAt t at (if b then Some row else None) (over p old before) (over q new after)) is spends

  pub spent_none : (found : Bool) (row : List ℕ) → SpendsAt t at (if found then Some row else None) (over p old before) (over q new after) → found ≡ false → SpendsAt t at None (over p old before) (over q new after)
  spent_none found row spends is = subst (λ (b : Bool). SpendsAt t at (if b then Some row else None) (over p old before) (over q new after)) is spends

  -- no row was there
  pub ended_rows : ((s : Streamed) → slice_get p.streams at ≡ Some s → s.count ≡ 0) → (rows : ℕ → List (List ℕ)) → Stacked shape rows a → (inside : IsSome (slice_get p.streams at)) → HasRead shape at level d rows (rows at) [] (state table p old before)
  ended_rows none rows stacked inside =
      let has = absorbs.rows rows stacked in
      let there = is_there (slice_get p.streams at) inside in
      let counted : length has.rest ≡ 0 = sym (ap length (has.read.here)) ∙ sym (has.read.shows at there.0 there.1).counted ∙ none there.0 there.1 in
      no_more rows has.some has.rest has.split has.read (no_length has.rest counted)

  pub none_rows : SpendsAt t at None (over p old before) (over q new after) → (rows : ℕ → List (List ℕ)) → Stacked shape rows a → HasRead shape at level d rows (rows at) [] (state table q new after)
  none_rows none rows stacked =
      read_over shape at level d rows (rows at) [] table p q old new before after none.1 (ended_rows none.0 rows stacked (top_there d at level a.parts p absorbs.place))

  pub none_place : SpendsAt t at None (over p old before) (over q new after) → ChangesAt at p q → IsRead d at level a.parts q
  none_place none changes = place_called changes (ap (λ (f : Family). length f.streams) none.1)

  pub none_first : SpendsAt t at None (over p old before) (over q new after) → EnteredEvents (HasBegun d (state table q new after)) a.signs.trail after.trail
  none_first none = begun_over d table p q old new before after a.signs.trail none.1 absorbs.first

  -- a row was taken out, and then taken in
  pub more_absorbs : (row : List ℕ) → SpendsIn t at row (over p old before) (over q new after) → ChangesAt at p q
      → (e : Bool) (b : State) → Serves t shape (state table q new after) b → ((was : Stack) → IsRead d at level was q → IsRead e at level was b.parts)
      → ((rows : ℕ → List (List ℕ)) (some rest : List (List ℕ)) → new.told ≡ true → HasRead shape at level d rows some rest (state table q new after) → HasRead shape at level e rows (some ++ row ∷ []) rest b)
      → MakesLess (length (rows_of table) + 1) b.table after b.signs → 0 < left → Absorbs t shape at level e (left - 1) a b
  more_absorbs row spends changes e b serves place taken more some_left =
      record {
        serves = serves_then t shape a (state table q new after) b (serves_called spends.steps changes) serves;
        place = place a.parts (place_called changes spends.steps.long);
        first =
            begun_more d e (state table p old before) b a.signs.trail before.trail after.trail b.signs.trail absorbs.first (grows_trans before after b.signs spends.steps.grows serves.leaves.grows).trail
            (λ between. spends.pins between.closed) serves.leaves.grows.trail;
        made = λ s there.
            let was = absorbs.made s there in
            let short = was.short in
            let fewer = was.less.fewer in
            let now = more.fewer in
            record {
              most = was.most + 1;
              short = omega (arith, short, some_left);
              less = record {
                made = was.less.made + more.made;
                fewer = omega (arith, fewer, now);
                few = few_both was.less.made more.made (was.less.made + more.made) a.signs after b.signs (omega arith) (made_till was.less.made was.less.few spends.steps) more.few;
              };
            };
        rows = λ rows stacked.
            let has = absorbs.rows rows stacked in
            let told : old.told ≡ true = absorbs.serves.leaves.others.told ∙ stacked.told in
            let spent = read_spent shape t at level d rows has.some has.rest row table p q old new before after has.read told spends in
            record {
              some = has.some ++ row ∷ [];
              rest = drop 1 has.rest;
              split = has.split ∙ ap (λ (ys : List (List ℕ)). has.some ++ ys) spent.0 ∙ sym (append_assoc has.some (row ∷ []) (drop 1 has.rest));
              many = let many = has.many in let long = ap length spent.0 in omega (arith, many, long);
              read = taken rows has.some (drop 1 has.rest) (spends.steps.touches.told ∙ told) spent.1;
            };
      }

  -- all were read
  pub all_rows : left ≡ 0 → (rows : ℕ → List (List ℕ)) → Stacked shape rows a → HasRead shape at level d rows (rows at) [] (state table p old before)
  all_rows none rows stacked =
      let has = absorbs.rows rows stacked in
      let many = has.many in
      no_more rows has.some has.rest has.split has.read (no_length has.rest (omega (arith, many, none)))

  -- ---- no more rows stand there

  -- a row could not be taken out
  pub stand_unspent : ReadsIn t (over p old before) (over q new after) → level < 16 → IsPlaced at level → (rows : ℕ → List (List ℕ)) → Stacked shape rows a → ShowNoMore (shares (at + 1) rows) (state table q new after)
  stand_unspent reads deep placed rows stacked =
      let has = absorbs.rows rows stacked in
      show_unspent shape t at level d rows has.some has.rest table p q old new before after a.parts has.read absorbs.place deep placed (absorbs.serves.leaves.others.told ∙ stacked.told) has.split reads

  -- one was taken out, and refused
  pub stand_refused : (row : List ℕ) → SpendsIn t at row (over p old before) (over q new after) → (b : State)
      → ((rows : ℕ → List (List ℕ)) (some rest : List (List ℕ)) → new.told ≡ true → HasRead shape at level d rows some rest (state table q new after) → ShowNoMore (shares at rows ++ (some ++ rest)) b)
      → (rows : ℕ → List (List ℕ)) → Stacked shape rows a → ShowNoMore (shares (at + 1) rows) b
  stand_refused row spends b stand rows stacked =
      let has = absorbs.rows rows stacked in
      let told : old.told ≡ true = absorbs.serves.leaves.others.told ∙ stacked.told in
      let spent = read_spent shape t at level d rows has.some has.rest row table p q old new before after has.read told spends in
      show_more (shares at rows ++ (has.some ++ drop 1 has.rest)) (shares (at + 1) rows) b
      (rows_read at rows has.some (drop 1 has.rest) (row ∷ []) (has.split ∙ ap (λ (ys : List (List ℕ)). has.some ++ ys) spent.0))
      (stand rows has.some (drop 1 has.rest) (spends.steps.touches.told ∙ told) spent.1)
