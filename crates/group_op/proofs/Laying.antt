-- What a grouping leaves on pages once its table is emptied and all of them rest.
use Rattle.std.proofs.Common.{◌≡◌, ◌∙◌, inl, inr, ℕ, zero, suc, ◌+◌, ◌<◌, List, [], ◌++◌, length, map, reverse, Option, Some, None, IfSome, refl, ap, sym, subst, arith, append-nil, length-append}
use Rattle.std.specs.Prelude.{All, ⊤}
use Rattle.std.specs.List.{sum_by}
use Rattle.std.specs.List.Sorted.{IsPermutation}
use Rattle.std.proofs.lemmas.List.{length-map, map-append, nil_from_length}
use Rattle.std.proofs.lemmas.List.Elements.{All-append, All-nil}
use Rattle.std.specs.Str.{bytes_eq}
use Rattle.std.proofs.lemmas.List.Sorted.{All-permutation, IsPermutation-append_comm, IsPermutation-append_left, IsPermutation-map, IsPermutation-reverse, IsPermutation-sym, IsPermutation-trans, length_permutation}
use Rattle.std.proofs.lemmas.List.Sums.{sum_by-append}
use Rattle.std.proofs.lemmas.Map.Keys.{IsDistinct-IsPermutation}
use Rattle.std.proofs.lemmas.Option.{none-some, slice_get_within}
use Rattle.pool_model.specs.declared.entry.Entry.{Entry}
use Rattle.pool_model.specs.declared.event.Event.{Event}
use Rattle.row_codec.specs.declared.values.Value.{Value}
use Rattle.row_codec.specs.Order.{path_order}
use Rattle.store_api.specs.declared.shapes.Shape.{Shape}
use Rattle.store_api.specs.Holdings.{Holdings, length_of}
use Rattle.store_api.specs.Signs.{Signs}
use Rattle.store_api.specs.Tokens.{ClientToken}
use Rattle.tuple_stream.specs.Streamed.{OpenPage, Streamed, all_bytes, bytes_of, page_rows}
use Rattle.tuple_stream.specs.Streams.{HasRows, IsOpen, IsShaped}
use Rattle.tuple_stream.specs.Trails.{EnteredEvents, IsBuilding, all_left}
use Rattle.tuple_stream.specs.Families.{AllClosed, AreShaped, Family, HaveReadAll, LaysAll}
use Rattle.tuple_stream.specs.FamilyCalls.{AreSteady, HaveLaid, RestsSome, shares}
use Rattle.tuple_stream.proofs.BuildingQuiet.{left_join}
use Rattle.tuple_stream.proofs.FamilyHolds.{hold_all}
use Rattle.tuple_stream.proofs.PageLists.{rows_count}
use Rattle.tuple_stream.proofs.Sinces.{since_joined, since_so}
use Rattle.bucket_table.specs.Tables.{Table}
use Rattle.partition_stack.specs.Stack.{Stack, over}
use Rattle.group_rows.specs.Partials.{combined_of, key_of}
use Rattle.group_rows.specs.Tables.{HaveDistinctKeys}
use Rattle.group_rows.proofs.Paths.{path_is_order}
use Rattle.group_rows.proofs.Tables.{any_order, bytes_equiv}
use Rattle.group_op.specs.Held.{State, rows_of, state, streams_of}
use Rattle.group_op.specs.Laid.{AreBuilt, HasLeft, HasLeftFirst, HoldsGroups}
use Rattle.group_op.specs.Operator.{IsOperator, Keeps, entries_in, operator}
use Rattle.group_op.specs.Putting.{HasFlushed}
use Rattle.group_op.specs.Stored.{IsPartialRow, dealt, grouping_of, partial_at, partials_at}
use Rattle.group_op.proofs.Deals.{deals_fed}
use Rattle.group_op.proofs.Dividing.{more_shares}
use Rattle.group_op.proofs.Entering.{rows_formed}
use Rattle.group_op.proofs.HeldPages.{held_left}
use Rattle.group_op.proofs.Paging.{rows_enough}

left_as : (xs ys : List (List ℕ)) (events : List Event) → IsPermutation xs ys → HasLeft ys events → HasLeft xs events
left_as xs ys events moved left = record { these = left.these; leaves = left.leaves; moved = IsPermutation-trans xs ys left.these moved left.moved }

laid_more : {K R : Type 0} (f g : Family) → K → (first next : List Event) → HaveLaid f first → LaysAll K R f g next → HaveLaid g (first ++ next)
laid_more f g steady first next was lays =
    record {
      building = All-append IsBuilding first next was.building (lays.building steady);
      left = λ w.
          let before = was.left w in
          let more = lays.left steady w in
          let both : sum_by w (all_left (first ++ next)) ≡ sum_by w (all_left first) + sum_by w (all_left next) = ap (sum_by w) (left_join first next) ∙ sum_by-append w (all_left first) (all_left next) in
          omega (arith, before, more, both);
    }

-- ---- the table is emptied, and all pages rest

module _ (t : ℕ) (shape : Shape) (rows : ℕ → List (List ℕ)) (a : State) (table : Table) (p q : Stack) (h k : Holdings) (s r : Signs) (start : Option (List Entry))
    (built : AreBuilt start rows (streams_of a)) (flushed : HasFlushed t shape 0 0 a (state table p h s)) (rests : RestsSome t (length p.streams) (over p h s) (over q k r)) (many : length q.streams ≡ 16) where
  abbrev gone : List (List ℕ)
  gone = reverse (rows_of a.table)

  abbrev left : ℕ → List (List ℕ)
  left i = rows i ++ dealt shape 0 0 gone i

  closed : AllClosed (over q k r)
  closed i x there = rests.closed i x there (let inside = slice_get_within q.streams i x there in let long = rests.steps.long in omega (arith, inside, long))

  laid : EnteredEvents (HaveLaid (over q k r)) start r.trail
  laid =
      since_joined (HaveLaid (over p h s)) (LaysAll (AreSteady (over p h s)) ⊤ (over p h s) (over q k r)) (HaveLaid (over q k r)) start s.trail r.trail
      (laid_more (over p h s) (over q k r) (λ i x there. inl (flushed.feeds.at_end built.at_end i x there)))
      ((deals_fed t (dealt shape 0 0 gone) (streams_of a) (over p h s) flushed.feeds).laid start built.at_end built.laid) rests.steps.trail

  holds : (events : List Event) → HaveLaid (over q k r) events → HasLeft (rows_of a.table ++ shares 16 rows) events
  holds events lays =
      left_as (rows_of a.table ++ shares 16 rows) (shares (length q.streams) left) events
      (subst (λ (n : ℕ). IsPermutation (rows_of a.table ++ shares 16 rows) (shares n left)) (sym many)
      (IsPermutation-trans (rows_of a.table ++ shares 16 rows) (shares 16 rows ++ gone) (shares 16 left)
      (IsPermutation-trans (rows_of a.table ++ shares 16 rows) (gone ++ shares 16 rows) (shares 16 rows ++ gone)
      (IsPermutation-append_left (shares 16 rows) (rows_of a.table) gone (IsPermutation-reverse (rows_of a.table))) (IsPermutation-append_comm gone (shares 16 rows)))
      (IsPermutation-sym (shares 16 left) (shares 16 rows ++ gone) (more_shares shape 0 rows gone))))
      (held_left t (over q k r) left events rests.steps.shaped
      (hold_all t (over q k r) left events rests.steps.shaped closed (rests.whole (flushed.feeds.whole built.whole)) (rests.rows left (flushed.feeds.rows rows (inr built.at_end) built.shows)) lays))

  pub settled_left : EnteredEvents (HasLeft (rows_of a.table ++ shares 16 rows)) start r.trail
  settled_left = since_so (HaveLaid (over q k r)) (HasLeft (rows_of a.table ++ shares 16 rows)) start r.trail holds laid

-- and then a page is pinned before one is left
pub left_first : (rows : List (List ℕ)) (g : Family) (a b c : Option (List Entry)) → EnteredEvents (HasLeft rows) a b → EnteredEvents (HaveReadAll g) b c → EnteredEvents (HasLeftFirst rows g) a c
left_first rows g a b c was next =
    since_joined (HasLeft rows) (HaveReadAll g) (HasLeftFirst rows g) a b c (λ x y left reads. record { laid = x; later = y; split = refl; left = left; reads = reads }) was next

-- ---- what was fed

pub built_of : (c : ClientToken) (shape : Shape) (start : Option (List Entry)) (fed : List (List Value)) (p : Stack) (table : Option Table) (h : Holdings) (s : Signs) → (keeps : Keeps start fed (operator c shape p table) h s) → AreBuilt start keeps.holds.rows (over p h s)
built_of c shape start fed p table h s keeps = record { shows = keeps.holds.shows; at_end = keeps.holds.at_end; whole = keeps.holds.whole; laid = keeps.laid }

shares_formed : (shape : Shape) (n : ℕ) (rows : ℕ → List (List ℕ)) → ((i : ℕ) → All (IsPartialRow shape) (rows i)) → All (IsPartialRow shape) (shares n rows)
shares_formed shape zero rows formed = All-nil (IsPartialRow shape)
shares_formed shape (suc n) rows formed = All-append (IsPartialRow shape) (rows 0) (shares n (λ i. rows (suc i))) (formed 0) (shares_formed shape n (λ i. rows (suc i)) (λ i. formed (suc i)))

-- the partial rows that are kept stand for the rows fed
module _ (c : ClientToken) (shape : Shape) (start : Option (List Entry)) (fed : List (List Value)) (p : Stack) (table : Option Table) (h : Holdings) (s : Signs) (keeps : Keeps start fed (operator c shape p table) h s)
    (entries : All (IsPartialRow shape) (entries_in table)) (g : Family) where
  abbrev all : List (List ℕ)
  all = entries_in table ++ shares 16 keeps.holds.rows

  alone : shares 16 keeps.holds.rows ≡ [] → HaveDistinctKeys (partials_at shape all)
  alone none = subst (λ (rs : List (List ℕ)). HaveDistinctKeys (partials_at shape rs)) (sym (ap (λ (rs : List (List ℕ)). entries_in table ++ rs) none ∙ append-nil (entries_in table))) keeps.holds.distinct

  holds_groups : (events : List Event) → HasLeftFirst all g events → HoldsGroups shape (length_of p.page_blocks h) fed g events
  holds_groups events has =
      let moved : IsPermutation all has.left.these = has.left.moved in
      let said : IsPermutation (partials_at shape all) (partials_at shape has.left.these) = IsPermutation-map (partial_at shape) all has.left.these moved in
      record {
        laid = has.laid;
        later = has.later;
        split = has.split;
        rows = has.left.these;
        leaves = has.left.leaves;
        reads = has.reads;
        formed = All-permutation (IsPartialRow shape) all has.left.these moved (All-append (IsPartialRow shape) (entries_in table) (shares 16 keeps.holds.rows) entries (shares_formed shape 16 keeps.holds.rows keeps.holds.formed));
        few =
            let long = length_permutation all has.left.these moved in
            let both = length-append (entries_in table) (shares 16 keeps.holds.rows) in
            let few = keeps.holds.few in
            omega (arith, long, both, few);
        stand =
            any_order path_order path_is_order (grouping_of shape) (partials_at shape all) (partials_at shape has.left.these) said
            ∙ ap (combined_of (grouping_of shape)) (map-append (partial_at shape) (entries_in table) (shares 16 keeps.holds.rows))
            ∙ keeps.holds.stand;
        small = λ low.
            IsDistinct-IsPermutation bytes_eq bytes_equiv.symm (map key_of (partials_at shape all)) (map key_of (partials_at shape has.left.these)) (IsPermutation-map key_of (partials_at shape all) (partials_at shape has.left.these) said)
            (alone (keeps.holds.small low));
      }

  pub kept_groups : (b : Option (List Entry)) → EnteredEvents (HasLeftFirst all g) start b → EnteredEvents (HoldsGroups shape (length_of p.page_blocks h) fed g) start b
  kept_groups b left = since_so (HasLeftFirst all g) (HoldsGroups shape (length_of p.page_blocks h) fed g) start b holds_groups left

-- ---- nothing was fed

none_pinned : (o : Option OpenPage) (n : ℕ) → n ≡ 0 → IfSome o (λ page. page.place < n) → o ≡ None
none_pinned None n none inside = refl
none_pinned (Some page) n none inside = absurd (omega (arith, inside, none))

no_rows : (n : ℕ) (rows : ℕ → List (List ℕ)) (i : ℕ) → length (shares n rows) ≡ 0 → i < n → rows i ≡ []
no_rows zero rows i none inside = absurd (omega (arith, inside))
no_rows (suc n) rows zero none inside =
    let both = length-append (rows 0) (shares n (λ i. rows (suc i))) in
    nil_from_length (rows 0) (omega (arith, none, both))
no_rows (suc n) rows (suc i) none inside =
    let both = length-append (rows 0) (shares n (λ i. rows (suc i))) in
    no_rows n (λ i. rows (suc i)) i (omega (arith, none, both)) (omega (arith, inside))

-- a stream without rows has no page
pub stream_closed : (t : ℕ) (s : Streamed) (h : Holdings) → IsShaped t s h → HasRows [] s h → s.pinned ≡ None
stream_closed t s h is has =
    let count : length (page_rows s h) ≡ length s.pages = rows_count s.spent (all_bytes s h s.pages) ∙ length-map s.pages (bytes_of s h) in
    let enough = rows_enough (page_rows s h) has.each in
    let none = ap length has.are in
    none_pinned s.pinned (length s.pages) (omega (arith, count, enough, none)) (opened_inside s.pinned is.opened)
  where
    opened_inside : (o : Option OpenPage) → IfSome o (IsOpen s h) → IfSome o (λ page. page.place < length s.pages)
    opened_inside None page = tt
    opened_inside (Some page) is_open = is_open.inside

module _ (c : ClientToken) (shape : Shape) (start : Option (List Entry)) (fed : List (List Value)) (p : Stack) (h : Holdings) (s : Signs) (keeps : Keeps start fed (operator c shape p None) h s) (shaped : AreShaped c.tracker (over p h s)) (sixteen : length p.streams ≡ 16) where
  none_there : length (shares 16 keeps.holds.rows) ≡ 0
  none_there = let few = keeps.holds.few in let none = ap length (keeps.holds.fresh refl) in omega (arith, few, none)

  closed_all : AllClosed (over p h s)
  closed_all i x there =
      stream_closed c.tracker x h (shaped.each i x there)
      (subst (λ (rs : List (List ℕ)). HasRows rs x h) (no_rows 16 keeps.holds.rows i none_there (let inside = slice_get_within p.streams i x there in omega (arith, inside, sixteen))) (keeps.holds.shows i x there))

  left_none : (events : List Event) → HaveLaid (over p h s) events → HasLeftFirst (shares 16 keeps.holds.rows) (over p h s) events
  left_none events lays =
      record {
        laid = events;
        later = [];
        split = sym (append-nil events);
        left = subst (λ (n : ℕ). HasLeft (shares n keeps.holds.rows) events) sixteen
            (held_left c.tracker (over p h s) keeps.holds.rows events shaped (hold_all c.tracker (over p h s) keeps.holds.rows events shaped closed_all keeps.holds.whole keeps.holds.shows lays));
        reads = record { first = tt; pinned = inr closed_all };
      }

  pub none_groups : EnteredEvents (HoldsGroups shape (length_of p.page_blocks h) fed (over p h s)) start s.trail
  none_groups =
      kept_groups c shape start fed p None h s keeps (All-nil (IsPartialRow shape)) (over p h s) s.trail
      (since_so (HaveLaid (over p h s)) (HasLeftFirst (shares 16 keeps.holds.rows) (over p h s)) start s.trail left_none keeps.laid)

-- ---- with a table, or without one

pub none_kept : (c : ClientToken) (shape : Shape) (start : Option (List Entry)) (fed : List (List Value)) (p : Stack) (table : Option Table) (h : Holdings) (s : Signs) → table ≡ None → IsOperator (operator c shape p table) h s → length p.streams ≡ 16
    → Keeps start fed (operator c shape p table) h s → EnteredEvents (HoldsGroups shape (length_of p.page_blocks h) fed (over p h s)) start s.trail
none_kept c shape start fed p None h s none is sixteen keeps = none_groups c shape start fed p h s keeps is.has.0.shaped sixteen
none_kept c shape start fed p (Some table) h s none is sixteen keeps = absurd (none-some table (sym none))

pub some_kept : (c : ClientToken) (shape : Shape) (start : Option (List Entry)) (fed : List (List Value)) (p : Stack) (table : Option Table) (own : Table) (h : Holdings) (s : Signs) (g : Family) (b : Option (List Entry)) → table ≡ Some own → IsOperator (operator c shape p table) h s
    → ((start : Option (List Entry)) (rows : ℕ → List (List ℕ)) → AreBuilt start rows (over p h s) → EnteredEvents (HasLeftFirst (rows_of own ++ shares 16 rows) g) start b)
    → Keeps start fed (operator c shape p table) h s → EnteredEvents (HoldsGroups shape (length_of p.page_blocks h) fed g) start b
some_kept c shape start fed p table own h s g b same is left keeps =
    let has : IsOperator (operator c shape p (Some own)) h s = subst (λ (t : Option Table). IsOperator (operator c shape p t) h s) same is in
    let kept : Keeps start fed (operator c shape p (Some own)) h s = subst (λ (t : Option Table). Keeps start fed (operator c shape p t) h s) same keeps in
    kept_groups c shape start fed p (Some own) h s kept (rows_formed shape (length_of p.page_blocks h) own.heads own.nodes has.has.1.each) g b (left start kept.holds.rows (built_of c shape start fed p (Some own) h s kept))
