-- What a grouping keeps of the rows that were fed, over a partial row that stands for more of them.
use Rattle.std.proofs.Common.{◌≡◌, ◌∙◌, ℕ, ◌+◌, ◌*◌, ◌≤◌, ◌<◌, ◌==◌, List, [], ◌∷◌, ◌++◌, length, Bool, true, false, Option, Some, Result, Ok, Err, OnOk, refl, ap, sym, subst, inl, inr, arith, length-append}
use Rattle.std.specs.Prelude.{All}
use Rattle.std.specs.List.Sorted.{IsPermutation, IsStrictlySortedBy}
use Rattle.std.specs.List.{concat}
use Rattle.std.proofs.lemmas.List.Elements.{All-append, All-cons, All-filter, All-nil}
use Rattle.std.proofs.lemmas.Bool.{eqb-true}
use Rattle.std.proofs.lemmas.Option.{none-some}
use Rattle.std.proofs.lemmas.List.Sorted.{length_permutation}
use Rattle.reservation_tree.specs.declared.errors.PoolErr.{PoolErr}
use Rattle.pool_model.specs.declared.entry.Entry.{Entry}
use Rattle.row_codec.specs.declared.values.Value.{Value}
use Rattle.row_codec.specs.Row.{IsValue}
use Rattle.row_codec.specs.RowBytes.{row_bytes}
use Rattle.store_api.specs.Conditions.{IsBlockCount}
use Rattle.store_api.specs.Shapes.{IsShape}
use Rattle.std.proofs.lemmas.List.{nil_from_length}
use Rattle.std.proofs.lemmas.List.Sums.{sum_by-append}
use Rattle.group_rows.specs.Partials.{Grouping, Partial}
use Rattle.group_rows.specs.Standing.{StandFor}
use Rattle.group_rows.specs.Tables.{HaveDistinctKeys}
use Rattle.row_codec.specs.Order.{path_order}
use Rattle.store_api.specs.Holdings.{Holdings, account_of, length_of}
use Rattle.store_api.specs.Signs.{Signs}
use Rattle.store_api.specs.Tokens.{ClientToken}
use Rattle.store_api.specs.declared.shapes.Shape.{Shape}
use Rattle.tuple_stream.specs.FamilyCalls.{HaveLaid, shares}
use Rattle.tuple_stream.specs.Trails.{EnteredEvents}
use Rattle.bucket_table.specs.Tables.{Table}
use Rattle.partition_stack.specs.Stack.{Stack, over}
use Rattle.group_op.specs.Held.{rows_of, state}
use Rattle.group_op.specs.Feeding.{HasOpened, Spells}
use Rattle.group_op.specs.Operator.{Holds, IsOperator, Keeps, bytes_for, entries_in, operator}
use Rattle.group_op.specs.Putting.{Deals, HasPut, IsTooLong, Works}
use Rattle.group_op.specs.Stored.{IsPartialRow, SameGroups, dealt, grouping_of, keys_len, partial_at, partials_at, place_of}
use Rattle.group_op.proofs.Deals.{deals_as, deals_then}
use Rattle.group_op.proofs.Dividing.{more_shares}
use Rattle.group_op.proofs.Entering.{rows_formed}
use Rattle.group_rows.proofs.Keeping.{ordered_stay}
use Rattle.group_rows.proofs.Paths.{path_is_order}
use Rattle.group_op.proofs.Fed.{fed_stands}
use Rattle.group_op.proofs.Weighing.{fed_long, keys_len_more}
use Rattle.group_op.proofs.Fewer.{concat_both, concat_moved}

alone : (q : List ℕ) → IsStrictlySortedBy path_order (q ∷ [])
unfolding IsStrictlySortedBy
alone q = (tt, tt)

-- a partial row stands for at least one row
some_rows : (grouping : Grouping) (rows : List (List Value)) (p : Partial) → StandFor path_order grouping rows (p ∷ []) → 0 < length rows
some_rows grouping [] p stands = let none : 1 ≡ 0 = sym (ap length (ordered_stay path_order path_is_order grouping (p ∷ []) (alone p.key))) ∙ ap length stands in omega (arith, none)
some_rows grouping (row ∷ rows) p stands = omega arith

go : (shape : Shape) (i : ℕ) (r : List ℕ) (rows : List (List ℕ)) (b : Bool) → (place_of shape 0 0 r == i) ≡ b → All (λ x. place_of shape 0 0 x ≡ i) (dealt shape 0 0 rows i) → All (λ x. place_of shape 0 0 x ≡ i) (dealt shape 0 0 (r ∷ rows) i)
go shape i r rows true is rest = rw is (All-cons (λ x. place_of shape 0 0 x ≡ i) r (dealt shape 0 0 rows i) (eqb-true (place_of shape 0 0 r) i is) rest)
go shape i r rows false is rest = rw is rest

-- those that are dealt to a place are of that place
pub placed_there : (shape : Shape) (i : ℕ) (rows : List (List ℕ)) → All (λ r. place_of shape 0 0 r ≡ i) (dealt shape 0 0 rows i)
placed_there shape i [] = All-nil (λ r. place_of shape 0 0 r ≡ i)
placed_there shape i (r ∷ rows) = go shape i r rows (place_of shape 0 0 r == i) refl (placed_there shape i rows)

module _ (c : ClientToken) (shape : Shape) (fed more : List (List Value)) (bytes : List ℕ) (was : Option Table) (own now : Table) (p q : Stack) (h0 h1 h2 : Holdings) (s0 s1 s2 : Signs)
    (opened : HasOpened shape was own (state own p h0 s0) (state own p h1 s1)) (put : HasPut shape 0 0 bytes (state own p h1 s1) (state now q h2 s2)) (spells : Spells shape bytes more) (holds : Holds fed (operator c shape p was) h0 s0)
    (is : IsShape shape) (partial : IsPartialRow shape bytes) (len_opened : length_of p.page_blocks h1 ≡ length_of p.page_blocks h0) (len_put : length_of q.page_blocks h2 ≡ length_of p.page_blocks h1) where
  deals : Deals (dealt shape 0 0 put.gone) (over p h0 s0) (over q h2 s2)
  deals =
      deals_as (λ i. [] ++ dealt shape 0 0 put.gone i) (dealt shape 0 0 put.gone) (over p h0 s0) (over q h2 s2) (λ i. refl)
      (deals_then (λ i. []) (dealt shape 0 0 put.gone) (over p h0 s0) (over p h1 s1) (over q h2 s2) opened.deals put.deals)

  abbrev rows_now : ℕ → List (List ℕ)
  rows_now i = holds.rows i ++ dealt shape 0 0 put.gone i

  moved : IsPermutation (shares 16 rows_now) (shares 16 holds.rows ++ put.gone)
  moved = more_shares shape 0 holds.rows put.gone

  same : SameGroups (grouping_of shape) (partials_at shape (bytes ∷ entries_in was)) (partials_at shape (rows_of now ++ put.gone))
  same = subst (λ (rs : List (List ℕ)). SameGroups (grouping_of shape) (partials_at shape (bytes ∷ rs)) (partials_at shape (rows_of now ++ put.gone))) opened.rows put.same

  entries_formed : All (IsPartialRow shape) (entries_in was)
  entries_formed = subst (All (IsPartialRow shape)) opened.rows (rows_formed shape (length_of p.page_blocks h1) own.heads own.nodes opened.entries.each)

  -- no row goes to the partitions before the keys weigh more than two pages
  none_gone : keys_len shape (fed ++ more) ≤ 2 * length_of q.page_blocks h2 → put.gone ≡ []
  none_gone low = elim put.full [
    | inl none ↦ none
    | inr full ↦
        let long = fed_long shape (length_of p.page_blocks h1) fed more bytes (entries_in was) (shares 16 holds.rows) is partial entries_formed holds.values spells.values spells.stands holds.distinct holds.stand
        (subst (IsTooLong shape (length_of p.page_blocks h1) bytes) opened.rows full) in
        absurd (omega (arith, low, long, len_put))
  ]

  none_shared : keys_len shape (fed ++ more) ≤ 2 * length_of q.page_blocks h2 → shares 16 rows_now ≡ []
  none_shared low =
      let before = keys_len_more shape fed more in
      let none = ap length (holds.small (omega (arith, low, before, len_opened, len_put))) in
      let gone = ap length (none_gone low) in
      let long = length_permutation (shares 16 rows_now) (shares 16 holds.rows ++ put.gone) moved in
      let both = length-append (shares 16 holds.rows) put.gone in
      nil_from_length (shares 16 rows_now) (omega (arith, none, gone, long, both))

  pub holds_fed : Holds (fed ++ more) (operator c shape q (Some now)) h2 s2
  holds_fed =
      record {
        rows = rows_now;
        shows = deals.rows holds.rows (inr holds.at_end) holds.shows;
        formed = λ i. All-append (IsPartialRow shape) (holds.rows i) (dealt shape 0 0 put.gone i) (holds.formed i) (All-filter (λ r. place_of shape 0 0 r == i) (IsPartialRow shape) put.gone put.formed);
        placed = λ i. All-append (λ r. place_of shape 0 0 r ≡ i) (holds.rows i) (dealt shape 0 0 put.gone i) (holds.placed i) (placed_there shape i put.gone);
        values = All-append (λ r. All IsValue r) fed more holds.values spells.values;
        stand = fed_stands shape fed more bytes (entries_in was) (rows_of now) put.gone (shares 16 holds.rows) (shares 16 rows_now) holds.values spells.values spells.stands same moved holds.stand;
        distinct = put.distinct (subst (λ (rs : List (List ℕ)). HaveDistinctKeys (partials_at shape rs)) (sym opened.rows) holds.distinct);
        fresh = λ none. absurd (none-some now (sym none));
        few =
            let long = ap length opened.rows in
            let few = holds.few in
            let fewer = put.fewer in
            let shares_long = length_permutation (shares 16 rows_now) (shares 16 holds.rows ++ put.gone) moved in
            let both = length-append (shares 16 holds.rows) put.gone in
            let all = length-append fed more in
            let some = some_rows (grouping_of shape) more (partial_at shape bytes) spells.stands in
            omega (arith, long, few, fewer, shares_long, both, all, some);
        light =
            let heavy = ap (λ (rs : List (List ℕ)). length (concat rs)) opened.rows in
            let light = holds.light in
            let lighter = put.lighter in
            let shares_heavy = concat_moved (shares 16 rows_now) (shares 16 holds.rows ++ put.gone) moved in
            let both = concat_both (shares 16 holds.rows) put.gone in
            let own = spells.light in
            let all : bytes_for shape (fed ++ more) ≡ bytes_for shape fed + bytes_for shape more = sum_by-append (λ (r : List Value). length (row_bytes r) + 16 * length shape.aggs) fed more in
            omega (arith, heavy, light, lighter, shares_heavy, both, own, all);
        small = none_shared;
        at_end = deals.at_end holds.at_end;
        whole = deals.whole holds.whole;
      }

  pub keeps_fed : (start : Option (List Entry)) → EnteredEvents (HaveLaid (over p h0 s0)) start s0.trail → Keeps start (fed ++ more) (operator c shape q (Some now)) h2 s2
  keeps_fed start laid = record { holds = holds_fed; laid = deals.laid start holds.at_end laid }

pub keeps_put : (c : ClientToken) (shape : Shape) (bytes : List ℕ) (was : Option Table) (own now : Table) (p q : Stack) (h0 h1 h2 : Holdings) (s0 s1 s2 : Signs) (r : Result Unit PoolErr)
    → IsShape shape → IsPartialRow shape bytes → length_of p.page_blocks h1 ≡ length_of p.page_blocks h0 → length_of q.page_blocks h2 ≡ length_of p.page_blocks h1
    → HasOpened shape was own (state own p h0 s0) (state own p h1 s1) → OnOk r (HasPut shape 0 0 bytes (state own p h1 s1) (state now q h2 s2))
    → OnOk r ((start : Option (List Entry)) (rows more : List (List Value)) → Spells shape bytes more → Keeps start rows (operator c shape p was) h0 s0 → Keeps start (rows ++ more) (operator c shape q (Some now)) h2 s2)
keeps_put c shape bytes was own now p q h0 h1 h2 s0 s1 s2 (Ok done) is partial one two opened put = λ start rows more spells keeps. keeps_fed c shape rows more bytes was own now p q h0 h1 h2 s0 s1 s2 opened put spells keeps.holds is partial one two start keeps.laid
keeps_put c shape bytes was own now p q h0 h1 h2 s0 s1 s2 (Err e) is partial one two opened put = tt

pub holds_put : (c : ClientToken) (shape : Shape) (bytes : List ℕ) (was : Option Table) (own now : Table) (p q : Stack) (h0 h1 h2 : Holdings) (s0 s1 s2 : Signs) (r : Result Unit PoolErr)
    → IsShape shape → IsPartialRow shape bytes → length_of p.page_blocks h1 ≡ length_of p.page_blocks h0 → length_of q.page_blocks h2 ≡ length_of p.page_blocks h1
    → HasOpened shape was own (state own p h0 s0) (state own p h1 s1) → OnOk r (HasPut shape 0 0 bytes (state own p h1 s1) (state now q h2 s2))
    → OnOk r ((rows more : List (List Value)) → Spells shape bytes more → Holds rows (operator c shape p was) h0 s0 → Holds (rows ++ more) (operator c shape q (Some now)) h2 s2)
holds_put c shape bytes was own now p q h0 h1 h2 s0 s1 s2 (Ok done) is partial one two opened put = λ rows more spells holds. holds_fed c shape rows more bytes was own now p q h0 h1 h2 s0 s1 s2 opened put spells holds is partial one two
holds_put c shape bytes was own now p q h0 h1 h2 s0 s1 s2 (Err e) is partial one two opened put = tt

-- the grouping is one over its store still
pub operator_works : (c : ClientToken) (shape : Shape) (was : Option Table) (own now : Table) (p q : Stack) (h0 h1 h2 : Holdings) (s0 s1 s2 : Signs) → IsOperator (operator c shape p was) h0 s0 → h1.block_len ≡ h0.block_len
    → (account_of c.tracker h0).reservation ≤ (account_of c.tracker h1).reservation → Works c.tracker shape (state own p h1 s1) (state now q h2 s2) → IsOperator (operator c shape q (Some now)) h2 s2
operator_works c shape was own now p q h0 h1 h2 s0 s1 s2 is len reserved works =
    record {
      shape = is.shape;
      sized = subst IsBlockCount (sym works.blocks) is.sized;
      client = works.held.owns.lives;
      least =
          let page : length_of q.page_blocks h2 ≡ length_of p.page_blocks h0 = ap (λ (n : ℕ). n * h2.block_len) works.blocks ∙ ap (λ (n : ℕ). p.page_blocks * n) (works.leaves.others.block_len ∙ len) in
          let least = is.least in
          let more = works.leaves.reserved in
          omega (arith, least, more, reserved, ap (λ (n : ℕ). 20 * n) page);
      has = (works.held, works.entries);
    }
