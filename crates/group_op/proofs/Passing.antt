-- A row passes a full table: it goes to its partition, and the table has the rows that it had.
use Rattle.std.proofs.Common.{ℕ, ◌+◌, ◌*◌, ◌<◌, ◌≤◌, List, [], ◌∷◌, ◌++◌, length, map, Result, Ok, Err, OnOk, OnErr, refl, ap, sym, subst, arith, inr}
use Rattle.std.specs.List.{concat}
use Rattle.std.proofs.lemmas.List.Elements.{All-cons, All-nil}
use Rattle.std.proofs.lemmas.List.Sorted.{IsPermutation-append_comm, IsPermutation-map}
use Rattle.reservation_tree.specs.declared.errors.PoolErr.{PoolErr}
use Rattle.store_api.specs.Holdings.{Holdings}
use Rattle.store_api.specs.Signs.{Signs}
use Rattle.store_api.specs.declared.shapes.Shape.{Shape}
use Rattle.tuple_stream.specs.Families.{pages_in}
use Rattle.tuple_stream.specs.FamilyCalls.{AllAtEnd, Feeds, FeedsAll}
use Rattle.tuple_stream.specs.Steps.{came}
use Rattle.tuple_stream.proofs.FamilyWords.{feeds_more, feeds_none}
use Rattle.bucket_table.specs.Tables.{Node, Table, used_by}
use Rattle.partition_stack.specs.Changes.{ChangesAt}
use Rattle.partition_stack.specs.Stack.{Stack}
use Rattle.group_rows.specs.Tables.{HaveDistinctKeys}
use Rattle.group_op.specs.Held.{State, page_len, rows_of, state, streams_of}
use Rattle.group_op.specs.Putting.{HasFew, HasGrown, HasPut, IsFan, IsTooLong, Works}
use Rattle.group_op.specs.Stored.{IsPartialRow, SameGroups, dealt, grouping_of, partial_at, partials_at, place_of}
use Rattle.group_op.specs.Wanting.{StandNoMore}
use Rattle.group_op.proofs.Dealing.{dealt_more}
use Rattle.group_op.proofs.Deals.{deals_as, deals_fed, deals_then}
use Rattle.group_op.proofs.Fewer.{concat_one}
use Rattle.group_op.proofs.Keeping.{works_touched}
use Rattle.group_op.proofs.Paging.{all_few}
use Rattle.group_op.proofs.Same.{same_order}
use Rattle.group_op.proofs.Walking.{stand_stopped, walked_none}
use Rattle.group_op.proofs.Wants.{stand_after}
use Rattle.group_op.proofs.Growth.{grown_then_works}

-- a table without room for a row of a page has some
pub some_rows : (nodes : List Node) (len room long : ℕ) → 2 * len ≤ room → room < used_by nodes + 4 + long → long ≤ len → 4 ≤ long → 0 < length (map (λ n. n.row) nodes)
some_rows [] len room long roomy full short four = absurd (omega (arith, roomy, full, short, four))
some_rows (n ∷ nodes) len room long roomy full short four = omega arith

-- it is the last of the rows that stand anywhere
passed_same : (shape : Shape) (row : List ℕ) (rows : List (List ℕ)) → SameGroups (grouping_of shape) (partials_at shape (row ∷ rows)) (partials_at shape (rows ++ row ∷ []))
passed_same shape row rows =
    same_order (grouping_of shape) (partials_at shape (row ∷ rows)) (partials_at shape (rows ++ row ∷ []))
    (IsPermutation-map (partial_at shape) (row ∷ rows) (rows ++ row ∷ []) (IsPermutation-append_comm (row ∷ []) rows))

module _ (t : ℕ) (shape : Shape) (level base from : ℕ) (row : List ℕ) (a : State) (table : Table) (p q : Stack) (h k : Holdings) (s r : Signs) (grown : HasGrown t shape a (state table p h s)) where
  abbrev pub m : State
  m = state table p h s

  abbrev pub b : State
  b = state table q k r

  fed : Feeds t (place_of shape level base row) (row ∷ []) (streams_of m) (streams_of b) → (AllAtEnd (streams_of m) → AllAtEnd (streams_of b)) → FeedsAll t (dealt shape level base (row ∷ [])) (streams_of m) (streams_of b)
  fed feeds ends =
      feeds_more t (place_of shape level base row) (dealt shape level base []) (dealt shape level base ([] ++ row ∷ [])) (row ∷ []) (streams_of m) (streams_of m) (streams_of b)
      (feeds_none t (streams_of m) grown.works.held.owns.shaped) feeds ends (dealt_more shape level base [] row)

  passed : IsPartialRow shape row → IsTooLong shape (page_len a) row (rows_of a.table) → Feeds t (place_of shape level base row) (row ∷ []) (streams_of m) (streams_of b) → (AllAtEnd (streams_of m) → AllAtEnd (streams_of b)) → HasPut shape level base row a b
  passed formed full feeds ends =
      record {
        gone = row ∷ [];
        formed = All-cons (IsPartialRow shape) row [] formed (All-nil (IsPartialRow shape));
        deals =
            deals_as (λ i. [] ++ dealt shape level base (row ∷ []) i) (dealt shape level base (row ∷ [])) (streams_of a) (streams_of b) (λ i. refl)
            (deals_then (λ i. []) (dealt shape level base (row ∷ [])) (streams_of a) (streams_of m) (streams_of b) grown.deals (deals_fed t (dealt shape level base (row ∷ [])) (streams_of m) (streams_of b) (fed feeds ends)));
        same =
            subst (λ (rs : List (List ℕ)). SameGroups (grouping_of shape) (partials_at shape (row ∷ rows_of a.table)) (partials_at shape (rs ++ row ∷ []))) (sym grown.rows)
            (passed_same shape row (rows_of a.table));
        distinct = subst (λ (rs : List (List ℕ)). HaveDistinctKeys (partials_at shape (rows_of a.table)) → HaveDistinctKeys (partials_at shape rs)) (sym grown.rows) (λ apart. apart);
        fewer = let long = ap length grown.rows in omega (arith, long);
        lighter = let heavy = ap (λ (rs : List (List ℕ)). length (concat rs)) grown.rows in let one = concat_one row [] in omega (arith, heavy, one);
        full = inr full;
      }

  -- the answer of the call that appends it
  pub put_passed : (result : Result Unit PoolErr) → IsPartialRow shape row → IsTooLong shape (page_len a) row (rows_of a.table) → Feeds t (place_of shape level base row) (came result row) (streams_of m) (streams_of b) → OnOk result (AllAtEnd (streams_of m) → AllAtEnd (streams_of b)) → OnOk result (HasPut shape level base row a b)
  put_passed (Ok done) formed full feeds ends = passed formed full feeds ends
  put_passed (Err e) formed full feeds ends = tt

  few_passed : 0 < length (rows_of table) → pages_in (streams_of b) ≤ pages_in (streams_of m) + 1 → HasFew m b
  few_passed some few = λ rows ends shows. let all = all_few rows (streams_of m) shows in omega (arith, some, few, all)

  pub works_passed : (more : List (List ℕ)) → Feeds t (place_of shape level base row) more (streams_of m) (streams_of b) → ChangesAt (place_of shape level base row) p q → 0 < length (rows_of table) → pages_in (streams_of b) ≤ pages_in (streams_of m) + 1 → Works t shape a b
  works_passed more feeds changes some few =
      grown_then_works t shape a m b grown
      (works_touched t shape table p q h k s r grown.works.held grown.works.entries feeds.steps changes.blocks changes.levels (few_passed some few))

  pub stand_passed : (result : Result Unit PoolErr) → IsFan level base from p → Feeds t (place_of shape level base row) (came result row) (streams_of m) (streams_of b) → OnErr result (StandNoMore a b)
  stand_passed (Ok done) fan feeds = tt
  stand_passed (Err e) fan feeds =
      stand_after a m b grown.rows grown.works.many grown.deals
      (stand_stopped t shape level base from (place_of shape level base row) _ table p p q h h k s s r (walked_none t shape level base from table.nodes p h s grown.works.held.owns.shaped fan) feeds)
