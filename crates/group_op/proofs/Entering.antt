-- A partial row is in the table, one way or another.
use Rattle.std.proofs.Common.{◌≡◌, ◌≢◌, ◌∙◌, ℕ, ◌+◌, ◌*◌, ◌%◌, ◌≤◌, zero, suc, Bool, true, false, List, [], ◌∷◌, ◌++◌, length, map, set, reverse, Some, Result, Ok, Err, OnOk, IfErr, option_map, refl, ap, sym, subst, arith, append-nil, inl, inr}
use Rattle.std.specs.Prelude.{All, slice_get}
use Rattle.std.specs.List.{AllByRecursion, IsDistinct, concat}
use Rattle.std.proofs.lemmas.Map.Keys.{IsDistinct-cons}
use Rattle.std.specs.Str.{bytes_eq}
use Rattle.std.proofs.lemmas.List.{length-set, map-set, length-reverse}
use Rattle.std.proofs.lemmas.List.Elements.{All-cons, All-head, All-nil, All-set, All-tail}
use Rattle.std.proofs.lemmas.List.Sorted.{All-permutation, IsPermutation-map, IsPermutation-reverse}
use Rattle.std.proofs.lemmas.Option.{none-some, same_Some, slice_get-map}
use Rattle.row_codec.specs.Order.{hash_of, path_order}
use Rattle.row_codec.specs.RowLaws.{RowBack}
use Rattle.store_api.specs.declared.shapes.Shape.{Shape}
use Rattle.store_api.specs.Emitters.{OthersStay}
use Rattle.store_api.specs.Holdings.{Holdings, length_of}
use Rattle.store_api.specs.Shapes.{IsShape}
use Rattle.store_api.specs.Signs.{Grows, Signs, WasAnswered}
use Rattle.store_api.proofs.Answered.{answered_before}
use Rattle.reservation_tree.specs.declared.errors.PoolErr.{PoolErr}
use Rattle.store_api.proofs.Growing.{grows_refl}
use Rattle.tuple_stream.specs.Families.{AreShaped}
use Rattle.tuple_stream.proofs.FamilyWords.{feeds_none}
use Rattle.bucket_table.specs.Spreading.{spread}
use Rattle.bucket_table.specs.Tables.{HasNode, Node, Table, new_node, row_of, used_by, with_nodes, with_row}
use Rattle.partition_stack.specs.Stack.{Stack, over}
use Rattle.partition_stack.proofs.Slots.{slots_none}
use Rattle.group_rows.specs.Partials.{combine, key_of}
use Rattle.group_rows.specs.Tables.{HaveDistinctKeys}
use Rattle.group_rows.proofs.Keys.{true_same}
use Rattle.group_rows.proofs.Paths.{path_is_order}
use Rattle.group_rows.proofs.Tables.{into_entry}
use Rattle.group_op.specs.Held.{AreEntries, IsEntry, IsHeld, StandBehind, State, page_len, rows_of, state, streams_of}
use Rattle.group_op.specs.Putting.{Deals, HasFlushed, HasGrown, HasPut, HasPutHere, IsTooLong, Lacks, Works}
use Rattle.group_op.specs.Stored.{IsPartialRow, SameGroups, dealt, grouping_of, joined, key_at, partial_at, partials_at}
use Rattle.group_op.proofs.Deals.{deals_as, deals_fed, deals_then}
use Rattle.group_op.proofs.Finding.{entry_of, entry_row}
use Rattle.group_op.proofs.Joins.{IsJoined, joins}
use Rattle.group_op.proofs.Paging.{few_same, made_none}
use Rattle.group_op.proofs.RowForms.{partial_is_framed}
use Rattle.group_op.proofs.Rewriting.{NodeAt, rewritten_at, with_own}
use Rattle.group_op.proofs.Same.{same_back, same_into, same_order, same_refl}
use Rattle.group_op.proofs.Fewer.{concat_moved, concat_one, concat_set}

-- what follows of an answer
pub so_ok : (P Q : Type 0) (result : Result Unit PoolErr) → (P → Q) → OnOk result P → OnOk result Q
so_ok P Q (Ok done) so p = so p
so_ok P Q (Err e) so p = tt

pub cause_after : (a b c : Signs) (result : Result Unit PoolErr) → Grows a b → IfErr result (λ e. WasAnswered e b c) → IfErr result (λ e. WasAnswered e a c)
cause_after a b c (Ok done) grows was = tt
cause_after a b c (Err e) grows was = answered_before e a b c grows was

same_all : (t : ℕ) (h : Holdings) → OthersStay (Some t) h h
same_all t h =
    record {
      block_len = refl;
      session = refl;
      query = refl;
      limit = refl;
      live_clients = refl;
      told = refl;
      reservation = omega arith;
      others = λ u other. record { account = refl; pages = λ q page client. ((λ lives. lives), (λ lives. lives)); loans = λ q loan client. ((λ lives. lives), (λ lives. lives)) };
      alone = λ none. absurd cc;
    }

pub works_none : (t : ℕ) (shape : Shape) (table : Table) (p : Stack) (h : Holdings) (signs : Signs) → IsHeld t (state table p h signs) → AreEntries shape (length_of p.page_blocks h) table → Works t shape (state table p h signs) (state table p h signs)
works_none t shape table p h signs held entries =
    record {
      held = held;
      entries = entries;
      leaves = record { others = same_all t h; grows = grows_refl signs; reserved = omega arith; room = omega arith };
      blocks = refl;
      levels = refl;
      many = refl;
      slots = slots_none p.page_blocks (over p h signs);
      made = made_none (over p h signs);
      few = few_same (state table p h signs) (state table p h signs) refl;
    }

-- ---- a new entry

pub entries_new : (shape : Shape) (len hash : ℕ) (row : List ℕ) (table : Table) → AreEntries shape len table → IsPartialRow shape row → length row ≤ len → hash ≡ hash_of (key_at shape row) → AreEntries shape len (with_nodes (new_node (spread hash % table.heads) row table.nodes ∷ table.nodes) table)
entries_new shape len hash row table entries p short is =
    record {
      each = All-cons (IsEntry shape len table.heads) (new_node (spread hash % table.heads) row table.nodes) table.nodes (record { row = p; short = short; chain = ap (λ (h : ℕ). spread h % table.heads) is }) entries.each;
      behind = (refl, entries.behind);
      roomy = entries.roomy;
    }

-- ---- the entry of its key

stand_set : (nodes : List Node) (i : ℕ) (n : Node) (row : List ℕ) → slice_get nodes i ≡ Some n → length row ≡ length n.row → StandBehind nodes → StandBehind (set nodes i (with_own row n)) × (used_by (set nodes i (with_own row n)) ≡ used_by nodes)
stand_set [] i n row there long stand = absurd (none-some n there)
stand_set (x ∷ xs) zero n row there long stand =
    let same : x ≡ n = same_Some x n there in
    let place : n.place ≡ used_by xs = ap (λ (m : Node). m.place) (sym same) ∙ stand.0 in
    let was : x.place ≡ used_by xs = stand.0 in
    let rows : length x.row ≡ length n.row = ap (λ (m : Node). length m.row) same in
    ((place, stand.1), omega (arith, place, was, rows, long))
stand_set (x ∷ xs) (suc i) n row there long stand =
    let rest = stand_set xs i n row there long stand.1 in
    ((stand.0 ∙ sym rest.1, rest.0), refl)

module _ (back : RowBack) (shape : Shape) (len node : ℕ) (table : Table) (row : List ℕ) (is : IsShape shape) (entries : AreEntries shape len table) (has : HasNode node table.nodes) (p : IsPartialRow shape row) (key : key_at shape (row_of node table.nodes) ≡ key_at shape row) where
  entry : (at : NodeAt node table.nodes) × IsEntry shape len table.heads at.node
  entry = entry_of shape len node table entries has

  now : List ℕ
  now = joined shape (row_of node table.nodes) row

  are : IsJoined shape (row_of node table.nodes) row (joined shape (row_of node table.nodes) row)
  are = joins back shape (row_of node table.nodes) row is (entry_row shape len node table entries has) p

  nodes_are : with_row node (joined shape (row_of node table.nodes) row) table.nodes ≡ set table.nodes entry.0.index (with_own (joined shape (row_of node table.nodes) row) entry.0.node)
  nodes_are = rewritten_at node (joined shape (row_of node table.nodes) row) table.nodes entries.behind entry.0

  entry_now : IsEntry shape len table.heads (with_own (joined shape (row_of node table.nodes) row) entry.0.node)
  entry_now =
      record {
        row = are.partial;
        short = let long = are.long in let same = ap length entry.0.row in let short = entry.1.short in omega (arith, long, same, short);
        chain = entry.1.chain ∙ ap (λ (k : List ℕ). spread (hash_of k) % table.heads) (ap (key_at shape) (sym entry.0.row) ∙ sym are.key);
      }

  pub entries_joined : AreEntries shape len (with_nodes (with_row node (joined shape (row_of node table.nodes) row) table.nodes) table)
  entries_joined =
      let long : length (joined shape (row_of node table.nodes) row) ≡ length entry.0.node.row = are.long ∙ ap length entry.0.row in
      record {
        each = subst (All (IsEntry shape len table.heads)) (sym nodes_are) (All-set (IsEntry shape len table.heads) table.nodes entry.0.index (with_own (joined shape (row_of node table.nodes) row) entry.0.node) entry_now entries.each);
        behind = subst StandBehind (sym nodes_are) (stand_set table.nodes entry.0.index entry.0.node (joined shape (row_of node table.nodes) row) entry.0.there long entries.behind).0;
        roomy = entries.roomy;
      }

  rows_are : map (λ n. n.row) (with_row node (joined shape (row_of node table.nodes) row) table.nodes) ≡ set (rows_of table) entry.0.index (joined shape (row_of node table.nodes) row)
  rows_are = ap (map (λ (n : Node). n.row)) nodes_are ∙ map-set (λ (n : Node). n.row) table.nodes entry.0.index (with_own (joined shape (row_of node table.nodes) row) entry.0.node)

  partials_are : partials_at shape (map (λ n. n.row) (with_row node (joined shape (row_of node table.nodes) row) table.nodes)) ≡ set (partials_at shape (rows_of table)) entry.0.index (combine (grouping_of shape) (partial_at shape (row_of node table.nodes)) (partial_at shape row))
  partials_are =
      ap (partials_at shape) rows_are ∙ map-set (partial_at shape) (rows_of table) entry.0.index (joined shape (row_of node table.nodes) row)
      ∙ ap (set (partials_at shape (rows_of table)) entry.0.index) are.says_so

  there : slice_get (partials_at shape (rows_of table)) entry.0.index ≡ Some (partial_at shape (row_of node table.nodes))
  there =
      slice_get-map (partial_at shape) (rows_of table) entry.0.index
      ∙ ap (option_map (partial_at shape)) (slice_get-map (λ (n : Node). n.row) table.nodes entry.0.index ∙ ap (option_map (λ (n : Node). n.row)) entry.0.there)
      ∙ ap (λ (r : List ℕ). Some (partial_at shape r)) (sym entry.0.row)

  row_there : slice_get (rows_of table) entry.0.index ≡ Some (row_of node table.nodes)
  row_there =
      slice_get-map (λ (n : Node). n.row) table.nodes entry.0.index ∙ ap (option_map (λ (n : Node). n.row)) entry.0.there ∙ ap (λ (r : List ℕ). Some r) (sym entry.0.row)

  pub here_found : (t : ℕ) (parts : Stack) (h : Holdings) (signs : Signs) → AreShaped t (over parts h signs) → HasPutHere shape row (state table parts h signs) (state (with_nodes (with_row node (joined shape (row_of node table.nodes) row) table.nodes) table) parts h signs)
  here_found t parts h signs shaped =
      record {
        deals = deals_fed t (λ i. []) (over parts h signs) (over parts h signs) (feeds_none t (over parts h signs) shaped);
        same =
            subst (SameGroups (grouping_of shape) (partials_at shape (row ∷ rows_of table))) (sym partials_are)
            (same_into (grouping_of shape) (partials_at shape (rows_of table)) entry.0.index (partial_at shape (row_of node table.nodes)) (partial_at shape row) there key);
        distinct = λ apart. subst HaveDistinctKeys (sym partials_are)
            ((into_entry path_order path_is_order (grouping_of shape) (partials_at shape (rows_of table)) [] entry.0.index (partial_at shape (row_of node table.nodes)) (partial_at shape row) there key).distinct apart);
        fewer = let rows = ap length rows_are in let long = length-set (rows_of table) entry.0.index (joined shape (row_of node table.nodes) row) in omega (arith, rows, long);
        lighter =
            let rows = ap (λ (rs : List (List ℕ)). length (concat rs)) rows_are in
            let same = concat_set (rows_of table) entry.0.index (row_of node table.nodes) (joined shape (row_of node table.nodes) row) row_there are.long in
            omega (arith, rows, same);
      }

-- ---- a new one

pub apart_false : (a b : List ℕ) → a ≢ b → bytes_eq a b ≡ false
apart_false a b apart = go (bytes_eq a b) refl where
  go : (c : Bool) → bytes_eq a b ≡ c → c ≡ false
  go true is = absurd (apart (true_same a b is))
  go false is = refl

one_apart : (shape : Shape) (row : List ℕ) (nodes : List Node) → All (λ n. key_at shape n.row ≢ key_at shape row) nodes → AllByRecursion (λ q. bytes_eq (key_of (partial_at shape row)) q ≡ false) (map key_of (map (partial_at shape) (map (λ n. n.row) nodes)))
one_apart shape row [] lacks = tt
one_apart shape row (n ∷ nodes) lacks = (
  apart_false (key_at shape row) (key_at shape n.row) (λ same. All-head (λ n. key_at shape n.row ≢ key_at shape row) n nodes lacks (sym same)),
  one_apart shape row nodes (All-tail (λ n. key_at shape n.row ≢ key_at shape row) n nodes lacks),
)

pub rows_formed : (shape : Shape) (len heads : ℕ) (nodes : List Node) → All (IsEntry shape len heads) nodes → All (IsPartialRow shape) (map (λ n. n.row) nodes)
rows_formed shape len heads [] each = All-nil (IsPartialRow shape)
rows_formed shape len heads (n ∷ nodes) each =
    All-cons (IsPartialRow shape) n.row (map (λ (m : Node). m.row) nodes) (All-head (IsEntry shape len heads) n nodes each).row (rows_formed shape len heads nodes (All-tail (IsEntry shape len heads) n nodes each))

pub none_distinct : IsDistinct bytes_eq []
unfolding IsDistinct
none_distinct = tt

lacked_rows : (shape : Shape) (key : List ℕ) (nodes : List Node) → All (λ n. key_at shape n.row ≢ key) nodes → All (λ row. key_at shape row ≢ key) (map (λ (n : Node). n.row) nodes)
lacked_rows shape key [] lacks = All-nil (λ row. key_at shape row ≢ key)
lacked_rows shape key (n ∷ nodes) lacks =
    All-cons (λ row. key_at shape row ≢ key) n.row (map (λ (m : Node). m.row) nodes) (All-head (λ n. key_at shape n.row ≢ key) n nodes lacks) (lacked_rows shape key nodes (All-tail (λ n. key_at shape n.row ≢ key) n nodes lacks))

lacked_nodes : (shape : Shape) (key : List ℕ) (nodes : List Node) → All (λ row. key_at shape row ≢ key) (map (λ (n : Node). n.row) nodes) → All (λ n. key_at shape n.row ≢ key) nodes
lacked_nodes shape key [] lacks = All-nil (λ n. key_at shape n.row ≢ key)
lacked_nodes shape key (n ∷ nodes) lacks =
    All-cons (λ n. key_at shape n.row ≢ key) n nodes (All-head (λ row. key_at shape row ≢ key) n.row (map (λ (m : Node). m.row) nodes) lacks) (lacked_nodes shape key nodes (All-tail (λ row. key_at shape row ≢ key) n.row (map (λ (m : Node). m.row) nodes) lacks))

-- what one table lacks, another with the same rows lacks too
pub lacks_same : (shape : Shape) (key : List ℕ) (a b : Table) → rows_of b ≡ rows_of a → Lacks shape key a → Lacks shape key b
lacks_same shape key a b rows lacks = lacked_nodes shape key b.nodes (subst (All (λ row. key_at shape row ≢ key)) (sym rows) (lacked_rows shape key a.nodes lacks))

-- a table with the same rows has a new one
pub here_new : (shape : Shape) (hash : ℕ) (row : List ℕ) (a : State) (table : Table) (parts : Stack) (h : Holdings) (signs : Signs) → rows_of table ≡ rows_of a.table → Deals (λ i. []) (streams_of a) (over parts h signs) → Lacks shape (key_at shape row) a.table
    → HasPutHere shape row a (state (with_nodes (new_node (spread hash % table.heads) row table.nodes ∷ table.nodes) table) parts h signs)
here_new shape hash row a table parts h signs rows deals lacks =
    record {
      deals = deals;
      same =
          subst (λ (rs : List (List ℕ)). SameGroups (grouping_of shape) (partials_at shape (row ∷ rows_of a.table)) (partials_at shape (row ∷ rs))) (sym rows)
          (same_refl (grouping_of shape) (partials_at shape (row ∷ rows_of a.table)));
      distinct = λ apart.
          subst (λ (rs : List (List ℕ)). HaveDistinctKeys (partials_at shape (row ∷ rs))) (sym rows)
          (IsDistinct-cons bytes_eq (key_of (partial_at shape row)) (map key_of (partials_at shape (rows_of a.table))) (one_apart shape row a.table.nodes lacks) apart);
      fewer = let long = ap length rows in omega (arith, long);
      lighter = let heavy = ap (λ (rs : List (List ℕ)). length (concat rs)) rows in let one = concat_one row (rows_of table) in omega (arith, heavy, one);
    }

-- no row went to partitions
pub put_of_here : (shape : Shape) (level base : ℕ) (row : List ℕ) (a b : State) → HasPutHere shape row a b → HasPut shape level base row a b
put_of_here shape level base row a b here =
    record {
      gone = [];
      formed = All-nil (IsPartialRow shape);
      deals = here.deals;
      same =
          subst (λ (rs : List (List ℕ)). SameGroups (grouping_of shape) (partials_at shape (row ∷ rows_of a.table)) (partials_at shape rs)) (sym (append-nil (rows_of b.table))) here.same;
      distinct = here.distinct;
      fewer = let fewer = here.fewer in omega (arith, fewer);
      lighter = let lighter = here.lighter in omega (arith, lighter);
      full = inl refl;
    }

pub here_gone : (shape : Shape) (level base : ℕ) (row : List ℕ) (a b : State) (here : HasPutHere shape row a b) → (put_of_here shape level base row a b here).gone ≡ []
unfolding put_of_here
here_gone shape level base row a b here = refl

-- these rows of the table went to the partitions of a level, and it has the others
pub record HasMoved (shape : Shape) (level base : ℕ) (a b : State) : Type 0 where
  pub gone : List (List ℕ)
  pub formed : All (IsPartialRow shape) gone
  pub deals : Deals (dealt shape level base gone) (streams_of a) (streams_of b)
  pub same : SameGroups (grouping_of shape) (partials_at shape (rows_of a.table)) (partials_at shape (rows_of b.table ++ gone))
  pub distinct : HaveDistinctKeys (partials_at shape (rows_of a.table)) → HaveDistinctKeys (partials_at shape (rows_of b.table))
  pub lacks : (key : List ℕ) → Lacks shape key a.table → Lacks shape key b.table
  pub fewer : length (rows_of b.table) + length gone ≤ length (rows_of a.table)
  pub lighter : length (concat (rows_of b.table)) + length (concat gone) ≤ length (concat (rows_of a.table))

-- they all went
pub flushed_moved : (t : ℕ) (shape : Shape) (level base : ℕ) (a b : State) → All (IsPartialRow shape) (rows_of a.table) → HasFlushed t shape level base a b → HasMoved shape level base a b
flushed_moved t shape level base a b formed flushed =
    let none : b.table.nodes ≡ [] = ap (λ (x : Table). x.nodes) flushed.table in
    let rows : rows_of b.table ≡ [] = ap (map (λ (n : Node). n.row)) none in
    let out : List (List ℕ) = reverse (rows_of a.table) in
    record {
      gone = reverse (rows_of a.table);
      formed = All-permutation (IsPartialRow shape) (rows_of a.table) (reverse (rows_of a.table)) (IsPermutation-reverse (rows_of a.table)) formed;
      deals = deals_fed t (dealt shape level base (reverse (rows_of a.table))) (streams_of a) (streams_of b) flushed.feeds;
      same =
          subst (λ (rs : List (List ℕ)). SameGroups (grouping_of shape) (partials_at shape (rows_of a.table)) (partials_at shape (rs ++ reverse (rows_of a.table)))) (sym rows)
          (same_order (grouping_of shape) (partials_at shape (rows_of a.table)) (partials_at shape (reverse (rows_of a.table))) (IsPermutation-map (partial_at shape) (rows_of a.table) (reverse (rows_of a.table)) (IsPermutation-reverse (rows_of a.table))));
      distinct = λ apart. subst (λ (rs : List (List ℕ)). HaveDistinctKeys (partials_at shape rs)) (sym rows) none_distinct;
      lacks = λ key lacks. subst (All (λ (n : Node). key_at shape n.row ≢ key)) (sym none) (All-nil (λ n. key_at shape n.row ≢ key));
      fewer = let one = ap length rows in let long = length-reverse (rows_of a.table) in omega (arith, one, long);
      lighter =
          let none : length (concat (rows_of b.table)) ≡ 0 = ap (λ (rs : List (List ℕ)). length (concat rs)) rows in
          let back = concat_moved (rows_of a.table) (reverse (rows_of a.table)) (IsPermutation-reverse (rows_of a.table)) in
          omega (arith, none, back);
    }

-- one move after a growth
pub moved_then : (t : ℕ) (shape : Shape) (level base : ℕ) (a b c : State) → rows_of b.table ≡ rows_of a.table → Deals (λ i. []) (streams_of a) (streams_of b) → HasMoved shape level base b c → HasMoved shape level base a c
moved_then t shape level base a b c rows deals moved =
    record {
      gone = moved.gone;
      formed = moved.formed;
      deals = deals_as (λ i. [] ++ dealt shape level base moved.gone i) (dealt shape level base moved.gone) (streams_of a) (streams_of c) (λ i. refl) (deals_then (λ i. []) (dealt shape level base moved.gone) (streams_of a) (streams_of b) (streams_of c) deals moved.deals);
      same = subst (λ (rs : List (List ℕ)). SameGroups (grouping_of shape) (partials_at shape rs) (partials_at shape (rows_of c.table ++ moved.gone))) rows moved.same;
      distinct = subst (λ (rs : List (List ℕ)). HaveDistinctKeys (partials_at shape rs) → HaveDistinctKeys (partials_at shape (rows_of c.table))) rows moved.distinct;
      lacks = λ key lacks. moved.lacks key (lacks_same shape key a.table b.table rows lacks);
      fewer = let long = ap length rows in let fewer = moved.fewer in omega (arith, long, fewer);
      lighter = let heavy = ap (λ (rs : List (List ℕ)). length (concat rs)) rows in let lighter = moved.lighter in omega (arith, heavy, lighter);
    }

-- and a new entry
pub put_moved : (shape : Shape) (level base hash : ℕ) (row : List ℕ) (a : State) (table : Table) (parts : Stack) (h : Holdings) (signs : Signs) → Lacks shape (key_at shape row) a.table → IsTooLong shape (page_len a) row (rows_of a.table) → HasMoved shape level base a (state table parts h signs)
    → HasPut shape level base row a (state (with_nodes (new_node (spread hash % table.heads) row table.nodes ∷ table.nodes) table) parts h signs)
put_moved shape level base hash row a table parts h signs lacks full moved =
    record {
      gone = moved.gone;
      formed = moved.formed;
      deals = moved.deals;
      same = same_back (grouping_of shape) (partial_at shape row ∷ []) (partials_at shape (rows_of a.table)) (partials_at shape (rows_of table ++ moved.gone)) moved.same;
      distinct = λ apart. IsDistinct-cons bytes_eq (key_of (partial_at shape row)) (map key_of (partials_at shape (rows_of table))) (one_apart shape row table.nodes (moved.lacks (key_at shape row) lacks)) (moved.distinct apart);
      fewer = let fewer = moved.fewer in omega (arith, fewer);
      lighter = let lighter = moved.lighter in let one = concat_one row (rows_of table) in omega (arith, lighter, one);
      full = inr full;
    }

-- after a growth
pub put_grown : (shape : Shape) (level base hash : ℕ) (row : List ℕ) (t : ℕ) (a m : State) (table : Table) (parts : Stack) (h : Holdings) (signs : Signs) → HasGrown t shape a m → Lacks shape (key_at shape row) m.table → IsTooLong shape (page_len a) row (rows_of a.table) → HasMoved shape level base m (state table parts h signs)
    → HasPut shape level base row a (state (with_nodes (new_node (spread hash % table.heads) row table.nodes ∷ table.nodes) table) parts h signs)
put_grown shape level base hash row t a m table parts h signs grown lacks full moved =
    put_moved shape level base hash row a table parts h signs (lacks_same shape (key_at shape row) m.table a.table (sym grown.rows) lacks) full
    (moved_then t shape level base a m (state table parts h signs) grown.rows grown.deals moved)

pub works_len : (t : ℕ) (shape : Shape) (a b : State) → Works t shape a b → page_len b ≡ page_len a
works_len t shape a b works = ap (λ (n : ℕ). n * b.held.block_len) works.blocks ∙ ap (λ (n : ℕ). a.parts.page_blocks * n) works.leaves.others.block_len

pub four_long : (shape : Shape) (row : List ℕ) → IsPartialRow shape row → 4 ≤ length row
four_long shape row p = let framed = partial_is_framed shape row p in omega (arith, framed)
