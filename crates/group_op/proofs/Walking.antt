-- The rows of a table go to partitions one after the other, the oldest first.
use Rattle.std.proofs.Common.{◌≡◌, ◌∙◌, inl, inr, ℕ, ◌+◌, ◌<◌, ◌≤◌, List, [], ◌∷◌, ◌++◌, length, map, reverse, Option, Some, None, IsSome, refl, ap, sym, subst, arith, append_assoc, append-nil, length-append}
use Rattle.std.specs.Prelude.{All}
use Rattle.std.specs.List.{slice_get}
use Rattle.std.proofs.lemmas.List.{length-map, length-reverse, map-append, reverse-append}
use Rattle.store_api.specs.Holdings.{Holdings}
use Rattle.store_api.specs.Signs.{Signs}
use Rattle.store_api.specs.declared.shapes.Shape.{Shape}
use Rattle.tuple_stream.specs.Families.{AreShaped, Family, ShowAll, pages_in}
use Rattle.tuple_stream.specs.FamilyCalls.{AllAtEnd, AreSure, Feeds, FeedsAll, shares, with_rows}
use Rattle.tuple_stream.proofs.FamilyWords.{feeds_more, feeds_none, shown_as}
use Rattle.tuple_stream.proofs.Chosen.{at_place}
use Rattle.bucket_table.specs.Tables.{HasNode, Node, Table, from_node, newer_than, oldest, row_of}
use Rattle.partition_stack.specs.Stack.{Stack, over}
use Rattle.partition_stack.specs.Changes.{ChangesAt}
use Rattle.group_op.specs.Held.{StandBehind, state}
use Rattle.group_op.specs.Putting.{HasFew, IsFan}
use Rattle.group_op.specs.Stored.{dealt, place_of}
use Rattle.group_op.specs.Wanting.{AreNoMore, ShowNoMore, StandNoMore, rows_with}
use Rattle.group_op.proofs.Dealing.{dealt_more}
use Rattle.group_op.proofs.NodeLists.{Ends, ends, from_there, left_from, nearer, newer_there, none_left, row_there}
use Rattle.group_op.proofs.Paging.{few_fed, few_refused, same_rows}
use Rattle.group_op.proofs.Fewer.{no_more_all, no_more_back, no_more_behind, no_more_shares, no_more_swapped, no_more_then}

-- the rows of some nodes, the oldest first
abbrev pub rows_in : List Node → List (List ℕ)
rows_in nodes = reverse (map (λ n. n.row) nodes)

rows_more : (n : Node) (older : List Node) → rows_in (n ∷ older) ≡ rows_in older ++ n.row ∷ []
rows_more n older = reverse-append (n.row ∷ []) (map (λ m. m.row) older)

middle : (front older : List Node) (n : Node) → slice_get (front ++ n ∷ older) (length front) ≡ Some n
middle [] older n = refl
middle (m ∷ front) older n = middle front older n

-- the rows of the older nodes went, and one of the newer ones is next
pub record HasWalked (t : ℕ) (shape : Shape) (level base from : ℕ) (nodes : List Node) (next : Option ℕ) (f : Family) (p q : Stack) (h : Holdings) (signs : Signs) : Type 0 where
  pub newer : List Node
  pub older : List Node
  pub split : nodes ≡ newer ++ older
  pub next_is : next ≡ oldest newer
  pub feeds : FeedsAll t (dealt shape level base (rows_in older)) f (over q h signs)
  pub fan : IsFan level base from q
  pub blocks : q.page_blocks ≡ p.page_blocks
  pub levels : q.levels ≡ p.levels
  pub few : pages_in (over q h signs) ≤ pages_in f + length older

pub walked_none : (t : ℕ) (shape : Shape) (level base from : ℕ) (nodes : List Node) (p : Stack) (h : Holdings) (signs : Signs) → AreShaped t (over p h signs) → IsFan level base from p → HasWalked t shape level base from nodes (oldest nodes) (over p h signs) p p h signs
walked_none t shape level base from nodes p h signs shaped fan =
    record {
      newer = nodes;
      older = [];
      split = sym (append-nil nodes);
      next_is = refl;
      feeds = feeds_none t (over p h signs) shaped;
      fan = fan;
      blocks = refl;
      levels = refl;
      few = omega arith;
    }

pub fan_kept : (level base from at : ℕ) (p q : Stack) → IsFan level base from p → base ≤ at → ChangesAt at p q → length q.streams ≡ length p.streams → IsFan level base from q
fan_kept level base from at p q fan above changes long =
    record {
      level_is = fan.level_is;
      sixteen = long ∙ fan.sixteen;
      above = fan.above;
      near = fan.near;
      low = fan.low;
      rests = λ i s there below. fan.rests i s (sym (changes.others i (λ same. let under = fan.above in omega (arith, same, above, below, under))) ∙ there) below;
    }

module _ (t : ℕ) (shape : Shape) (level base from : ℕ) (nodes : List Node) (node : ℕ) (f : Family) (p q : Stack) (h : Holdings) (signs : Signs) (stand : StandBehind nodes) (walked : HasWalked t shape level base from nodes (Some node) f p q h signs) where
  pub last : Ends walked.newer node
  last = ends walked.newer node (sym walked.next_is)

  nodes_are : nodes ≡ last.front ++ last.last ∷ walked.older
  nodes_are = walked.split ∙ ap (λ (ms : List Node). ms ++ walked.older) last.split ∙ append_assoc last.front (last.last ∷ []) walked.older

  stand_so : StandBehind (last.front ++ last.last ∷ walked.older)
  stand_so = subst StandBehind nodes_are stand

  -- the row at the node
  pub row_is : row_of node nodes ≡ last.last.row
  row_is = ap (λ (k : ℕ). row_of k nodes) (sym last.place) ∙ ap (row_of last.last.place) nodes_are ∙ row_there last.front walked.older last.last stand_so

  -- it stands there
  pub has_node : HasNode node nodes
  has_node =
      subst (λ (ms : List Node). IsSome (slice_get ms 0)) (sym (ap (λ (k : ℕ). from_node k nodes) (sym last.place) ∙ ap (from_node last.last.place) nodes_are ∙ from_there last.front walked.older last.last stand_so)) refl

  -- and what holds of each node holds of it
  pub entry_is : (P : Node → Type 0) → All P nodes → P last.last
  entry_is P all = at_place P (last.front ++ last.last ∷ walked.older) (length last.front) last.last (subst (All P) nodes_are all) (middle last.front walked.older last.last)

  next_one : newer_than node nodes ≡ oldest last.front
  next_one = ap (λ (k : ℕ). newer_than k nodes) (sym last.place) ∙ ap (newer_than last.last.place) nodes_are ∙ newer_there last.front walked.older last.last stand_so

  pub less : left_from nodes (newer_than node nodes) < left_from nodes (Some node)
  less =
      let way = nearer last.front walked.older last.last stand_so in
      let now : left_from nodes (newer_than node nodes) ≡ left_from (last.front ++ last.last ∷ walked.older) (oldest last.front) = ap (left_from nodes) next_one ∙ ap (λ (ms : List Node). left_from ms (oldest last.front)) nodes_are in
      let was : left_from nodes (Some node) ≡ left_from (last.front ++ last.last ∷ walked.older) (Some last.last.place) = ap (λ (k : ℕ). left_from nodes (Some k)) (sym last.place) ∙ ap (λ (ms : List Node). left_from ms (Some last.last.place)) nodes_are in
      omega (arith, way, now, was)

  pub walked_more : (r : Stack) (new : Holdings) (after : Signs) (row : List ℕ) → row ≡ row_of node nodes → Feeds t (place_of shape level base row) (row ∷ []) (over q h signs) (over r new after) → (AllAtEnd (over q h signs) → AllAtEnd (over r new after)) → ChangesAt (place_of shape level base row) q r → pages_in (over r new after) ≤ pages_in (over q h signs) + 1
      → HasWalked t shape level base from nodes (newer_than node nodes) f p r new after
  walked_more r new after row is feeds ends changes few =
      record {
        newer = last.front;
        older = last.last ∷ walked.older;
        split = nodes_are;
        next_is = next_one;
        feeds =
            let same : row ≡ last.last.row = is ∙ row_is in
            let rows : rows_in walked.older ++ row ∷ [] ≡ rows_in (last.last ∷ walked.older) = ap (λ (x : List ℕ). rows_in walked.older ++ x ∷ []) same ∙ sym (rows_more last.last walked.older) in
            subst (λ (rs : List (List ℕ)). FeedsAll t (dealt shape level base rs) f (over r new after)) rows
            (feeds_more t (place_of shape level base row) (dealt shape level base (rows_in walked.older)) (dealt shape level base (rows_in walked.older ++ row ∷ [])) (row ∷ []) f (over q h signs) (over r new after) walked.feeds feeds ends
            (dealt_more shape level base (rows_in walked.older) row));
        fan = fan_kept level base from (place_of shape level base row) q r walked.fan (omega arith) changes feeds.steps.long;
        blocks = changes.blocks ∙ walked.blocks;
        levels = changes.levels ∙ walked.levels;
        few = let was = walked.few in omega (arith, was, few);
      }

  -- the row at the node may have made one more page
  pub walked_next : (r : Stack) (new : Holdings) (after : Signs) → pages_in (over r new after) ≤ pages_in (over q h signs) + 1 → pages_in (over r new after) ≤ pages_in f + length (map (λ n. n.row) nodes)
  walked_next r new after one =
      let few = walked.few in
      let all = length-map nodes (λ (n : Node). n.row) in
      let split = ap length nodes_are ∙ length-append last.front (last.last ∷ walked.older) in
      omega (arith, one, few, all, split)

-- no more rows went than the table has
pub walked_few : (t : ℕ) (shape : Shape) (level base from : ℕ) (nodes : List Node) (next : Option ℕ) (f : Family) (p q : Stack) (h : Holdings) (signs : Signs) → (walked : HasWalked t shape level base from nodes next f p q h signs) → length (rows_in walked.older) ≤ length (map (λ n. n.row) nodes)
walked_few t shape level base from nodes next f p q h signs walked =
    let back = length-reverse (map (λ (n : Node). n.row) walked.older) in
    let some = length-map walked.older (λ (n : Node). n.row) in
    let all = length-map nodes (λ (n : Node). n.row) in
    let split = ap length walked.split ∙ length-append walked.newer walked.older in
    omega (arith, back, some, all, split)

pub walked_pages : (t : ℕ) (shape : Shape) (level base from : ℕ) (nodes : List Node) (next : Option ℕ) (f : Family) (p q : Stack) (h : Holdings) (signs : Signs) → HasWalked t shape level base from nodes next f p q h signs → pages_in (over q h signs) ≤ pages_in f + length (map (λ n. n.row) nodes)
walked_pages t shape level base from nodes next f p q h signs walked =
    let few = walked.few in
    let all = length-map nodes (λ (n : Node). n.row) in
    let split = ap length walked.split ∙ length-append walked.newer walked.older in
    omega (arith, few, all, split)

pub few_walked : (t : ℕ) (shape : Shape) (level base from : ℕ) (next : Option ℕ) (table : Table) (p q : Stack) (h k : Holdings) (s r : Signs) → HasWalked t shape level base from table.nodes next (over p h s) p q k r → HasFew (state table p h s) (state table q k r)
few_walked t shape level base from next table p q h k s r walked =
    few_fed t shape level base (rows_in walked.older) (state table p h s) (state table q k r) (walked_few t shape level base from table.nodes next (over p h s) p q k r walked) walked.feeds

-- and the next row was refused
pub few_stopped : (t : ℕ) (shape : Shape) (level base from at : ℕ) (next : Option ℕ) (table : Table) (p q now : Stack) (h k j : Holdings) (s r u : Signs) → HasWalked t shape level base from table.nodes next (over p h s) p q k r → Feeds t at [] (over q k r) (over now j u) → HasFew (state table p h s) (state table now j u)
few_stopped t shape level base from at next table p q now h k j s r u walked last =
    few_refused t shape level base at (rows_in walked.older) (state table p h s) (state table q k r) (state table now j u) (walked_few t shape level base from table.nodes next (over p h s) p q k r walked) walked.feeds last

pub walked_all : (t : ℕ) (shape : Shape) (level base from : ℕ) (nodes : List Node) (next : Option ℕ) (f : Family) (p q : Stack) (h : Holdings) (signs : Signs) → HasWalked t shape level base from nodes next f p q h signs → next ≡ None → FeedsAll t (dealt shape level base (rows_in nodes)) f (over q h signs)
walked_all t shape level base from nodes next f p q h signs walked end =
    let none : walked.newer ≡ [] = none_left walked.newer (sym walked.next_is ∙ end) in
    let all : walked.older ≡ nodes = sym (walked.split ∙ ap (λ (ms : List Node). ms ++ walked.older) none) in
    subst (λ (ms : List Node). FeedsAll t (dealt shape level base (rows_in ms)) f (over q h signs)) all walked.feeds

-- ---- and no more stand there

-- the older nodes' rows are no more than those of all
walked_no_more : (t : ℕ) (shape : Shape) (level base from : ℕ) (nodes : List Node) (next : Option ℕ) (f : Family) (p q : Stack) (h : Holdings) (signs : Signs) → (walked : HasWalked t shape level base from nodes next f p q h signs) → AreNoMore (rows_in walked.older) (map (λ n. n.row) nodes)
walked_no_more t shape level base from nodes next f p q h signs walked =
    let older : List (List ℕ) = map (λ (n : Node). n.row) walked.older in
    let newer : List (List ℕ) = map (λ (n : Node). n.row) walked.newer in
    no_more_then (rows_in walked.older) older (map (λ (n : Node). n.row) nodes) (no_more_back older)
    (subst (AreNoMore older) (sym (map-append (λ (n : Node). n.row) walked.newer walked.older) ∙ ap (map (λ (n : Node). n.row)) (sym walked.split)) (no_more_behind newer older))

shown_no_more : (t : ℕ) (shape : Shape) (level base from : ℕ) (next : Option ℕ) (table : Table) (p q : Stack) (h k : Holdings) (s r : Signs) (walked : HasWalked t shape level base from table.nodes next (over p h s) p q k r)
    → (now : Stack) (j : Holdings) (u : Signs) → length now.streams ≡ length q.streams → (rows : ℕ → List (List ℕ)) → ShowAll (λ i. rows i ++ dealt shape level base (rows_in walked.older) i) (over now j u) → ShowNoMore (rows_with (state table p h s) rows) (state table now j u)
shown_no_more t shape level base from next table p q h k s r walked now j u long rows shows =
    record {
      many = let sixteen = walked.fan.sixteen in let low = walked.fan.low in omega (arith, long, sixteen, low);
      rows = λ i. rows i ++ dealt shape level base (rows_in walked.older) i;
      shows = shows;
      no_more =
          let n : ℕ = length p.streams in
          let same : length now.streams ≡ length p.streams = long ∙ walked.feeds.steps.long in
          subst (λ (m : ℕ). AreNoMore (shares m (λ i. rows i ++ dealt shape level base (rows_in walked.older) i)) (rows_with (state table p h s) rows)) (sym same)
          (no_more_then (shares (length p.streams) (λ i. rows i ++ dealt shape level base (rows_in walked.older) i)) (shares (length p.streams) rows ++ map (λ n. n.row) table.nodes) (rows_with (state table p h s) rows)
          (no_more_shares (length p.streams) rows (dealt shape level base (rows_in walked.older)) (map (λ n. n.row) table.nodes)
          (no_more_then (shares (length p.streams) (dealt shape level base (rows_in walked.older))) (rows_in walked.older) (map (λ n. n.row) table.nodes) (no_more_all shape level base (length p.streams) (rows_in walked.older))
          (walked_no_more t shape level base from table.nodes next (over p h s) p q k r walked)))
          (no_more_swapped (shares (length p.streams) rows) (map (λ n. n.row) table.nodes)));
    }

pub stand_walked : (t : ℕ) (shape : Shape) (level base from : ℕ) (next : Option ℕ) (table : Table) (p q : Stack) (h k : Holdings) (s r : Signs) → HasWalked t shape level base from table.nodes next (over p h s) p q k r → StandNoMore (state table p h s) (state table q k r)
stand_walked t shape level base from next table p q h k s r walked =
    record {
      whole = walked.feeds.whole;
      show = λ rows sure shows. shown_no_more t shape level base from next table p q h k s r walked q k r refl rows (walked.feeds.rows rows sure shows);
    }

sure_fed : (t : ℕ) (fed : ℕ → List (List ℕ)) (f g : Family) → FeedsAll t fed f g → AreSure f → AreSure g
sure_fed t fed f g feeds sure = elim sure [ inl tells ↦ inl (feeds.steps.touches.told ∙ tells) | inr all ↦ inr (feeds.at_end all) ]

pub stand_stopped : (t : ℕ) (shape : Shape) (level base from at : ℕ) (next : Option ℕ) (table : Table) (p q now : Stack) (h k j : Holdings) (s r u : Signs) → HasWalked t shape level base from table.nodes next (over p h s) p q k r → Feeds t at [] (over q k r) (over now j u) → StandNoMore (state table p h s) (state table now j u)
stand_stopped t shape level base from at next table p q now h k j s r u walked last =
    record {
      whole = λ all. last.whole (walked.feeds.whole all);
      show = λ rows sure shows.
          let dealt_rows : ℕ → List (List ℕ) = λ i. rows i ++ dealt shape level base (rows_in walked.older) i in
          shown_no_more t shape level base from next table p q h k s r walked now j u last.steps.long rows
          (shown_as (with_rows at (dealt_rows at ++ []) dealt_rows) dealt_rows (over now j u) (same_rows at dealt_rows)
          (last.rows dealt_rows (sure_fed t (dealt shape level base (rows_in walked.older)) (over p h s) (over q k r) walked.feeds sure) (walked.feeds.rows rows sure shows)));
    }
