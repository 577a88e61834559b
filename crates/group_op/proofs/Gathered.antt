-- The nodes of a table, taken one after the other, the oldest first.
use Rattle.std.proofs.Common.{◌≡◌, ◌∙◌, ℕ, ◌<◌, List, [], ◌∷◌, ◌++◌, length, map, reverse, Option, Some, None, IsSome, refl, ap, sym, subst, append_assoc, append-nil}
use Rattle.std.specs.Prelude.{All}
use Rattle.std.specs.List.{slice_get}
use Rattle.std.proofs.lemmas.List.{reverse-append}
use Rattle.tuple_stream.proofs.Chosen.{at_place}
use Rattle.bucket_table.specs.Tables.{HasNode, Node, from_node, newer_than, oldest, row_of}
use Rattle.group_op.specs.Held.{StandBehind}
use Rattle.group_op.proofs.NodeLists.{Ends, ends, from_there, left_from, nearer, newer_there, none_left, row_there}

-- what f takes of the older nodes is there, and one of the newer ones is next
pub record HasGone {X : Type 0} (f : Node → X) (nodes : List Node) (next : Option ℕ) (xs : List X) : Type 0 where
  pub newer : List Node
  pub older : List Node
  pub split : nodes ≡ newer ++ older
  pub next_is : next ≡ oldest newer
  pub taken : xs ≡ reverse (map f older)

middle : (front older : List Node) (n : Node) → slice_get (front ++ n ∷ older) (length front) ≡ Some n
middle [] older n = refl
middle (m ∷ front) older n = middle front older n

module _ {X : Type 0} (f : Node → X) where
  pub gone_none : (nodes : List Node) → HasGone f nodes (oldest nodes) []
  gone_none nodes = record { newer = nodes; older = []; split = sym (append-nil nodes); next_is = refl; taken = refl }

  pub gone_all : (nodes : List Node) (next : Option ℕ) (xs : List X) → HasGone f nodes next xs → next ≡ None → xs ≡ reverse (map f nodes)
  gone_all nodes next xs gone end =
      let none : gone.newer ≡ [] = none_left gone.newer (sym gone.next_is ∙ end) in
      let all : gone.older ≡ nodes = sym (gone.split ∙ ap (λ (ms : List Node). ms ++ gone.older) none) in
      gone.taken ∙ ap (λ (ms : List Node). reverse (map f ms)) all

  module _ (nodes : List Node) (node : ℕ) (xs : List X) (stand : StandBehind nodes) (gone : HasGone f nodes (Some node) xs) where
    pub last : Ends gone.newer node
    last = ends gone.newer node (sym gone.next_is)

    nodes_are : nodes ≡ last.front ++ last.last ∷ gone.older
    nodes_are = gone.split ∙ ap (λ (ms : List Node). ms ++ gone.older) last.split ∙ append_assoc last.front (last.last ∷ []) gone.older

    stand_so : StandBehind (last.front ++ last.last ∷ gone.older)
    stand_so = subst StandBehind nodes_are stand

    next_one : newer_than node nodes ≡ oldest last.front
    next_one = ap (λ (k : ℕ). newer_than k nodes) (sym last.place) ∙ ap (newer_than last.last.place) nodes_are ∙ newer_there last.front gone.older last.last stand_so

    pub gone_row : row_of node nodes ≡ last.last.row
    gone_row = ap (λ (k : ℕ). row_of k nodes) (sym last.place) ∙ ap (row_of last.last.place) nodes_are ∙ row_there last.front gone.older last.last stand_so

    pub gone_place : node ≡ last.last.place
    gone_place = sym last.place

    pub gone_has : HasNode node nodes
    gone_has =
        subst (λ (ms : List Node). IsSome (slice_get ms 0)) (sym (ap (λ (k : ℕ). from_node k nodes) (sym last.place) ∙ ap (from_node last.last.place) nodes_are ∙ from_there last.front gone.older last.last stand_so)) refl

    pub gone_entry : (P : Node → Type 0) → All P nodes → P last.last
    gone_entry P all = at_place P (last.front ++ last.last ∷ gone.older) (length last.front) last.last (subst (All P) nodes_are all) (middle last.front gone.older last.last)

    pub gone_less : left_from nodes (newer_than node nodes) < left_from nodes (Some node)
    gone_less =
        let way = nearer last.front gone.older last.last stand_so in
        let now : left_from nodes (newer_than node nodes) ≡ left_from (last.front ++ last.last ∷ gone.older) (oldest last.front) = ap (left_from nodes) next_one ∙ ap (λ (ms : List Node). left_from ms (oldest last.front)) nodes_are in
        let was : left_from nodes (Some node) ≡ left_from (last.front ++ last.last ∷ gone.older) (Some last.last.place) = ap (λ (k : ℕ). left_from nodes (Some k)) (sym last.place) ∙ ap (λ (ms : List Node). left_from ms (Some last.last.place)) nodes_are in
        subst (λ (k : ℕ). k < left_from nodes (Some node)) (sym now) (subst (λ (k : ℕ). left_from (last.front ++ last.last ∷ gone.older) (oldest last.front) < k) (sym was) way)

    -- it is taken too
    pub gone_more : (x : X) → x ≡ f last.last → HasGone f nodes (newer_than node nodes) (xs ++ x ∷ [])
    gone_more x is =
        record {
          newer = last.front;
          older = last.last ∷ gone.older;
          split = nodes_are;
          next_is = next_one;
          taken =
              ap (λ (ys : List X). ys ++ x ∷ []) gone.taken ∙ ap (λ (y : X). reverse (map f gone.older) ++ y ∷ []) is
              ∙ sym (reverse-append (f last.last ∷ []) (map f gone.older));
        }
