-- A chain of a table is walked from its newest node on, and each row on it meets a row of the other side.
use Rattle.std.proofs.Common.{◌≡◌, ◌≢◌, ◌∙◌, inl, inr, ℕ, ◌+◌, ◌<◌, ◌==◌, ◌%◌, Bool, true, false, List, [], ◌∷◌, ◌++◌, Option, Some, None, IsSome, refl, ap, ap₂, sym, subst, arith, eq-eqb, ne_eqb}
use Rattle.std.specs.Prelude.{IfSome, filter, slice_get}
use Rattle.std.specs.List.{sum_by}
use Rattle.std.specs.Str.{bytes_eq}
use Rattle.std.proofs.lemmas.Bool.{cases_Bool, cases_eq, false≢true}
use Rattle.std.proofs.lemmas.List.Sums.{sum_by-append}
use Rattle.std.proofs.lemmas.Option.{none-some, same_Some}
use Rattle.std.proofs.lemmas.Slice.Eq.{bytes_eq-Decides}
use Rattle.row_codec.specs.declared.values.Value.{Value}
use Rattle.row_codec.specs.Order.{hash_of}
use Rattle.store_api.specs.declared.shapes.JoinShape.{JoinShape}
use Rattle.bucket_table.specs.Spreading.{spread}
use Rattle.bucket_table.specs.Tables.{HasNode, Node, first_row, from_node, newest_on, next_among, next_on_chain, row_of, used_by}
use Rattle.join_op.specs.Chunks.{stored_pairs}
use Rattle.join_op.specs.Handing.{Emitted}
use Rattle.join_op.specs.Holding.{AreStored, held_side, pairs_with, read_side, stored}
use Rattle.join_op.specs.Pairs.{SameRows}
use Rattle.join_op.specs.Stored.{Side, key_at, left_side, right_side}
use Rattle.join_op.proofs.ChunkPairs.{emitted_then, with_helds, none_held}
use Rattle.join_op.proofs.Handed.{emitted_as, emitted_none}

-- the nodes of a chain
abbrev pub on_chain : ℕ → List Node → List Node
on_chain k nodes = filter (λ n. n.chain == k) nodes

-- the rows of a chain from a node on
abbrev pub to_come : ℕ → List Node → Option ℕ → List (List ℕ)
to_come k nodes None = []
to_come k nodes (Some p) = stored (on_chain k (from_node p nodes))

-- the node is one of the chain
abbrev pub IsOn : ℕ → List Node → Option ℕ → Type 0
IsOn k nodes next = IfSome next (λ p. IfSome (slice_get (from_node p nodes) 0) (λ n. n.chain ≡ k))

-- a node was found with the older ones behind it
record IsFound (side : Side) (heads p : ℕ) (nodes : List Node) (n : Node) (older : List Node) : Type 0 where
  stored : AreStored side heads older
  place : n.place ≡ p
  stands : n.place ≡ used_by older
  below : used_by older < used_by nodes
  same : (q : ℕ) → q < used_by older → from_node q nodes ≡ from_node q older

first_of : (m n : Node) (xs ys : List Node) → m ∷ xs ≡ n ∷ ys → (m ≡ n) × (xs ≡ ys)
first_of m n xs ys is = (same_Some m n (ap (λ (zs : List Node). slice_get zs 0) is), ap (λ (zs : List Node). rest_of zs) is)
  where
    rest_of : List Node → List Node
    rest_of [] = []
    rest_of (z ∷ zs) = zs

found : (side : Side) (heads p : ℕ) (nodes : List Node) (n : Node) (older : List Node) → AreStored side heads nodes → from_node p nodes ≡ n ∷ older → IsFound side heads p nodes n older
found side heads p [] n older are is = absurd (none-some n (ap (λ (zs : List Node). slice_get zs 0) is))
found side heads p (m ∷ rest) n older are is = elim (cases_eq m.place p) [
  | inl same ↦
      let here : m ∷ rest ≡ n ∷ older = sym (rw (eq-eqb m.place p same) refl) ∙ is in
      let both = first_of m n rest older here in
      let stands : m.place ≡ used_by rest = are.0.place in
      let place : n.place ≡ m.place = ap (λ (x : Node). x.place) (sym both.0) in
      let used : used_by older ≡ used_by rest = ap used_by (sym both.1) in
      record {
        stored = subst (AreStored side heads) both.1 are.1;
        place = place ∙ same;
        stands = place ∙ stands ∙ sym used;
        below = omega (arith, stands, used);
        same = λ q low.
            let apart : m.place ≢ q = λ equal. omega (arith, equal, low, stands, used) in
            rw (ne_eqb m.place q apart) (ap (from_node q) both.1);
      }
  | inr apart ↦
      let there : from_node p rest ≡ n ∷ older = sym (rw (ne_eqb m.place p apart) refl) ∙ is in
      let deep = found side heads p rest n older are.1 there in
      let stands : m.place ≡ used_by rest = are.0.place in
      let low = deep.below in
      record {
        stored = deep.stored;
        place = deep.place;
        stands = deep.stands;
        below = omega (arith, low, stands);
        same = λ q small.
            let other : m.place ≢ q = λ equal. omega (arith, equal, small, low, stands) in
            rw (ne_eqb m.place q other) (deep.same q small);
      }
]

-- ---- the newest node of a chain

record IsNewest (k : ℕ) (nodes : List Node) (next : Option ℕ) : Type 0 where
  below : IfSome next (λ p. p < used_by nodes)
  on : IsOn k nodes next
  comes : to_come k nodes next ≡ stored (on_chain k nodes)

newest_here : (k : ℕ) (n : Node) (older : List Node) → n.chain ≡ k → newest_on k (n ∷ older) ≡ Some n.place
newest_here k n older same = rw (eq-eqb n.chain k same) refl

newest_past : (k : ℕ) (n : Node) (older : List Node) → n.chain ≢ k → newest_on k (n ∷ older) ≡ newest_on k older
newest_past k n older apart = rw (ne_eqb n.chain k apart) refl

past : (side : Side) (heads k : ℕ) (n : Node) (older : List Node) (next : Option ℕ) → n.place ≡ used_by older → n.chain ≢ k → IsNewest k older next → IsNewest k (n ∷ older) next
past side heads k n older None stands apart is = record { below = tt; on = tt; comes = is.comes ∙ sym (rw (ne_eqb n.chain k apart) refl) }
past side heads k n older (Some p) stands apart is =
    let low : p < used_by older = is.below in
    let other : n.place ≢ p = λ equal. omega (arith, equal, low, stands) in
    let same : from_node p (n ∷ older) ≡ from_node p older = rw (ne_eqb n.place p other) refl in
    record {
      below = omega (arith, low, stands);
      on = subst (λ (ns : List Node). IfSome (slice_get ns 0) (λ m. m.chain ≡ k)) (sym same) is.on;
      comes = ap (λ (ns : List Node). stored (on_chain k ns)) same ∙ is.comes ∙ sym (rw (ne_eqb n.chain k apart) refl);
    }

newest : (side : Side) (heads k : ℕ) (nodes : List Node) → AreStored side heads nodes → IsNewest k nodes (newest_on k nodes)
newest side heads k [] are = record { below = tt; on = tt; comes = refl }
newest side heads k (n ∷ older) are = elim (cases_eq n.chain k) [
  | inl same ↦
      let here : from_node n.place (n ∷ older) ≡ n ∷ older = rw (eq-eqb n.place n.place refl) refl in
      subst (IsNewest k (n ∷ older)) (sym (newest_here k n older same))
      (record {
        below = omega arith;
        on = subst (λ (ns : List Node). IfSome (slice_get ns 0) (λ m. m.chain ≡ k)) (sym here) same;
        comes = ap (λ (ns : List Node). stored (on_chain k ns)) here;
      })
  | inr apart ↦ subst (IsNewest k (n ∷ older)) (sym (newest_past k n older apart)) (past side heads k n older (newest_on k older) are.0.place apart (newest side heads k older are.1))
]

-- ---- the next one

-- a node of the chain, its row, and where the chain goes on
pub record HasNext (k : ℕ) (nodes : List Node) (p : ℕ) : Type 0 where
  pub less : IfSome (next_on_chain p nodes) (λ q. q < p)
  pub on : IsOn k nodes (next_on_chain p nodes)
  pub comes : to_come k nodes (Some p) ≡ to_come k nodes (next_on_chain p nodes) ++ row_of p nodes ∷ []

is_next : (side : Side) (heads k p : ℕ) (nodes : List Node) (n : Node) (older : List Node) → IsFound side heads p nodes n older → (next : Option ℕ) → IsNewest k older next → IsOn k nodes next × (to_come k nodes next ≡ to_come k older next)
is_next side heads k p nodes n older found None is = (tt, refl)
is_next side heads k p nodes n older found (Some q) is =
    let same : from_node q nodes ≡ from_node q older = found.same q is.below in
    (subst (λ (ns : List Node). IfSome (slice_get ns 0) (λ m. m.chain ≡ k)) (sym same) is.on, ap (λ (ns : List Node). stored (on_chain k ns)) same)

below_place : (side : Side) (heads k p : ℕ) (nodes : List Node) (n : Node) (older : List Node) → IsFound side heads p nodes n older → (next : Option ℕ) → IsNewest k older next → IfSome next (λ q. q < p)
below_place side heads k p nodes n older found None is = tt
below_place side heads k p nodes n older found (Some q) is = let low : q < used_by older = is.below in let stands = found.stands in let place = found.place in omega (arith, low, stands, place)

split_at : (side : Side) (heads k p : ℕ) (nodes ns : List Node) → AreStored side heads nodes → from_node p nodes ≡ ns → IsSome (slice_get ns 0) → IfSome (slice_get ns 0) (λ m. m.chain ≡ k) → HasNext k nodes p
split_at side heads k p nodes [] are is has on = absurd (false≢true has)
split_at side heads k p nodes (n ∷ older) are is has on =
    let f = found side heads p nodes n older are is in
    let next : Option ℕ = newest_on k older in
    let there = newest side heads k older f.stored in
    let goes : next_on_chain p nodes ≡ next = ap next_among is ∙ ap (λ (c : ℕ). newest_on c older) on in
    let step = is_next side heads k p nodes n older f next there in
    let row : row_of p nodes ≡ n.row = ap first_row is in
    let mine : to_come k nodes (Some p) ≡ stored (on_chain k older) ++ n.row ∷ [] = ap (λ (ms : List Node). stored (on_chain k ms)) is ∙ rw (eq-eqb n.chain k on) refl in
    record {
      less = subst (λ (o : Option ℕ). IfSome o (λ q. q < p)) (sym goes) (below_place side heads k p nodes n older f next there);
      on = subst (IsOn k nodes) (sym goes) step.0;
      comes = mine ∙ ap₂ (λ (rs : List (List ℕ)) (r : List ℕ). rs ++ r ∷ []) (sym (ap (to_come k nodes) goes ∙ step.1 ∙ there.comes)) (sym row);
    }

pub has_next : (side : Side) (heads k p : ℕ) (nodes : List Node) → AreStored side heads nodes → HasNode p nodes → IsOn k nodes (Some p) → HasNext k nodes p
has_next side heads k p nodes are has on = split_at side heads k p nodes (from_node p nodes) are refl has on

-- ---- rows of another chain have no pair with it

no_pair : (shape : JoinShape) (l r : List ℕ) → key_at (left_side shape) l ≢ key_at (right_side shape) r → stored_pairs shape (l ∷ []) (r ∷ []) ≡ []
no_pair shape l r apart = elim (cases_Bool (bytes_eq (key_at (left_side shape) l) (key_at (right_side shape) r))) [
  | inl is ↦ absurd (apart ((bytes_eq-Decides (key_at (left_side shape) l) (key_at (right_side shape) r)).0 is))
  | inr is ↦ rw is refl
]

pub apart_none : (b : Bool) (shape : JoinShape) (row other : List ℕ) → key_at (read_side b shape) row ≢ key_at (held_side b shape) other → pairs_with b shape (row ∷ []) (other ∷ []) ≡ []
apart_none true shape row other apart = no_pair shape other row (λ same. apart (sym same))
apart_none false shape row other apart = no_pair shape row other apart

module _ (b : Bool) (shape : JoinShape) (row : List ℕ) where
  -- what the pairs with some held rows count
  abbrev pub counts : (List Value → ℕ) → List (List ℕ) → ℕ
  counts count helds = sum_by count (pairs_with b shape (row ∷ []) helds)

  pub counts_both : (count : List Value → ℕ) (xs ys : List (List ℕ)) → counts count (xs ++ ys) ≡ counts count xs + counts count ys
  counts_both count xs ys = with_helds b shape (row ∷ []) xs ys count ∙ sum_by-append count (pairs_with b shape (row ∷ []) xs) (pairs_with b shape (row ∷ []) ys)

  counts_none : (count : List Value → ℕ) → counts count [] ≡ 0
  counts_none count = ap (sum_by count) (none_held b shape (row ∷ []))

  -- some of the rows were met, and the others of the chain come from here on
  pub record IsWalking (k : ℕ) (took0 took : List (List Value) → Type 0) (nodes : List Node) (next : Option ℕ) : Type 0 where
    pub done : List (List ℕ)
    pub emitted : Emitted took0 took (pairs_with b shape (row ∷ []) done)
    pub whole : (count : List Value → ℕ) → counts count done + counts count (to_come k nodes next) ≡ counts count (stored nodes)
    pub on : IsOn k nodes next

  module _ (heads k : ℕ) (is : k ≡ spread (hash_of (key_at (read_side b shape) row)) % heads) where
    counts_chain : (count : List Value → ℕ) (nodes : List Node) → AreStored (held_side b shape) heads nodes → counts count (stored nodes) ≡ counts count (stored (on_chain k nodes))
    counts_chain count [] are = refl
    counts_chain count (n ∷ older) are =
        let rest : counts count (stored older) ≡ counts count (stored (on_chain k older)) = counts_chain count older are.1 in
        let all : counts count (stored older ++ n.row ∷ []) ≡ counts count (stored older) + counts count (n.row ∷ []) = counts_both count (stored older) (n.row ∷ []) in
        elim (cases_eq n.chain k) [
          | inl same ↦
              let late : counts count (stored (on_chain k older) ++ n.row ∷ []) ≡ counts count (stored (on_chain k older)) + counts count (n.row ∷ []) = counts_both count (stored (on_chain k older)) (n.row ∷ []) in
              let met : counts count (stored older ++ n.row ∷ []) ≡ counts count (stored (on_chain k older) ++ n.row ∷ []) = omega (arith, rest, all, late) in
              rw (eq-eqb n.chain k same) met
          | inr apart ↦
              let differ : key_at (read_side b shape) row ≢ key_at (held_side b shape) n.row = λ same. apart (are.0.chain ∙ ap (λ (key : List ℕ). spread (hash_of key) % heads) (sym same) ∙ sym is) in
              let none : counts count (n.row ∷ []) ≡ 0 = ap (sum_by count) (apart_none b shape row n.row differ) in
              let met : counts count (stored older ++ n.row ∷ []) ≡ counts count (stored (on_chain k older)) = omega (arith, rest, all, none) in
              rw (ne_eqb n.chain k apart) met
        ]

    pub walk_starts : (took : List (List Value) → Type 0) (nodes : List Node) → AreStored (held_side b shape) heads nodes → IsWalking k took took nodes (newest_on k nodes)
    walk_starts took nodes are =
        let first = newest (held_side b shape) heads k nodes are in
        record {
          done = [];
          emitted = subst (Emitted took took) (sym (none_held b shape (row ∷ []))) (emitted_none took);
          whole = λ count. let none = counts_none count in let comes : counts count (to_come k nodes (newest_on k nodes)) ≡ counts count (stored nodes) = ap (counts count) first.comes ∙ sym (counts_chain count nodes are) in omega (arith, none, comes);
          on = first.on;
        }

  module _ (k : ℕ) (took0 took : List (List Value) → Type 0) (nodes : List Node) where
    pub walk_ends : IsWalking k took0 took nodes None → Emitted took0 took (pairs_with b shape (row ∷ []) (stored nodes))
    walk_ends so = emitted_as took0 took (pairs_with b shape (row ∷ []) so.done) (pairs_with b shape (row ∷ []) (stored nodes)) (λ count. let none = counts_none count in let whole = so.whole count in let all : counts count so.done ≡ counts count (stored nodes) = omega (arith, none, whole) in all) so.emitted

    pub walk_left : (next : Option ℕ) (so : IsWalking k took0 took nodes next) → SameRows (pairs_with b shape (row ∷ []) so.done ++ pairs_with b shape (row ∷ []) (to_come k nodes next)) (pairs_with b shape (row ∷ []) (stored nodes))
    walk_left next so count = sum_by-append count (pairs_with b shape (row ∷ []) so.done) (pairs_with b shape (row ∷ []) (to_come k nodes next)) ∙ so.whole count

    module _ (p : ℕ) (so : IsWalking k took0 took nodes (Some p)) (step : HasNext k nodes p) where
      shared : (count : List Value → ℕ) → counts count (to_come k nodes (Some p)) ≡ counts count (to_come k nodes (next_on_chain p nodes)) + counts count (row_of p nodes ∷ [])
      shared count = ap (counts count) step.comes ∙ counts_both count (to_come k nodes (next_on_chain p nodes)) (row_of p nodes ∷ [])

      pub walk_on : (now : List (List Value) → Type 0) → Emitted took now (pairs_with b shape (row ∷ []) (row_of p nodes ∷ [])) → IsWalking k took0 now nodes (next_on_chain p nodes)
      walk_on now met =
          record {
            done = so.done ++ row_of p nodes ∷ [];
            emitted = emitted_as took0 now (pairs_with b shape (row ∷ []) so.done ++ pairs_with b shape (row ∷ []) (row_of p nodes ∷ [])) (pairs_with b shape (row ∷ []) (so.done ++ row_of p nodes ∷ []))
                (λ count. sym (with_helds b shape (row ∷ []) so.done (row_of p nodes ∷ []) count))
                (emitted_then took0 took now (pairs_with b shape (row ∷ []) so.done) so.emitted (pairs_with b shape (row ∷ []) (row_of p nodes ∷ [])) met);
            whole = λ count. let was = so.whole count in let parts = shared count in let more = counts_both count so.done (row_of p nodes ∷ []) in omega (arith, was, parts, more);
            on = step.on;
          }

      pub walk_split : SameRows (pairs_with b shape (row ∷ []) so.done ++ (pairs_with b shape (row ∷ []) (row_of p nodes ∷ []) ++ pairs_with b shape (row ∷ []) (to_come k nodes (next_on_chain p nodes)))) (pairs_with b shape (row ∷ []) (stored nodes))
      walk_split count =
          let front : List (List Value) = pairs_with b shape (row ∷ []) so.done in
          let mine : List (List Value) = pairs_with b shape (row ∷ []) (row_of p nodes ∷ []) in
          let rest : List (List Value) = pairs_with b shape (row ∷ []) (to_come k nodes (next_on_chain p nodes)) in
          let was = so.whole count in
          let parts = shared count in
          let one : sum_by count (front ++ (mine ++ rest)) ≡ sum_by count front + sum_by count (mine ++ rest) = sum_by-append count front (mine ++ rest) in
          let two : sum_by count (mine ++ rest) ≡ sum_by count mine + sum_by count rest = sum_by-append count mine rest in
          let all : sum_by count (front ++ (mine ++ rest)) ≡ counts count (stored nodes) = omega (arith, was, parts, one, two) in
          all

-- how many nodes may still come
abbrev pub left_on : Option ℕ → ℕ
left_on None = 0
left_on (Some p) = p + 1

pub fewer_left : (next : Option ℕ) (p : ℕ) → IfSome next (λ q. q < p) → left_on next < left_on (Some p)
fewer_left None p less = omega arith
fewer_left (Some q) p less = omega (arith, less)
