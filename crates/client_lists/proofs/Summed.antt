-- Beside each list stands the sum of its lengths, also after a push or a removal.
use Rattle.std.proofs.Common.{ℕ, ◌≡◌, ◌+◌, ◌-◌, ◌<◌, ◌≤◌, ◌^◌, None, Some, Option, IfSome, ◌↔◌, List, [], ◌∷◌, ◌++◌, length, get_or, set, replicate, refl, ap, sym, ◌∙◌, subst, inl, inr, arith}
use Rattle.std.specs.List.{slice_get}
use Rattle.std.specs.Option.{IsSome}
use Rattle.std.proofs.lemmas.Bool.{false≢true, cases_lt}
use Rattle.std.proofs.lemmas.List.{length-set, length-map, get_or-set_same, get_or-set_other, get_or_past, get_or-replicate, length-replicate}
use Rattle.std.proofs.lemmas.Map.Steps.{length-le_from_distinct_below}
use Rattle.index_list.specs.Listing.{Listing, IsProper, empty, nodes_on, list_with, pushed, without, others}
use Rattle.index_list.proofs.Places.{nowhere, list-from_stands, stands-from_get, stands-from_list, nodes_on-pushed, nodes_on-pushed_other, nodes_on-without, nodes_on-without_other}
use Rattle.client_lists.specs.Clients.{IsMeasured, total, longest}
use Rattle.client_lists.specs.Inside.{IsSummed}
use Rattle.client_lists.proofs.Proper.{same_or_other, nodes_on-empty, proper-empty, proper-pushed, proper-without}
use Rattle.client_lists.proofs.Totals.{total-append, total-set, total-others, total-le}

-- the list that a node is on, where it is on one
pub list-of : (o : Option ℕ) → IsSome o → (list : ℕ) × (o ≡ Some list)
list-of None e = absurd (false≢true e)
list-of (Some list) e = (list, refl)

pub node-in : (t : Listing) → IsProper t → (node list : ℕ) → list_with node t ≡ Some list → node < t.nodes
node-in t p node list e = p.known list node (stands-from_list t node list e).1

-- a node that a reader answers is on that list
pub there-of : (t : Listing) → IsProper t → (list i : ℕ) (o : Option ℕ) → o ≡ slice_get (nodes_on list t) i → IfSome o (λ node. list_with node t ≡ Some list)
there-of t p list i None e = tt
there-of t p list i (Some node) e = list-from_stands t p node list (stands-from_get (nodes_on list t) i node (sym e))

pub none-first : (xs : List ℕ) → slice_get xs 0 ≡ None → xs ≡ []
none-first [] e = refl
none-first (x ∷ xs) e = cc

last-some : (x : ℕ) (xs : List ℕ) → slice_get (x ∷ xs) (length xs) ≡ None → ⊥
last-some x [] e = cc
last-some x (y ∷ ys) e = last-some y ys e

-- a list without a last node is empty
pub none-last : (xs : List ℕ) → (slice_get xs (length xs - 1) ≡ None) ↔ (xs ≡ [])
none-last [] = (λ _. refl, λ _. refl)
none-last (x ∷ xs) =
    let l : length (x ∷ xs) - 1 ≡ length xs = omega arith in
    (λ e. absurd (last-some x xs (rw l at e)), λ e. cc)

zeros : (n k : ℕ) → ◌≡◌ {A = ℕ} (get_or (replicate n 0) k 0) 0
zeros n k =
    elim (cases_lt k n) [
      | inl l ↦ get_or-replicate n k 0 0 l
      | inr l ↦
          let z : length (replicate {A = ℕ} n 0) ≡ n = length-replicate {A = ℕ} n 0 in
          get_or_past (replicate {A = ℕ} n 0) k 0 (omega arith)
    ]

pub measured-of : (t : Listing) (lens sums : List ℕ) → IsSummed t lens sums → IsMeasured (record { lists = t; lens = lens })
measured-of t lens sums s = record { proper = s.proper; sized = s.sized; bounded = s.bounded }

pub summed-empty : (nodes lists : ℕ) → nodes < 2 ^ 32 → IsSummed (empty nodes lists) (replicate nodes 0) (replicate lists 0)
summed-empty nodes lists r = record {
  sized = length-replicate nodes 0;
  counted = length-replicate lists 0 ∙ sym (length-replicate {A = List ℕ} lists []);
  room = r;
  bounded = λ node. let z = zeros nodes node in omega arith;
  summed = λ k. rw (nodes_on-empty nodes lists k) (zeros lists k);
  proper = proper-empty nodes lists;
}

pub summed-start : (t : Listing) (lens sums : List ℕ) (nodes lists : ℕ) → t ≡ empty nodes lists → lens ≡ replicate nodes 0 → sums ≡ replicate lists 0 → nodes < 2 ^ 32 → IsSummed t lens sums
summed-start t lens sums nodes lists e f g r = rw (e, f, g) (summed-empty nodes lists r)

pub len-in : (t : Listing) (lens sums : List ℕ) → IsSummed t lens sums → (node : ℕ) → IsSome (list_with node t) → node < length lens
len-in t lens sums s node e =
    let w = list-of (list_with node t) e in
    let i = node-in t s.proper node w.0 w.1 in
    let z = s.sized in
    omega arith

-- a sum is far from the greatest u64
pub sum-le : (t : Listing) (lens sums : List ℕ) → IsSummed t lens sums → (list : ℕ) → get_or sums list 0 ≤ 2 ^ 56
sum-le t lens sums s list =
    let n = length-le_from_distinct_below (nodes_on list t) t.nodes (s.proper.once list) (λ q e. s.proper.known list q e) in
    let m = total-le lens (nodes_on list t) s.bounded in
    let e = s.summed list in
    let r = s.room in
    omega arith

pub summed-pushed : (t : Listing) (lens sums : List ℕ) → IsSummed t lens sums → (list node len v : ℕ) → list < length t.lists → node < t.nodes → list_with node t ≡ None → len ≤ longest → v ≡ get_or sums list 0 + len → IsSummed (pushed list node t) (set lens node len) (set sums list v)
summed-pushed t lens sums s list node len v l i e f is =
    let z = s.sized in
    let c = s.counted in
    let xs = nodes_on list t in
    let own : get_or (set lens node len) node 0 ≡ len = get_or-set_same lens node len 0 (omega arith) in
    record {
      sized = length-set lens node len ∙ s.sized;
      counted = length-set sums list v ∙ s.counted ∙ sym (length-set t.lists list (xs ++ node ∷ []));
      room = s.room;
      bounded = λ q. elim (same_or_other q node) [
        | inl w ↦ subst (λ (x : ℕ). get_or (set lens node len) x 0 ≤ longest) (sym w) (omega arith)
        | inr n ↦ rw (get_or-set_other lens node q len 0 n) (s.bounded q)
      ];
      summed = λ k. elim (same_or_other k list) [
        | inl w ↦
            let a = total-append (set lens node len) xs (node ∷ []) in
            let b = total-set lens node len xs (nowhere t node e list) in
            let d = s.summed list in
            let g : get_or (set sums list v) list 0 ≡ v = get_or-set_same sums list v 0 (omega arith) in
            let h = ap (total (set lens node len)) (nodes_on-pushed t list node l) in
            let same : get_or (set sums list v) list 0 ≡ total (set lens node len) (nodes_on list (pushed list node t)) = omega arith in
            subst (λ (x : ℕ). get_or (set sums list v) x 0 ≡ total (set lens node len) (nodes_on x (pushed list node t))) (sym w) same
        | inr n ↦
            get_or-set_other sums list k v 0 n ∙ s.summed k
            ∙ sym (total-set lens node len (nodes_on k t) (nowhere t node e k))
            ∙ sym (ap (total (set lens node len)) (nodes_on-pushed_other t list node k n))
      ];
      proper = proper-pushed t s.proper list node l i e;
    }

-- a node's length is part of the sum of its list
pub len-le : (t : Listing) (lens sums : List ℕ) → IsSummed t lens sums → (list node : ℕ) → list_with node t ≡ Some list → get_or sums list 0 ≡ total lens (others node (nodes_on list t)) + get_or lens node 0
len-le t lens sums s list node e =
    s.summed list ∙ sym (total-others lens node (nodes_on list t) (s.proper.once list) (stands-from_list t node list e).1)

pub summed-removed : (t : Listing) (lens sums : List ℕ) → IsSummed t lens sums → (list node v : ℕ) → list_with node t ≡ Some list → v ≡ get_or sums list 0 - get_or lens node 0 → IsSummed (without node t) lens (set sums list v)
summed-removed t lens sums s list node v e is =
    let c = s.counted in
    let l = (stands-from_list t node list e).0 in
    record {
      sized = s.sized;
      counted = length-set sums list v ∙ s.counted ∙ sym (length-map t.lists (others node));
      room = s.room;
      bounded = s.bounded;
      summed = λ k. elim (same_or_other k list) [
        | inl w ↦
            let a = len-le t lens sums s list node e in
            let g : get_or (set sums list v) list 0 ≡ v = get_or-set_same sums list v 0 (omega arith) in
            let h = ap (total lens) (nodes_on-without t list node) in
            let same : get_or (set sums list v) list 0 ≡ total lens (nodes_on list (without node t)) = omega arith in
            subst (λ (x : ℕ). get_or (set sums list v) x 0 ≡ total lens (nodes_on x (without node t))) (sym w) same
        | inr n ↦
            get_or-set_other sums list k v 0 n ∙ s.summed k
            ∙ sym (ap (total lens) (nodes_on-without_other t s.proper node list k e n))
      ];
      proper = proper-without t s.proper node;
    }
