-- For callers: where the nodes stand before and after a call.
use Rattle.std.proofs.Common.{ℕ, ◌≡◌, ◌<◌, zero, suc, Bool, true, false, eqb, None, Some, List, [], ◌∷◌, ◌++◌, length, get_or, map, refl, ap, sym, ◌∙◌, inl, inr, arith}
use Rattle.std.specs.Prelude.{position}
use Rattle.std.specs.List.{IsDistinct, position_or_len, slice_get}
use Rattle.std.proofs.lemmas.Bool.{false≢true, cases_Bool, cases_lt, eqb-true, eq-eqb, or_left, or_right, lt-ltb, le-ltb, false_from_ne_true}
use Rattle.std.proofs.lemmas.List.{length-map, length-set, get_or-map, get_or-set_same, get_or-set_other, get_or_past}
use Rattle.std.proofs.lemmas.List.Folds.{position_or_len-set}
use Rattle.std.proofs.lemmas.List.Quantifiers.{position-Some}
use Rattle.std.proofs.lemmas.List.Sums.{position_or_len_is, fails_before_first}
use Rattle.index_list.specs.Listing.{Listing, IsProper, nodes_on, stands_in, others, list_with, pushed, without}
use Rattle.index_list.proofs.Members.{apart, stands_in-same, stands_in-last, stands_in-others, others-all, others-not}

-- the number that a list has at a place stands in it
pub stands-from_get : (xs : List ℕ) (i node : ℕ) → slice_get xs i ≡ Some node → stands_in node xs ≡ true
stands-from_get [] i node e = cc
stands-from_get (x ∷ xs) zero node e =
    let s : node ≡ x = cc in
    or_left (eqb node x) (stands_in node xs) (eq-eqb node x s)
stands-from_get (x ∷ xs) (suc i) node e = or_right (eqb node x) (stands_in node xs) (stands-from_get xs i node e)

-- a node stands on the list that it is on
pub stands-from_list : (t : Listing) (node list : ℕ) → list_with node t ≡ Some list → (list < length t.lists) × (stands_in node (nodes_on list t) ≡ true)
stands-from_list t node list e =
    let p = position-Some (stands_in node) t.lists list [] e in
    (p.0, p.1)

position-none : (p : List ℕ → Bool) (v : List (List ℕ)) (n : ℕ) → length v ≡ n → position_or_len p v ≡ n → position p v ≡ None
position-none p v n l e = rw e (rw (le-ltb n (length v) (omega arith)) refl)

position-some : (p : List ℕ → Bool) (v : List (List ℕ)) (i : ℕ) → i < length v → position_or_len p v ≡ i → position p v ≡ Some i
position-some p v i l e = rw e (rw (lt-ltb i (length v) l) refl)

-- and the list that a node stands on is the one that it is on
pub list-from_stands : (t : Listing) → IsProper t → (node list : ℕ) → stands_in node (nodes_on list t) ≡ true → list_with node t ≡ Some list
list-from_stands t proper node list e =
    elim (cases_lt list (length t.lists)) [
      | inl l ↦ position-some (stands_in node) t.lists list l
          (position_or_len_is (stands_in node) t.lists list [] (omega arith)
          (λ k h. false_from_ne_true (stands_in node (get_or t.lists k [])) (λ s. let same = proper.alone k list node s e in omega arith))
          (λ _. e))
      | inr l ↦ let f : stands_in node [] ≡ true = (rw (get_or_past t.lists list [] l) at e) in absurd (false≢true f)
    ]

-- a node that is on no list stands on none
pub nowhere : (t : Listing) (node : ℕ) → list_with node t ≡ None → (list : ℕ) → stands_in node (nodes_on list t) ≡ false
nowhere t node e list =
    elim (cases_lt list (length t.lists)) [
      | inr l ↦ rw (get_or_past t.lists list [] l) refl
      | inl l ↦ elim (cases_lt (position_or_len (stands_in node) t.lists) (length t.lists)) [
        | inl m ↦ let s = position-some (stands_in node) t.lists (position_or_len (stands_in node) t.lists) m refl in cc (s, e)
        | inr m ↦ fails_before_first (stands_in node) t.lists list [] (omega arith)
      ]
    ]

-- the lists after `push_back`
pub nodes_on-pushed : (t : Listing) (list node : ℕ) → list < length t.lists → nodes_on list (pushed list node t) ≡ nodes_on list t ++ node ∷ []
nodes_on-pushed t list node l = get_or-set_same t.lists list (nodes_on list t ++ node ∷ []) [] l

pub nodes_on-pushed_other : (t : Listing) (list node other : ℕ) → (other ≡ list → ⊥) → nodes_on other (pushed list node t) ≡ nodes_on other t
nodes_on-pushed_other t list node other n = get_or-set_other t.lists list other (nodes_on list t ++ node ∷ []) [] n

pub list_with-pushed : (t : Listing) (list node : ℕ) → list < length t.lists → list_with node t ≡ None → list_with node (pushed list node t) ≡ Some list
list_with-pushed t list node l e =
    let v = (pushed list node t).lists in
    let n : length v ≡ length t.lists = length-set t.lists list (nodes_on list t ++ node ∷ []) in
    position-some (stands_in node) v list (omega arith)
    (position_or_len_is (stands_in node) v list [] (omega arith)
    (λ k h. rw (nodes_on-pushed_other t list node k (λ s. absurd (omega arith))) (nowhere t node e k))
    (λ _. rw (nodes_on-pushed t list node l) (stands_in-last node (nodes_on list t))))

pub list_with-pushed_other : (t : Listing) (list node q : ℕ) → (node ≡ q → ⊥) → list_with q (pushed list node t) ≡ list_with q t
list_with-pushed_other t list node q n =
    let xs = nodes_on list t ++ node ∷ [] in
    rw (position_or_len-set (stands_in q) t.lists list xs [] (stands_in-same q node (nodes_on list t) n), length-set t.lists list xs) refl

-- the lists after `remove`
pub nodes_on-without : (t : Listing) (list node : ℕ) → nodes_on list (without node t) ≡ others node (nodes_on list t)
nodes_on-without t list node =
    elim (cases_lt list (length t.lists)) [
      | inl l ↦ get_or-map (others node) t.lists list [] [] l
      | inr l ↦
          let n = length-map t.lists (others node) in
          get_or_past (map (others node) t.lists) list [] (omega arith) ∙ sym (ap (others node) (get_or_past t.lists list [] l))
    ]

pub nodes_on-without_other : (t : Listing) → IsProper t → (node list other : ℕ) → list_with node t ≡ Some list → (other ≡ list → ⊥) → nodes_on other (without node t) ≡ nodes_on other t
nodes_on-without_other t proper node list other e n =
    let there = (stands-from_list t node list e).1 in
    nodes_on-without t other node
    ∙ others-all node (nodes_on other t) (false_from_ne_true (stands_in node (nodes_on other t)) (λ s. n (proper.alone other list node s there)))

pub list_with-without : (t : Listing) (node : ℕ) → list_with node (without node t) ≡ None
list_with-without t node =
    let v = (without node t).lists in
    position-none (stands_in node) v (length v) refl
    (position_or_len_is (stands_in node) v (length v) [] (omega arith)
    (λ k _. rw (nodes_on-without t k node) (others-not node (nodes_on k t)))
    (λ h. absurd (omega arith)))

first-others : (q node : ℕ) (v : List (List ℕ)) → (node ≡ q → ⊥) → position_or_len (stands_in q) (map (others node) v) ≡ position_or_len (stands_in q) v
first-others q node [] n = refl
first-others q node (xs ∷ v) n = rw (stands_in-others q node xs n, first-others q node v n) refl

pub list_with-without_other : (t : Listing) (node q : ℕ) → (node ≡ q → ⊥) → list_with q (without node t) ≡ list_with q t
list_with-without_other t node q n = rw (first-others q node t.lists n, length-map t.lists (others node)) refl

-- a list cut at a node
pub record Cut (node : ℕ) (xs : List ℕ) : Type 0 where
  pub before : List ℕ
  pub rest : List ℕ
  pub was : xs ≡ before ++ node ∷ rest
  pub left : others node xs ≡ before ++ rest

pub cut : (node : ℕ) (xs : List ℕ) → IsDistinct eqb xs → stands_in node xs ≡ true → Cut node xs
unfolding IsDistinct
cut node [] d e = absurd (false≢true e)
cut node (x ∷ xs) d e =
    elim (cases_Bool (eqb node x)) [
      | inl s ↦
          let same = eqb-true node x s in
          record {
            before = [];
            rest = xs;
            was = ap (λ n. n ∷ xs) (sym same);
            left = rw s (others-all node xs (rw same (apart x xs d.0)));
          }
      | inr s ↦
          let f : stands_in node xs ≡ true = (rw s at e) in
          let w = cut node xs d.1 f in
          record {
            before = x ∷ w.before;
            rest = w.rest;
            was = ap (λ ys. x ∷ ys) w.was;
            left = rw s (ap (λ ys. x ∷ ys) w.left);
          }
    ]

-- a list without its front
pub front-others : (node : ℕ) (xs : List ℕ) → IsDistinct eqb xs → slice_get xs 0 ≡ Some node → xs ≡ node ∷ others node xs
unfolding IsDistinct
front-others node [] d e = cc
front-others node (x ∷ xs) d e =
    let same : node ≡ x = cc in
    let rest : others node (x ∷ xs) ≡ xs = rw (eq-eqb node x same) (others-all node xs (rw same (apart x xs d.0))) in
    ap (λ n. n ∷ xs) (sym same) ∙ ap (λ ys. node ∷ ys) (sym rest)
