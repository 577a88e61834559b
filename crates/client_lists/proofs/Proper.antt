-- After a push or a removal no node is on two lists, or twice on one.
use Rattle.std.proofs.Common.{ℕ, ◌≡◌, ◌<◌, true, eqb, None, List, [], ◌∷◌, length, replicate, ap, sym, ◌∙◌, subst, ◌⊎◌, inl, inr, arith}
use Rattle.std.specs.List.{IsDistinct}
use Rattle.std.proofs.lemmas.Bool.{false≢true, cases_Bool, cases_lt, eqb-true, eq-eqb}
use Rattle.std.proofs.lemmas.List.{get_or-replicate, length-replicate, get_or_past}
use Rattle.std.proofs.lemmas.Map.Keys.{IsDistinct-push}
use Rattle.std.specs.Cmp.{nat_eq_equiv}
use Rattle.index_list.specs.Listing.{Listing, IsProper, empty, nodes_on, stands_in, others, list_with, pushed, without}
use Rattle.index_list.proofs.Members.{apart, none_equal, stands_in-same, stands_in-others, others-not}
use Rattle.index_list.proofs.Places.{nowhere, nodes_on-pushed, nodes_on-pushed_other, nodes_on-without}

-- two numbers are the same, or not
pub same_or_other : (a b : ℕ) → (a ≡ b) ⊎ (a ≡ b → ⊥)
same_or_other a b =
    elim (cases_Bool (eqb a b)) [ inl h ↦ inl (eqb-true a b h) | inr h ↦ inr (λ s. false≢true (sym h ∙ eq-eqb a b s)) ]

pub nodes_on-empty : (nodes lists k : ℕ) → nodes_on k (empty nodes lists) ≡ []
nodes_on-empty nodes lists k =
    elim (cases_lt k lists) [
      | inl l ↦ get_or-replicate {A = List ℕ} lists k [] [] l
      | inr l ↦
          let n = length-replicate {A = List ℕ} lists [] in
          get_or_past (replicate {A = List ℕ} lists []) k [] (omega arith)
    ]

pub proper-empty : (nodes lists : ℕ) → IsProper (empty nodes lists)
unfolding IsDistinct
proper-empty nodes lists = record {
  once = λ k. rw (nodes_on-empty nodes lists k) tt;
  alone = λ k other q a b. absurd (false≢true (ap (stands_in q) (sym (nodes_on-empty nodes lists k)) ∙ a));
  known = λ k q a. absurd (false≢true (ap (stands_in q) (sym (nodes_on-empty nodes lists k)) ∙ a));
}

-- what stands on a list after a push is the node itself, or stood there before
where-pushed : (t : Listing) (list node q k : ℕ) → list < length t.lists → stands_in q (nodes_on k (pushed list node t)) ≡ true → ((k ≡ list) × (q ≡ node)) ⊎ (stands_in q (nodes_on k t) ≡ true)
where-pushed t list node q k l e =
    elim (same_or_other k list) [
      | inr n ↦ inr (sym (ap (stands_in q) (nodes_on-pushed_other t list node k n)) ∙ e)
      | inl s ↦ elim (same_or_other node q) [
        | inl w ↦ inl (s, sym w)
        | inr n ↦ inr (ap (λ (x : ℕ). stands_in q (nodes_on x t)) s
            ∙ sym (stands_in-same q node (nodes_on list t) n)
            ∙ sym (ap (stands_in q) (nodes_on-pushed t list node l))
            ∙ sym (ap (λ (x : ℕ). stands_in q (nodes_on x (pushed list node t))) s)
            ∙ e)
      ]
    ]

pub proper-pushed : (t : Listing) → IsProper t → (list node : ℕ) → list < length t.lists → node < t.nodes → list_with node t ≡ None → IsProper (pushed list node t)
proper-pushed t p list node l i e = record {
  once = λ k. elim (same_or_other k list) [
    | inl s ↦
        let d : IsDistinct eqb (nodes_on list (pushed list node t)) = rw (nodes_on-pushed t list node l) (IsDistinct-push nat_eq_equiv (nodes_on list t) node (p.once list) (nowhere t node e list)) in
        subst (λ (x : ℕ). IsDistinct eqb (nodes_on x (pushed list node t))) (sym s) d
    | inr n ↦ rw (nodes_on-pushed_other t list node k n) (p.once k)
  ];
  alone = λ k other q a b. elim (where-pushed t list node q k l a) [
    | inl x ↦ elim (where-pushed t list node q other l b) [
      | inl y ↦ x.0 ∙ sym y.0
      | inr y ↦ absurd (false≢true (sym (nowhere t node e other) ∙ ap (λ (z : ℕ). stands_in z (nodes_on other t)) (sym x.1) ∙ y))
    ]
    | inr x ↦ elim (where-pushed t list node q other l b) [
      | inl y ↦ absurd (false≢true (sym (nowhere t node e k) ∙ ap (λ (z : ℕ). stands_in z (nodes_on k t)) (sym y.1) ∙ x))
      | inr y ↦ p.alone k other q x y
    ]
  ];
  known = λ k q a. elim (where-pushed t list node q k l a) [ inl x ↦ omega arith | inr x ↦ p.known k q x ];
}

-- what stands among the others stood there before
stands-others : (q node : ℕ) (xs : List ℕ) → stands_in q (others node xs) ≡ true → stands_in q xs ≡ true
stands-others q node xs e =
    elim (same_or_other node q) [
      | inl s ↦ absurd (false≢true (sym (others-not node xs) ∙ ap (λ (z : ℕ). stands_in z (others node xs)) s ∙ e))
      | inr n ↦ sym (stands_in-others q node xs n) ∙ e
    ]

distinct-others : (node : ℕ) (xs : List ℕ) → IsDistinct eqb xs → IsDistinct eqb (others node xs)
unfolding IsDistinct
distinct-others node [] d = tt
distinct-others node (x ∷ xs) d =
    elim (cases_Bool (eqb node x)) [
      | inl h ↦ rw h (distinct-others node xs d.1)
      | inr h ↦
          let n : node ≡ x → ⊥ = λ s. false≢true (sym h ∙ eq-eqb node x s) in
          rw h (none_equal x (others node xs) (stands_in-others x node xs n ∙ apart x xs d.0), distinct-others node xs d.1)
    ]

pub proper-without : (t : Listing) → IsProper t → (node : ℕ) → IsProper (without node t)
proper-without t p node =
    let was : (k q : ℕ) → stands_in q (nodes_on k (without node t)) ≡ true → stands_in q (nodes_on k t) ≡ true = λ k q a. stands-others q node (nodes_on k t) (sym (ap (stands_in q) (nodes_on-without t k node)) ∙ a) in
    record {
      once = λ k. rw (nodes_on-without t k node) (distinct-others node (nodes_on k t) (p.once k));
      alone = λ k other q a b. p.alone k other q (was k q a) (was other q b);
      known = λ k q a. p.known k q (was k q a);
    }
