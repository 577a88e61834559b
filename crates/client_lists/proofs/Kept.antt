-- The busy clients, and what a change of one client's lists leaves.
use Rattle.std.proofs.Common.{ℕ, ◌≡◌, ◌≢◌, ◌≤◌, true, false, Bool, None, Some, Option, IfSome, ◌↔◌, List, [], ◌∷◌, length, get_or, refl, ap, sym, ◌∙◌, subst, inl, inr, arith}
use Rattle.std.specs.List.{slice_get}
use Rattle.std.proofs.lemmas.Bool.{false≢true, cases_Bool}
use Rattle.std.proofs.lemmas.List.{length-map}
use Rattle.index_list.specs.Listing.{Listing, IsProper, nodes_on, list_with, without, others, stands_in}
use Rattle.index_list.proofs.Members.{stands_in-others, others-not}
use Rattle.index_list.proofs.Places.{stands-from_get, stands-from_list, nodes_on-without, nodes_on-without_other}
use Rattle.client_lists.specs.declared.which.Which.{Which}
use Rattle.client_lists.specs.declared.which.Which.TheVariants.{Pinned, Dirty, Flying}
use Rattle.client_lists.specs.Clients.{Measured, number, place, is_filled}
use Rattle.client_lists.specs.Inside.{IsKept, Settles}
use Rattle.client_lists.proofs.Proper.{same_or_other}
use Rattle.client_lists.proofs.Summed.{none-first}

pub number-le : (which : Which) → number which ≤ 2
number-le Pinned = omega arith
number-le Dirty = omega arith
number-le Flying = omega arith

-- two clients have no list in common
pub place-apart : (q client : ℕ) (w which : Which) → (q ≡ client → ⊥) → place q w ≡ place client which → ⊥
place-apart q client w which n e =
    let a = number-le w in
    let b = number-le which in
    n (omega arith)

pub settles-left : (busy : Listing) (client : ℕ) → Settles client false busy (without client busy)
settles-left busy client =
    let e = nodes_on-without busy 0 client in
    record {
      nodes = refl;
      lists = length-map busy.lists (others client);
      own = ap (stands_in client) e ∙ others-not client (nodes_on 0 busy);
      rest = λ q n. ap (stands_in q) e ∙ stands_in-others q client (nodes_on 0 busy) (λ s. n (sym s));
    }

-- the lists of one open client changed
pub kept-changed : (is_open : List Bool) (m now : Measured) (busy after : Listing) (client : ℕ) → IsKept is_open m busy → get_or is_open client false ≡ true → length now.lists.lists ≡ length m.lists.lists → ((q : ℕ) (w : Which) → (q ≡ client → ⊥) → nodes_on (place q w) now.lists ≡ nodes_on (place q w) m.lists) → Settles client (is_filled (nodes_on (place client Dirty) now.lists)) busy after → IsKept is_open now after
kept-changed is_open m now busy after client k live count rest s = record {
  counted = count ∙ k.counted;
  room = k.room;
  clients = s.nodes ∙ k.clients;
  one = s.lists ∙ k.one;
  marked = λ q. elim (same_or_other q client) [
    | inl e ↦ subst (λ (x : ℕ). stands_in x (nodes_on 0 after) ≡ is_filled (nodes_on (place x Dirty) now.lists)) (sym e) s.own
    | inr n ↦ s.rest q n ∙ k.marked q ∙ sym (ap is_filled (rest q Dirty n))
  ];
  bare = λ q w e. elim (same_or_other q client) [
    | inl same ↦ absurd (false≢true (sym e ∙ ap (λ (x : ℕ). get_or is_open x false) same ∙ live))
    | inr n ↦ rest q w n ∙ k.bare q w e
  ];
}

-- a client with a node is open
pub open-of : (is_open : List Bool) (m : Measured) (busy : Listing) (client node : ℕ) (which : Which) → IsKept is_open m busy → list_with node m.lists ≡ Some (place client which) → get_or is_open client false ≡ true
open-of is_open m busy client node which k e =
    elim (cases_Bool (get_or is_open client false)) [
      | inl h ↦ h
      | inr h ↦ absurd (false≢true (sym (ap (stands_in node) (k.bare client which h)) ∙ (stands-from_list m.lists node (place client which) e).1))
    ]

pub kept-removed : (is_open : List Bool) (m now : Measured) (busy after : Listing) (client node : ℕ) (which : Which) → IsKept is_open m busy → IsProper m.lists → list_with node m.lists ≡ Some (place client which) → now.lists ≡ without node m.lists → Settles client (is_filled (nodes_on (place client Dirty) now.lists)) busy after → IsKept is_open now after
kept-removed is_open m now busy after client node which k p e is s =
    kept-changed is_open m now busy after client k (open-of is_open m busy client node which k e)
    (ap (λ (t : Listing). length t.lists) is ∙ length-map m.lists.lists (others node))
    (λ q w n. ap (λ (t : Listing). nodes_on (place q w) t) is ∙ nodes_on-without_other m.lists p node (place client which) (place q w) e (place-apart q client w which n))
    s

-- a busy client has a dirty page
pub dirty-of : (is_open : List Bool) (m : Measured) (busy : Listing) → IsKept is_open m busy → (o : Option ℕ) → o ≡ slice_get (nodes_on 0 busy) 0 → IfSome o (λ client. nodes_on (place client Dirty) m.lists ≢ [])
dirty-of is_open m busy k None e = tt
dirty-of is_open m busy k (Some client) e = λ none.
    false≢true (sym (ap is_filled none) ∙ sym (k.marked client) ∙ stands-from_get (nodes_on 0 busy) 0 client (sym e))

-- and is open
pub live-of : (is_open : List Bool) (m : Measured) (busy : Listing) → IsKept is_open m busy → (o : Option ℕ) → o ≡ slice_get (nodes_on 0 busy) 0 → IfSome o (λ client. get_or is_open client false ≡ true)
live-of is_open m busy k None e = tt
live-of is_open m busy k (Some client) e =
    elim (cases_Bool (get_or is_open client false)) [
      | inl h ↦ h
      | inr h ↦ absurd (dirty-of is_open m busy k (Some client) e (k.bare client Dirty h))
    ]

none-filled : (xs : List ℕ) → is_filled xs ≡ false → xs ≡ []
none-filled [] e = refl
none-filled (x ∷ xs) e = absurd (false≢true (sym e))

-- no client is busy exactly where none has a dirty page
pub none-of : (is_open : List Bool) (m : Measured) (busy : Listing) → IsKept is_open m busy → (o : Option ℕ) → o ≡ slice_get (nodes_on 0 busy) 0 → (o ≡ None) ↔ ((client : ℕ) → nodes_on (place client Dirty) m.lists ≡ [])
none-of is_open m busy k None e =
    (λ _ client. none-filled (nodes_on (place client Dirty) m.lists) (sym (k.marked client) ∙ ap (stands_in client) (none-first (nodes_on 0 busy) (sym e))), λ _. refl)
none-of is_open m busy k (Some client) e =
    (λ none. cc, λ all. absurd (dirty-of is_open m busy k (Some client) e (all client)))
