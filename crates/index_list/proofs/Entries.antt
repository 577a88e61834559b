-- What the table's entries say of a chain's nodes: the first, the last, and the one behind a node.
use Rattle.std.proofs.Common.{ℕ, ◌≡◌, ◌-◌, ◌<◌, ◌≤◌, true, eqb, None, Some, List, [], ◌∷◌, length, refl, inl, inr, arith}
use Rattle.std.specs.List.{slice_get}
use Rattle.std.proofs.lemmas.Bool.{false≢true, eqb-true, cases_Bool, lt-ltb, le-ltb}
use Rattle.index_list.specs.Listing.{stands_in, behind}
use Rattle.index_list.specs.Threads.{Threads, Chain, answer}

pub answer-node : (nodes q : ℕ) → q < nodes → answer nodes q ≡ Some q
answer-node nodes q h = rw (lt-ltb q nodes h) refl

pub answer-none : (nodes q : ℕ) → nodes ≤ q → answer nodes q ≡ None
answer-none nodes q h = rw (le-ltb q nodes h) refl

-- what follows the chain's start is its first node
pub chain-first : (t : Threads) (nodes k a : ℕ) (xs : List ℕ) (b : ℕ) → Chain t nodes k a xs b → nodes ≤ b → answer nodes (t.next a) ≡ slice_get xs 0
chain-first t nodes k a [] b c o = rw c.forth (answer-none nodes b o)
chain-first t nodes k a (x ∷ xs) b c o = rw c.0.joined.forth (answer-node nodes x c.0.known)

-- what stands before the chain's end is its last node
pub chain-final : (t : Threads) (nodes k a x : ℕ) (xs : List ℕ) (b : ℕ) → Chain t nodes k a (x ∷ xs) b → answer nodes (t.prev b) ≡ slice_get (x ∷ xs) (length xs)
chain-final t nodes k a x [] b c = rw c.1.back (answer-node nodes x c.0.known)
chain-final t nodes k a x (y ∷ ys) b c = chain-final t nodes k x y ys b c.1

pub chain-last : (t : Threads) (nodes k a : ℕ) (xs : List ℕ) (b : ℕ) → Chain t nodes k a xs b → nodes ≤ a → answer nodes (t.prev b) ≡ slice_get xs (length xs - 1)
chain-last t nodes k a [] b c o = rw c.back (answer-none nodes a o)
chain-last t nodes k a (x ∷ xs) b c o =
    let e : length (x ∷ xs) - 1 ≡ length xs = omega arith in
    rw e (chain-final t nodes k a x xs b c)

-- what follows a node is the node behind it
pub chain-behind : (t : Threads) (nodes k a : ℕ) (xs : List ℕ) (b node : ℕ) → Chain t nodes k a xs b → nodes ≤ b → stands_in node xs ≡ true → answer nodes (t.next node) ≡ behind node xs
chain-behind t nodes k a [] b node c o e = absurd (false≢true e)
chain-behind t nodes k a (x ∷ xs) b node c o e =
    elim (cases_Bool (eqb node x)) [
      | inl s ↦
          let same = eqb-true node x s in
          rw s (rw same (chain-first t nodes k x xs b c.1 o))
      | inr s ↦
          let f : stands_in node xs ≡ true = (rw s at e) in
          rw s (chain-behind t nodes k x xs b node c.1 o f)
    ]
