-- What a chain says of the table, and how it moves from one table to the next.
use Rattle.std.proofs.Common.{ℕ, ◌≡◌, ◌<◌, ◌≤◌, zero, suc, true, false, eqb, List, [], ◌∷◌, ◌++◌, length, refl, ap, sym, ◌∙◌, inl, inr, subst, arith}
use Rattle.std.specs.List.{IsDistinct}
use Rattle.std.proofs.lemmas.Bool.{false≢true, or_cases, or_parts, eqb-true, eqb-false, cases_Bool, lt-ltb, le-ltb}
use Rattle.std.proofs.lemmas.Map.Steps.{length-le_from_distinct_below}
use Rattle.index_list.specs.Listing.{stands_in, others}
use Rattle.index_list.specs.Threads.{Threads, Joined, Chain, IsFree, walk}
use Rattle.index_list.proofs.Members.{stands_in-same, stands_in-others, others-all, none_equal}

-- a number on the chain is that of a node, and the node is at home there
pub chain-home : (t : Threads) (nodes k a : ℕ) (xs : List ℕ) (b q : ℕ) → Chain t nodes k a xs b → stands_in q xs ≡ true → (q < nodes) × (t.home q ≡ k)
chain-home t nodes k a [] b q c e = absurd (false≢true e)
chain-home t nodes k a (x ∷ xs) b q c e =
    elim (or_cases (eqb q x) (stands_in q xs) e) [
      | inl h ↦
          let same = eqb-true q x h in
          (rw same c.0.known, rw same c.0.home)
      | inr h ↦ chain-home t nodes k x xs b q c.1 h
    ]

-- no node is on a chain twice
pub chain-distinct : (t : Threads) (nodes k a : ℕ) (xs : List ℕ) (b : ℕ) → Chain t nodes k a xs b → IsDistinct eqb xs
unfolding IsDistinct
chain-distinct t nodes k a [] b c = tt
chain-distinct t nodes k a (x ∷ xs) b c = (none_equal x xs c.0.once, chain-distinct t nodes k x xs b c.1)

-- so it has no more than there are
pub chain-length : (t : Threads) (nodes k a : ℕ) (xs : List ℕ) (b : ℕ) → Chain t nodes k a xs b → length xs ≤ nodes
chain-length t nodes k a xs b c =
    length-le_from_distinct_below xs nodes (chain-distinct t nodes k a xs b c) (λ q e. (chain-home t nodes k a xs b q c e).0)

-- a walk along the chain finds its nodes
pub walk-chain : (t : Threads) (nodes k a : ℕ) (xs : List ℕ) (b most : ℕ) → Chain t nodes k a xs b → nodes ≤ b → length xs ≤ most → walk t.next nodes most (t.next a) ≡ xs
walk-chain t nodes k a [] b zero c o l = refl
walk-chain t nodes k a [] b (suc most) c o l = rw c.forth (rw (le-ltb b nodes o) refl)
walk-chain t nodes k a (x ∷ xs) b zero c o l = absurd (omega arith)
walk-chain t nodes k a (x ∷ xs) b (suc most) c o l =
    rw c.0.joined.forth (rw (lt-ltb x nodes c.0.known) (ap (λ ys. x ∷ ys) (walk-chain t nodes k x xs b most c.1 o (omega arith))))

-- the entry before the chain's end
pub chain-end : (t : Threads) (nodes k a : ℕ) (xs : List ℕ) (b : ℕ) → Chain t nodes k a xs b → t.next (t.prev b) ≡ b
chain-end t nodes k a [] b c = rw c.back c.forth
chain-end t nodes k a (x ∷ xs) b c = chain-end t nodes k x xs b c.1

pub chain-end_in : (t : Threads) (nodes k a : ℕ) (xs : List ℕ) (b room : ℕ) → Chain t nodes k a xs b → a < room → nodes ≤ room → t.prev b < room
chain-end_in t nodes k a [] b room c l o = rw c.back l
chain-end_in t nodes k a (x ∷ xs) b room c l o = chain-end_in t nodes k x xs b room c.1 (let h = c.0.known in omega arith) o

pub chain-end_far : (t : Threads) (nodes k a : ℕ) (xs : List ℕ) (b node : ℕ) → Chain t nodes k a xs b → (a ≡ node → ⊥) → stands_in node xs ≡ false → t.prev b ≡ node → ⊥
chain-end_far t nodes k a [] b node c n e s = n (sym c.back ∙ s)
chain-end_far t nodes k a (x ∷ xs) b node c n e s =
    let p = or_parts (eqb node x) (stands_in node xs) e in
    chain-end_far t nodes k x xs b node c.1 (λ h. eqb-false node x p.0 (sym h)) p.1 s

-- the entry behind the chain's start
pub chain-start : (t : Threads) (nodes k a : ℕ) (xs : List ℕ) (b : ℕ) → Chain t nodes k a xs b → t.prev (t.next a) ≡ a
chain-start t nodes k a [] b c = rw c.forth c.back
chain-start t nodes k a (x ∷ xs) b c = rw c.0.joined.forth c.0.joined.back

pub chain-start_in : (t : Threads) (nodes k a : ℕ) (xs : List ℕ) (b room : ℕ) → Chain t nodes k a xs b → b < room → nodes ≤ room → t.next a < room
chain-start_in t nodes k a [] b room c l o = rw c.forth l
chain-start_in t nodes k a (x ∷ xs) b room c l o = rw c.0.joined.forth (let h = c.0.known in omega arith)

-- the entries on both sides of a node on the chain lead to it, and the table has them
pub record Sides (t : Threads) (room node : ℕ) : Type 0 where
  pub from_before : t.next (t.prev node) ≡ node
  pub from_behind : t.prev (t.next node) ≡ node
  pub before_in : t.prev node < room
  pub behind_in : t.next node < room

pub chain-sides : (t : Threads) (nodes k a : ℕ) (xs : List ℕ) (b room node : ℕ) → Chain t nodes k a xs b → a < room → b < room → nodes ≤ room → stands_in node xs ≡ true → Sides t room node
chain-sides t nodes k a [] b room node c l m o e = absurd (false≢true e)
chain-sides t nodes k a (x ∷ xs) b room node c l m o e =
    let h = c.0.known in
    elim (cases_Bool (eqb node x)) [
      | inl s ↦
          let same = eqb-true node x s in
          rw same record {
            from_before = rw c.0.joined.back c.0.joined.forth;
            from_behind = chain-start t nodes k x xs b c.1;
            before_in = rw c.0.joined.back l;
            behind_in = chain-start_in t nodes k x xs b room c.1 m o;
          }
      | inr s ↦
          let f : stands_in node xs ≡ true = (rw s at e) in
          chain-sides t nodes k x xs b room node c.1 (omega arith) m o f
    ]

-- how one table becomes the next, away from the node that moves: T are the entries that may follow
pub record Keeps (t u : Threads) (node : ℕ) (T : ℕ → Type 0) : Type 0 where
  pub joined : (p q : ℕ) → (p ≡ node → ⊥) → (q ≡ node → ⊥) → T q → Joined t p q → Joined u p q
  pub home : (q : ℕ) → (q ≡ node → ⊥) → u.home q ≡ t.home q

-- a chain without the node stays
pub chain-kept : (t u : Threads) (nodes k node : ℕ) (T : ℕ → Type 0) → Keeps t u node T → ((q : ℕ) → q < nodes → T q) → (a : ℕ) (xs : List ℕ) (b : ℕ) → (a ≡ node → ⊥) → stands_in node xs ≡ false → (b ≡ node → ⊥) → T b → Chain t nodes k a xs b → Chain u nodes k a xs b
chain-kept t u nodes k node T keeps all a [] b na e nb tb c = keeps.joined a b na nb tb c
chain-kept t u nodes k node T keeps all a (x ∷ xs) b na e nb tb c =
    let p = or_parts (eqb node x) (stands_in node xs) e in
    let nx : x ≡ node → ⊥ = λ s. eqb-false node x p.0 (sym s) in (
      record {
        joined = keeps.joined a x na nx (all x c.0.known) c.0.joined;
        known = c.0.known;
        home = keeps.home x nx ∙ c.0.home;
        once = c.0.once;
      },
      chain-kept t u nodes k node T keeps all x xs b nx p.1 nb tb c.1,
    )

-- the node came between the end of list k and its back
pub record Pushed (t u : Threads) (k end node : ℕ) : Type 0 where
  pub keeps : Keeps t u node (λ q. q ≡ end → ⊥)
  pub before : Joined u (t.prev end) node
  pub behind : Joined u node end
  pub home : u.home node ≡ k

pub chain-pushed : (t u : Threads) (nodes k end node : ℕ) → Pushed t u k end node → nodes ≤ end → node < nodes → (a : ℕ) (xs : List ℕ) → (a ≡ node → ⊥) → stands_in node xs ≡ false → Chain t nodes k a xs end → Chain u nodes k a (xs ++ node ∷ []) end
chain-pushed t u nodes k end node m o l a [] na e c = (
  record {
    joined = let P : ℕ → Type 0 = λ p. Joined u p node in subst P c.back m.before;
    known = l;
    home = m.home;
    once = refl;
  },
  m.behind,
)
chain-pushed t u nodes k end node m o l a (x ∷ xs) na e c =
    let p = or_parts (eqb node x) (stands_in node xs) e in
    let nx : x ≡ node → ⊥ = λ s. eqb-false node x p.0 (sym s) in
    let h = c.0.known in (
      record {
        joined = m.keeps.joined a x na nx (λ s. absurd (omega arith)) c.0.joined;
        known = c.0.known;
        home = m.keeps.home x nx ∙ c.0.home;
        once = stands_in-same x node xs (λ s. nx (sym s)) ∙ c.0.once;
      },
      chain-pushed t u nodes k end node m o l x xs nx p.1 c.1,
    )

-- the node left its place, and the entries on both sides of it met
pub record Removed (t u : Threads) (node : ℕ) : Type 0 where
  pub keeps : Keeps t u node (λ _. Unit {0})
  pub met : Joined u (t.prev node) (t.next node)
  pub left : IsFree u node

-- the chain behind the node follows what stood before the node
pub chain-met : (t u : Threads) (nodes k node : ℕ) → Removed t u node → (a : ℕ) (xs : List ℕ) (b : ℕ) → Joined t a node → stands_in node xs ≡ false → (b ≡ node → ⊥) → Chain t nodes k node xs b → Chain u nodes k a xs b
chain-met t u nodes k node m a [] b j e nb c =
    let P : ℕ → Type 0 = λ p. Joined u p b in
    let Q : ℕ → Type 0 = λ q. Joined u (t.prev node) q in
    subst P j.back (subst Q c.forth m.met)
chain-met t u nodes k node m a (x ∷ xs) b j e nb c =
    let p = or_parts (eqb node x) (stands_in node xs) e in
    let nx : x ≡ node → ⊥ = λ s. eqb-false node x p.0 (sym s) in
    let P : ℕ → Type 0 = λ p. Joined u p x in
    let Q : ℕ → Type 0 = λ q. Joined u (t.prev node) q in (
      record {
        joined = subst P j.back (subst Q c.0.joined.forth m.met);
        known = c.0.known;
        home = m.keeps.home x nx ∙ c.0.home;
        once = c.0.once;
      },
      chain-kept t u nodes k node (λ _. Unit {0}) m.keeps (λ _ _. tt) x xs b nx p.1 nb tt c.1,
    )

-- the chain of the others
pub chain-removed : (t u : Threads) (nodes k node : ℕ) → Removed t u node → (a : ℕ) (xs : List ℕ) (b : ℕ) → (a ≡ node → ⊥) → (b ≡ node → ⊥) → Chain t nodes k a xs b → Chain u nodes k a (others node xs) b
chain-removed t u nodes k node m a [] b na nb c = m.keeps.joined a b na nb tt c
chain-removed t u nodes k node m a (x ∷ xs) b na nb c =
    elim (cases_Bool (eqb node x)) [
      | inl s ↦
          let same : x ≡ node = sym (eqb-true node x s) in
          let e : stands_in node xs ≡ false = (rw same at c.0.once) in
          let J : ℕ → Type 0 = λ y. Joined t a y in
          let C : ℕ → Type 0 = λ y. Chain t nodes k y xs b in
          rw (s, others-all node xs e) (chain-met t u nodes k node m a xs b (subst J same c.0.joined) e nb (subst C same c.1))
      | inr s ↦
          let nx : x ≡ node → ⊥ = λ h. eqb-false node x s (sym h) in
          rw s (
            record {
              joined = m.keeps.joined a x na nx tt c.0.joined;
              known = c.0.known;
              home = m.keeps.home x nx ∙ c.0.home;
              once = stands_in-others x node xs (λ h. nx (sym h)) ∙ c.0.once;
            },
            chain-removed t u nodes k node m x xs b nx nb c.1,
          )
    ]
