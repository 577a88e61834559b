-- The sessions that come have numbers of their own: each its own, and none that of a live session.
use Rattle.std.proofs.Common.{◌≡◌, ◌≢◌, ℕ, ◌<◌, ◌==◌, eqb, false, List, [], ◌∷◌, ◌++◌, Some, None, Result, Ok, Err, sym, ap, ◌∙◌, subst, ne_eqb}
use Rattle.std.specs.FinMap.{get}
use Rattle.std.specs.List.{AllByRecursion, IsDistinct}
use Rattle.reservation_tree.specs.declared.errors.PoolErr.{PoolErr}
use Rattle.reservation_tree.proofs.Maps.{get_same}
use Rattle.pool.specs.declared.ask.Ask.{Ask}
use Rattle.pool.specs.declared.left.Left.{Left}
use Rattle.pool.specs.declared.item.Item.{Item}
use Rattle.pool.specs.Seats.{Quotas, quotas_in}
use Rattle.pool.specs.Seating.{beginning_items}
use Rattle.pool.specs.Remaining.{left_behind}
use Rattle.pool.specs.Asking.{AreAnswered, HaveCome, all_numbers}
use Rattle.pool.proofs.Answered.{adds_one}
use Rattle.pool.proofs.Seated.{quotas_begun}

-- these numbers are distinct, and none is that of a session that is live behind these items
pub record AreApart (items : List Item) (ms : List ℕ) : Type 0 where
  pub distinct : IsDistinct eqb ms
  pub others : (k x : ℕ) → k < 240 → get (quotas_in items) k ≡ Some x → AllByRecursion (λ y. (k == y) ≡ false) ms

apart_none : (items : List Item) → AreApart items []
unfolding IsDistinct
apart_none items = record { distinct = tt; others = λ k x low live. tt }

none_some : (x : ℕ) → None ≡ Some x → ⊥
none_some x is = cc

-- a session comes whose number has none, and then others
module _ (before : List Item) (m query limit quota least : ℕ) (low : m < 240) (fresh : get (quotas_in before) m ≡ None) where
  there : get (quotas_in (before ++ beginning_items m query limit quota least)) m ≡ Some quota
  there = ap (λ (q : Quotas). get q m) (quotas_begun before m query limit quota least fresh) ∙ get_same (quotas_in before) m quota

  apart_one : (ms : List ℕ) → AreApart (before ++ beginning_items m query limit quota least) ms → AreApart before (m ∷ ms)
  unfolding IsDistinct
  apart_one ms are = record {
    distinct = (are.others m quota low there, are.distinct);
    others = λ k x small live.
        let apart : k ≢ m = λ here. none_some x (sym fresh ∙ ap (get (quotas_in before)) (sym here) ∙ live) in
        (ne_eqb k m apart, are.others k x small ((adds_one before m query limit quota least low fresh).lives k x small live).1);
  }

come_apart : (ask : Ask) (before : List Item) (ms rest : List ℕ) (after : List Item) → HaveCome ask before ms after → AreApart after rest → AreApart before (ms ++ rest)
come_apart ask before [] rest after come are = subst (λ (items : List Item). AreApart items rest) come are
come_apart ask before (m ∷ ms) rest after come are =
    apart_one before m come.0 ask.limit ask.quota ask.least come.1 come.2 (ms ++ rest)
    (come_apart ask (before ++ beginning_items m come.0 ask.limit ask.quota ask.least) ms rest after come.3 are)

pub answered_apart : (asks : List Ask) (left : Left) (before : List Item) (answers : List (Result (List ℕ) PoolErr)) (after : List Item) → AreAnswered asks left before answers after → AreApart before (all_numbers answers)
answered_apart [] left before [] after are = apart_none before
answered_apart [] left before (r ∷ answers) after are = absurd are
answered_apart (ask ∷ asks) left before [] after are = absurd are
answered_apart (ask ∷ asks) left before (Ok ms ∷ answers) after are =
    come_apart ask before ms (all_numbers answers) are.2 are.3 (answered_apart asks (left_behind ask.count ask left) are.2 answers after are.4)
answered_apart (ask ∷ asks) left before (Err e ∷ answers) after are = answered_apart asks left before answers after are.1
