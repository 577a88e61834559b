-- The numbers of live trackers stay below a bound.
use Rattle.std.proofs.Common.{◌≡◌, ℕ, ◌<◌, Option, None, IsSome, ap, sym, ◌∙◌, subst, inl, inr}
use Rattle.std.specs.Ordering.{nat_cmp}
use Rattle.std.specs.FinMap.{get, insert, remove, empty, get-empty}
use Rattle.reservation_tree.specs.Tracker.{Trackers, AreBelow}
use Rattle.reservation_tree.specs.Change.{root_alone}
use Rattle.reservation_tree.proofs.Maps.{get_other, removed_same, removed_other, same_or_other}

nothing : (goal : Type 0) {X : Type 0} (o : Option X) → o ≡ None → IsSome o → goal
nothing goal {X} o none live = let no : IsSome {T = X} None = subst IsSome none live in cc

module _ (bound : ℕ) (ts : Trackers) (below : AreBelow bound ts) where
  -- a tracker comes, or changes in its place
  pub put_below : (k : ℕ) → k < bound → (x : _) → AreBelow bound (insert ts k x)
  put_below k low x q live = elim (same_or_other q k) [
    | inl here ↦ subst (λ (r : ℕ). r < bound) (sym here) low
    | inr there ↦ below q (subst IsSome (get_other ts k x q there) live)
  ]

  pub gone_below : (t : ℕ) → AreBelow bound (remove ts t)
  gone_below t q live = elim (same_or_other q t) [
    | inl here ↦ nothing (q < bound) (get (remove ts t) q) (ap (get (remove ts t)) here ∙ removed_same ts t) live
    | inr there ↦ below q (subst IsSome (removed_other ts t q there) live)
  ]

pub root_below : (bound limit : ℕ) → 0 < bound → AreBelow bound (root_alone limit)
root_below bound limit low = put_below bound empty (λ q live. nothing (q < bound) (get empty q) (get-empty nat_cmp q) live) 0 low _
