-- By how much reservations rise and fall at most.
use Rattle.std.proofs.Common.{◌≡◌, ◌≢◌, ℕ, zero, suc, ◌+◌, ◌-◌, ◌≤◌, ◌==◌, Option, Some, ap, sym, ◌∙◌, subst, arith, unwrap_or, inl, inr}
use Rattle.std.specs.FinMap.{get}
use Rattle.reservation_tree.specs.Tracker.{Tracker, Trackers, no_tracker, reservation_of, depth_of, parent_of, IsTree}
use Rattle.reservation_tree.specs.Change.{set_reservation, raise, lower, growth_above, grown, fallen, risen}
use Rattle.reservation_tree.proofs.Maps.{get_same, get_other, same_or_other, is_there}
use Rattle.reservation_tree.proofs.Outline.{SameOutline, set_outline, depth_same, tree_same, in_new, bare}
use Rattle.reservation_tree.proofs.Above.{Above, above}
use Rattle.pool_model.specs.Bytes.{only_if}
use Rattle.pool_model.proofs.Weights.{mine, not_mine}

module _ (ts : Trackers) (t bytes : ℕ) where
  set_at : reservation_of (set_reservation bytes t ts) t ≡ bytes
  set_at = ap (λ (o : Option Tracker). (unwrap_or o no_tracker).reservation) (get_same ts t _)

  set_beside : (q : ℕ) → q ≢ t → reservation_of (set_reservation bytes t ts) q ≡ reservation_of ts q
  set_beside q apart = ap (λ (o : Option Tracker). (unwrap_or o no_tracker).reservation) (get_other ts t _ q apart)

raised : (ts : Trackers) (t bytes q : ℕ) → reservation_of ts q ≤ reservation_of (raise bytes t ts) q
raised ts t bytes q = elim (same_or_other q t) [
  | inl here ↦
      let now : reservation_of (raise bytes t ts) q ≡ reservation_of ts t + bytes = ap (reservation_of (raise bytes t ts)) here ∙ set_at ts t (reservation_of ts t + bytes) in
      let was : reservation_of ts q ≡ reservation_of ts t = ap (reservation_of ts) here in
      omega (arith, now, was)
  | inr other ↦
      let now : reservation_of (raise bytes t ts) q ≡ reservation_of ts q = set_beside ts t (reservation_of ts t + bytes) q other in
      omega (arith, now)
]

lowered : (ts : Trackers) (t bytes q : ℕ) → reservation_of ts q ≤ reservation_of (lower bytes t ts) q + only_if (q == t) bytes
lowered ts t bytes q = elim (same_or_other q t) [
  | inl here ↦
      let now : reservation_of (lower bytes t ts) q ≡ reservation_of ts t - bytes = ap (reservation_of (lower bytes t ts)) here ∙ set_at ts t (reservation_of ts t - bytes) in
      let was : reservation_of ts q ≡ reservation_of ts t = ap (reservation_of ts) here in
      let all : only_if (q == t) bytes ≡ bytes = ap (λ (d : ℕ). only_if (d == t) bytes) here ∙ mine t bytes in
      omega (arith, now, was, all)
  | inr other ↦
      let now : reservation_of (lower bytes t ts) q ≡ reservation_of ts q = set_beside ts t (reservation_of ts t - bytes) q other in
      omega (arith, now)
]

-- a growth lowers nobody
pub grown_more : (charge : ℕ → ℕ) (ts : Trackers) (levels bytes t q : ℕ) → reservation_of ts q ≤ reservation_of (grown charge ts levels bytes t) q
grown_more charge ts zero bytes t q = omega arith
grown_more charge ts (suc levels) bytes t q =
    let rest : Trackers = grown charge ts levels (growth_above charge ts bytes t) (parent_of ts t) in
    let first : reservation_of ts q ≤ reservation_of rest q = grown_more charge ts levels (growth_above charge ts bytes t) (parent_of ts t) q in
    let then : reservation_of rest q ≤ reservation_of (raise bytes t rest) q = raised rest t bytes q in
    omega (arith, first, then)

-- nor does a rise
pub risen_more : (levels bytes t : ℕ) (ts : Trackers) (q : ℕ) → reservation_of ts q ≤ reservation_of (risen levels bytes t ts) q
risen_more zero bytes t ts q = omega arith
risen_more (suc levels) bytes t ts q =
    let rest : Trackers = risen levels bytes (parent_of ts t) ts in
    let first : reservation_of ts q ≤ reservation_of rest q = risen_more levels bytes (parent_of ts t) ts q in
    let then : reservation_of rest q ≤ reservation_of (raise bytes t rest) q = raised rest t bytes q in
    omega (arith, first, then)

-- of those at least as deep as `t`, `t` alone falls, and by so many bytes at most
pub fallen_less : (levels bytes t : ℕ) (ts : Trackers) (x : Tracker) → IsTree ts → get ts t ≡ Some x → (depth : ℕ) → depth_of ts t ≡ depth → levels ≤ suc depth
    → (q : ℕ) → depth ≤ depth_of ts q → reservation_of ts q ≤ reservation_of (fallen levels bytes t ts) q + only_if (q == t) bytes
fallen_less zero bytes t ts x tree is depth deep far q below = omega arith
fallen_less (suc zero) bytes t ts x tree is depth deep far q below = lowered ts t bytes q
fallen_less (suc (suc levels)) bytes t ts x tree is zero deep far q below = absurd (omega (arith, far))
fallen_less (suc (suc levels)) bytes t ts x tree is (suc depth) deep far q below =
    let over_it : Above ts t x depth = above ts tree t depth x is deep in
    let p : ℕ = over_it.parent in
    let new : Trackers = lower bytes t ts in
    let same : SameOutline ts new = set_outline ts t (reservation_of ts t - bytes) (is_there (get ts t) x is) in
    let its : (y : Tracker) × (get new p ≡ Some y) × (bare y ≡ bare over_it.tracker) = in_new ts new same p over_it.tracker over_it.lives in
    let first : reservation_of ts q ≤ reservation_of new q + only_if (q == t) bytes = lowered ts t bytes q in
    let deep_q : depth_of new q ≡ depth_of ts q = depth_same ts new same q in
    let deep_p : depth_of new p ≡ depth = depth_same ts new same p ∙ over_it.deep in
    let rest : reservation_of new q ≤ reservation_of (fallen (suc levels) bytes p new) q + only_if (q == p) bytes =
    fallen_less (suc levels) bytes p new its.0 (tree_same ts new same tree) its.1 depth deep_p (omega (arith, far)) q (omega (arith, below, deep_q)) in
    let apart : q ≢ p = λ here. let one : depth_of ts q ≡ depth_of ts p = ap (depth_of ts) here in let low : depth_of ts p ≡ depth = over_it.deep in omega (arith, one, low, below) in
    let none : only_if (q == p) bytes ≡ 0 = not_mine q p bytes apart in
    subst (λ (r : ℕ). reservation_of ts q ≤ reservation_of (fallen (suc levels) bytes r new) q + only_if (q == t) bytes) (sym over_it.named) (omega (arith, first, rest, none))
