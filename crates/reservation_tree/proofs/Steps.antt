-- One tracker rises or falls: when each still fits.
use Rattle.std.proofs.Common.{◌≡◌, ℕ, ◌+◌, ◌-◌, ◌≤◌, ◌≢◌, Option, unwrap_or, Some, ap, sym, ◌∙◌, subst, arith, inl, inr}
use Rattle.std.specs.FinMap.{get}
use Rattle.reservation_tree.specs.Tracker.{Tracker, Trackers, IsLive, no_tracker, reservation_of, limit_of, room_of, share_of, children_of, unused, Fits, FitsTree}
use Rattle.reservation_tree.specs.Change.{set_reservation, raise, lower}
use Rattle.reservation_tree.proofs.Maps.{same_or_other, is_there}
use Rattle.reservation_tree.proofs.Outline.{reservation_is, set_outline, live_back, limit_same, set_here, set_there}
use Rattle.reservation_tree.proofs.Shares.{share-sum, share_here, share_there, children-set}

module _ (charge : ℕ → ℕ) (ts : Trackers) (t : ℕ) (x : Tracker) (is : get ts t ≡ Some x) where
  -- the bytes that a tracker has after one of them was set
  pub now_here : (bytes : ℕ) → reservation_of (set_reservation bytes t ts) t ≡ bytes
  now_here bytes = reservation_is (set_reservation bytes t ts) t _ (set_here ts t bytes x is)

  pub now_there : (bytes q : ℕ) → q ≢ t → reservation_of (set_reservation bytes t ts) q ≡ reservation_of ts q
  now_there bytes q apart = ap (λ (o : Option Tracker). (unwrap_or o no_tracker).reservation) (set_there ts t bytes q apart)

  pub limit_kept : (bytes q : ℕ) → limit_of (set_reservation bytes t ts) q ≡ limit_of ts q
  limit_kept bytes q = limit_same ts (set_reservation bytes t ts) (set_outline ts t bytes (is_there (get ts t) x is)) q

  pub children_raised : (bytes q : ℕ) → children_of (raise bytes t ts) q ≡ children_of ts q + share_of q x.parent bytes
  children_raised bytes q =
      let old : reservation_of ts t ≡ x.reservation = reservation_is ts t x is in
      let sums : children_of (raise bytes t ts) q + share_of q x.parent x.reservation ≡ children_of ts q + share_of q x.parent (reservation_of ts t + bytes) = children-set ts t (reservation_of ts t + bytes) x q is in
      let parts : share_of q x.parent (reservation_of ts t + bytes) ≡ share_of q x.parent (reservation_of ts t) + share_of q x.parent bytes = share-sum q x.parent (reservation_of ts t) bytes in
      let same : share_of q x.parent (reservation_of ts t) ≡ share_of q x.parent x.reservation = ap (share_of q x.parent) old in
      omega (arith, sums, parts, same)

  pub children_lowered : (bytes q : ℕ) → bytes ≤ reservation_of ts t → children_of (lower bytes t ts) q + share_of q x.parent bytes ≡ children_of ts q
  children_lowered bytes q few =
      let old : reservation_of ts t ≡ x.reservation = reservation_is ts t x is in
      let sums : children_of (lower bytes t ts) q + share_of q x.parent x.reservation ≡ children_of ts q + share_of q x.parent (reservation_of ts t - bytes) = children-set ts t (reservation_of ts t - bytes) x q is in
      let parts : share_of q x.parent ((reservation_of ts t - bytes) + bytes) ≡ share_of q x.parent (reservation_of ts t - bytes) + share_of q x.parent bytes = share-sum q x.parent (reservation_of ts t - bytes) bytes in
      let whole : (reservation_of ts t - bytes) + bytes ≡ x.reservation = omega (arith, old, few) in
      let same : share_of q x.parent ((reservation_of ts t - bytes) + bytes) ≡ share_of q x.parent x.reservation = ap (share_of q x.parent) whole in
      omega (arith, sums, parts, same)

  -- a rise keeps all, where there is room and the parent has so much unused
  pub raise_fits : FitsTree charge ts → (bytes : ℕ) → bytes ≤ room_of ts t
      → ((q : ℕ) → share_of q x.parent bytes ≤ unused charge ts q) → FitsTree charge (raise bytes t ts)
  raise_fits fits bytes room spare q live = elim (same_or_other q t) [
    | inl here ↦ subst (λ (r : ℕ). Fits charge (raise bytes t ts) r) (sym here)
        (let was : Fits charge ts t = fits t (is_there (get ts t) x is) in
        let sum : children_of (raise bytes t ts) t ≡ children_of ts t + share_of t x.parent bytes = children_raised bytes t in
        let some_unused : share_of t x.parent bytes ≤ unused charge ts t = spare t in
        let has : reservation_of (raise bytes t ts) t ≡ reservation_of ts t + bytes = now_here (reservation_of ts t + bytes) in
        let top : limit_of (raise bytes t ts) t ≡ limit_of ts t = limit_kept (reservation_of ts t + bytes) t in
        record { within = omega (arith, was.within, was.below, sum, some_unused, has); below = omega (arith, room, was.below, has, top) })
    | inr there ↦
        let was : Fits charge ts q = fits q (live_back ts (raise bytes t ts) (set_outline ts t (reservation_of ts t + bytes) (is_there (get ts t) x is)) q live) in
        let sum : children_of (raise bytes t ts) q ≡ children_of ts q + share_of q x.parent bytes = children_raised bytes q in
        let some_unused : share_of q x.parent bytes ≤ unused charge ts q = spare q in
        let has : reservation_of (raise bytes t ts) q ≡ reservation_of ts q = now_there (reservation_of ts t + bytes) q there in
        let top : limit_of (raise bytes t ts) q ≡ limit_of ts q = limit_kept (reservation_of ts t + bytes) q in
        record { within = omega (arith, was.within, sum, some_unused, has); below = omega (arith, was.below, has, top) }
  ]

  -- a fall keeps all, where so much is unused
  pub lower_fits : FitsTree charge ts → (bytes : ℕ) → bytes ≤ unused charge ts t → FitsTree charge (lower bytes t ts)
  lower_fits fits bytes spare q live =
      let mine : Fits charge ts t = fits t (is_there (get ts t) x is) in
      let few : bytes ≤ reservation_of ts t = omega (arith, mine.within) in
      let sum : children_of (lower bytes t ts) q + share_of q x.parent bytes ≡ children_of ts q = children_lowered bytes q few in
      let top : limit_of (lower bytes t ts) q ≡ limit_of ts q = limit_kept (reservation_of ts t - bytes) q in
      elim (same_or_other q t) [
        | inl here ↦
            let has : reservation_of (lower bytes t ts) q ≡ reservation_of ts t - bytes = ap (reservation_of (lower bytes t ts)) here ∙ now_here (reservation_of ts t - bytes) in
            let cost : charge q ≡ charge t = ap charge here in
            let under : children_of ts q ≡ children_of ts t = ap (children_of ts) here in
            let bound : limit_of ts q ≡ limit_of ts t = ap (limit_of ts) here in
            record { within = omega (arith, mine.within, spare, sum, has, cost, under); below = omega (arith, mine.below, has, top, bound) }
        | inr there ↦
            let was : Fits charge ts q = fits q (live_back ts (lower bytes t ts) (set_outline ts t (reservation_of ts t - bytes) (is_there (get ts t) x is)) q live) in
            let has : reservation_of (lower bytes t ts) q ≡ reservation_of ts q = now_there (reservation_of ts t - bytes) q there in
            record { within = omega (arith, was.within, sum, has); below = omega (arith, was.below, has, top) }
      ]

  -- what falls is unused at the parent then
  pub freed_above : FitsTree charge ts → (bytes p : ℕ) → bytes ≤ unused charge ts t → x.parent ≡ Some p → p ≢ t → IsLive ts p
      → bytes + unused charge ts p ≡ unused charge (lower bytes t ts) p
  freed_above fits bytes p spare under apart live =
      let mine : Fits charge ts t = fits t (is_there (get ts t) x is) in
      let over_it : Fits charge ts p = fits p live in
      let few : bytes ≤ reservation_of ts t = omega (arith, mine.within) in
      let sum : children_of (lower bytes t ts) p + share_of p x.parent bytes ≡ children_of ts p = children_lowered bytes p few in
      let mine_of : share_of p x.parent bytes ≡ bytes = ap (λ (o : Option ℕ). share_of p o bytes) under ∙ share_here p bytes in
      let has : reservation_of (lower bytes t ts) p ≡ reservation_of ts p = now_there (reservation_of ts t - bytes) p apart in
      omega (arith, over_it.within, sum, mine_of, has)

-- the bytes that a rise takes are unused at the parent, and nobody else is asked
pub spare_at : (charge : ℕ → ℕ) (ts : Trackers) (p bytes : ℕ) → bytes ≤ unused charge ts p → (q : ℕ) → share_of q (Some p) bytes ≤ unused charge ts q
spare_at charge ts p bytes room q = elim (same_or_other p q) [
  | inl here ↦
      let all : share_of q (Some p) bytes ≡ bytes = ap (λ (r : ℕ). share_of q (Some r) bytes) here ∙ share_here q bytes in
      let same : unused charge ts p ≡ unused charge ts q = ap (unused charge ts) here in
      omega (arith, all, same, room)
  | inr there ↦
      let none : share_of q (Some p) bytes ≡ 0 = share_there q p bytes there in
      omega (arith, none)
]
