-- A tracker's whole reservation goes to the tracker above it.
use Rattle.std.proofs.Common.{◌≡◌, ◌≢◌, ℕ, ◌+◌, ◌-◌, Some, None, ap, ◌∙◌, arith}
use Rattle.std.specs.FinMap.{get}
use Rattle.reservation_tree.specs.Tracker.{Tracker, Trackers, IsLive, IsTree, depth_of, parent_of, reservation_of}
use Rattle.reservation_tree.specs.Change.{ancestor_of, levels_below, risen, fallen, lower, move_to, move_refusal, risen_refusal}
use Rattle.reservation_tree.proofs.Maps.{is_there}
use Rattle.reservation_tree.proofs.Outline.{parent_is, set_here, reservation_is}
use Rattle.reservation_tree.proofs.Climbs.{met, first_goes}
use Rattle.pool_model.proofs.Seats.{depth_under}

module _ (ts : Trackers) (tree : IsTree ts) (t p : ℕ) (x : Tracker) (is : get ts t ≡ Some x) (under : x.parent ≡ Some p) (live : IsLive ts p) where
  deeper : depth_of ts t ≡ depth_of ts p + 1
  deeper = depth_under ts tree t p x is under

  pub apart_above : t ≢ p
  apart_above same = let deep = deeper in let one = ap (depth_of ts) same in omega (arith, deep, one)

  parent : parent_of ts t ≡ p
  parent = parent_is ts t x p is under

  meets : ancestor_of ts t p ≡ p
  unfolding ancestor_of
  meets =
      first_goes ts tree t p (is_there (get ts t) x is) live apart_above (let deep = deeper in omega (arith, deep))
      ∙ met ts (depth_of ts (parent_of ts t) + depth_of ts p) (parent_of ts t) p parent ∙ parent

  falling : levels_below ts (ancestor_of ts t p) t ≡ 1
  falling = let deep = deeper in let top : depth_of ts (ancestor_of ts t p) ≡ depth_of ts p = ap (depth_of ts) meets in omega (arith, deep, top)

  rising : levels_below ts (ancestor_of ts t p) p ≡ 0
  rising = let top : depth_of ts (ancestor_of ts t p) ≡ depth_of ts p = ap (depth_of ts) meets in omega (arith, top)

  -- no limit is passed
  pub handed_fits : (bytes : ℕ) → move_refusal bytes t p ts ≡ None
  unfolding move_refusal
  handed_fits bytes = ap (λ (n : ℕ). risen_refusal n bytes p ts) rising

  -- the tracker alone falls
  pub handed_is : (bytes : ℕ) → move_to bytes t p ts ≡ lower bytes t ts
  unfolding move_to
  handed_is bytes =
      ap (λ (n : ℕ). risen n bytes p (fallen (levels_below ts (ancestor_of ts t p) t) bytes t ts)) rising
      ∙ ap (λ (n : ℕ). fallen n bytes t ts) falling

  -- it is there still, and has nothing
  pub handed_there : (bytes : ℕ) → get (move_to bytes t p ts) t ≡ Some (record x { reservation = reservation_of ts t - bytes })
  handed_there bytes = ap (λ (m : Trackers). get m t) (handed_is bytes) ∙ set_here ts t (reservation_of ts t - bytes) x is

  pub handed_empty : reservation_of (move_to (reservation_of ts t) t p ts) t ≡ 0
  handed_empty = reservation_is (move_to (reservation_of ts t) t p ts) t (record x { reservation = reservation_of ts t - reservation_of ts t }) (handed_there (reservation_of ts t)) ∙ omega arith
