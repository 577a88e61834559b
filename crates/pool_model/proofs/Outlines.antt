-- Growths, falls and moves change reservations alone.
use Rattle.std.proofs.Common.{◌≡◌, ℕ, ◌≤◌, Some, None, refl, arith}
use Rattle.std.specs.FinMap.{get}
use Rattle.reservation_tree.specs.Tracker.{Tracker, Trackers, IsLive, depth_of, unused}
use Rattle.reservation_tree.specs.Change.{grow, grow_refusal, shrink, fallen, risen, move_to, move_refusal, ancestor_of, levels_below}
use Rattle.reservation_tree.proofs.Maps.{found}
use Rattle.reservation_tree.proofs.Outline.{SameOutline, then_same, tree_same}
use Rattle.reservation_tree.proofs.Growing.{grown-lifts}
use Rattle.reservation_tree.proofs.Moving.{falls_whole, falls_to, risen-lifts}
use Rattle.reservation_tree.proofs.Climbs.{CanMove, move_step}
use Rattle.pool_model.specs.State.{State}
use Rattle.pool_model.specs.Sums.{charge_of}
use Rattle.pool_model.specs.Sound.{IsSound}
use Rattle.pool_model.proofs.Fits.{fits_tree}

module _ (s : State) (sound : IsSound s) where
  pub grow_outline : (t bytes : ℕ) → IsLive s.trackers t → grow_refusal (charge_of s) bytes t s.trackers ≡ None → SameOutline s.trackers (grow (charge_of s) bytes t s.trackers)
  unfolding grow grow_refusal
  grow_outline t bytes live none =
      let x : (y : Tracker) × (get s.trackers t ≡ Some y) = found (get s.trackers t) live in
      let lifted = grown-lifts (charge_of s) s.trackers sound.seated.tree (fits_tree s sound) (depth_of s.trackers t) bytes t x.0 x.1 refl none in
      lifted.0.outline

  pub shrink_outline : (t bytes : ℕ) → IsLive s.trackers t → bytes ≤ unused (charge_of s) s.trackers t → SameOutline s.trackers (shrink bytes t s.trackers)
  unfolding shrink
  shrink_outline t bytes live spare =
      let x : (y : Tracker) × (get s.trackers t ≡ Some y) = found (get s.trackers t) live in
      let fell = falls_whole (charge_of s) (depth_of s.trackers t) bytes t s.trackers x.0 sound.seated.tree (fits_tree s sound) x.1 spare refl in
      fell.outline

  pub move_outline : (src dst bytes : ℕ) → IsLive s.trackers src → IsLive s.trackers dst → bytes ≤ unused (charge_of s) s.trackers src → move_refusal bytes src dst s.trackers ≡ None
      → SameOutline s.trackers (move_to bytes src dst s.trackers)
  unfolding move_to move_refusal
  move_outline src dst bytes live live_dst spare none =
      let x : (y : Tracker) × (get s.trackers src ≡ Some y) = found (get s.trackers src) live in
      let falling : ℕ = levels_below s.trackers (ancestor_of s.trackers src dst) src in
      let rising : ℕ = levels_below s.trackers (ancestor_of s.trackers src dst) dst in
      let fell : Trackers = fallen falling bytes src s.trackers in
      let far : falling ≤ depth_of s.trackers src = omega arith in
      let down = falls_to (charge_of s) falling bytes src s.trackers x.0 sound.seated.tree (fits_tree s sound) x.1 spare far in
      let can : CanMove (charge_of s) fell rising bytes dst = move_step (charge_of s) s.trackers sound.seated.tree (fits_tree s sound) bytes src dst falling rising live live_dst refl refl spare none in
      let y : (z : Tracker) × (get fell dst ≡ Some z) = found (get fell dst) can.live in
      let lifted = risen-lifts (charge_of s) fell (tree_same s.trackers fell down.0.outline sound.seated.tree) down.0.fits rising bytes dst y.0 y.1 can.far can.spare can.none in
      then_same s.trackers fell (risen rising bytes dst fell) down.0.outline lifted.0.outline
