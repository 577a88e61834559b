-- Places of fragments before and behind their work.
use Rattle.std.specs.Prelude.{◌≡◌, ℕ, ◌<◌, ◌≤◌, List, [], Err, IsOk, Option, length, slice_index_or, sum_by}
use Rattle.crossbeam_queue.specs.Passes.{IsPassOf, view}
use Rattle.crossbeam_queue.specs.declared.array_queue.Doing.{Doing}
use Rattle.crossbeam_queue.specs.declared.array_queue.Slotted.{Slotted}
use Rattle.fragments.specs.declared.rule.Tally.{Tally}
use Rattle.fragments.specs.declared.place.Place.{Place}
use Rattle.fragments.specs.Balance.{tally}

module _ {T E Q A : Type 0} where
  -- its pass is one of this queue and did nothing yet
  pub record IsNewPlace (queue : Slotted (Option T) (Doing T (Tally T)) Q A) (place : Place T E) : Type 0 where
    pub pass : IsPassOf queue place.pass
    pub new : view place.pass ≡ tally 1 [] []

  -- its pass put nothing
  pub record HasDone (queue : Slotted (Option T) (Doing T (Tally T)) Q A) (place : Place T E) : Type 0 where
    pub pass : IsPassOf queue place.pass
    pub put : view place.pass ≡ tally 1 [] (view place.pass).taken

module _ {T E : Type 0} where
  -- what its pass took weighs so much
  abbrev pub weight_at : (T → ℕ) → Place T E → ℕ
  weight_at h place = sum_by h (view place.pass).taken

  -- of the places from one on, the first that was stopped was stopped so
  pub record IsFirstFrom (from : ℕ) (e : E) (places : List (Place T E)) : Type 0 where
    pub at : ℕ
    pub behind : from ≤ at
    pub below : at < length places
    pub so : (d : Place T E) → (slice_index_or places at d).outcome ≡ Err e
    pub before : (k : ℕ) (d : Place T E) → from ≤ k → k < at → IsOk (slice_index_or places k d).outcome
