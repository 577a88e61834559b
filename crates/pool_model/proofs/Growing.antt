-- Reservations grow, fall and move: a sound state stays sound.
use Rattle.std.proofs.Common.{◌≡◌, ℕ, suc, ◌+◌, ◌≤◌, ◌==◌, Option, Some, None, IsSome, refl, ap, sym, ◌∙◌, subst, arith, unwrap_or, inl, inr}
use Rattle.std.specs.FinMap.{get}
use Rattle.reservation_tree.specs.Tracker.{Tracker, Trackers, no_tracker, reservation_of, depth_of, IsLive, Fits, FitsTree}
use Rattle.reservation_tree.specs.Change.{grow, grow_refusal, shrink, fallen, risen, move_to, move_refusal, ancestor_of, levels_below}
use Rattle.reservation_tree.proofs.Maps.{found, same_or_other}
use Rattle.reservation_tree.proofs.Outline.{SameOutline, then_same, depth_same, limit_same, live_same, tree_same, in_old, in_new, bare}
use Rattle.reservation_tree.proofs.Growing.{grown-lifts}
use Rattle.reservation_tree.proofs.Moving.{Fallen, falls_whole, falls_to, risen-lifts}
use Rattle.reservation_tree.proofs.Climbs.{CanMove, move_step}
use Rattle.pool_model.specs.Bytes.{only_if}
use Rattle.pool_model.specs.State.{Pages, Buffers, Sessions, State}
use Rattle.pool_model.specs.Sums.{charge_of, held_by, IsClient, memory}
use Rattle.pool_model.specs.TrackerRows.{CanLose}
use Rattle.pool_model.specs.Parts.{with_trackers}
use Rattle.pool_model.specs.Sound.{IsQuery, IsSeated, IsOwned, IsSound}
use Rattle.pool_model.proofs.Weights.{mine, not_mine}
use Rattle.pool_model.proofs.ByClients.{not_client}
use Rattle.pool_model.proofs.Fits.{fits_tree}
use Rattle.pool_model.proofs.Amounts.{grown_more, risen_more, fallen_less}

pub same_client : (old new : Trackers) → SameOutline old new → (c : ℕ) → IsClient old c → IsClient new c
same_client old new same c client = record { live = live_same old new same c client.live; deep = depth_same old new same c ∙ client.deep }

same_query : (old new : Trackers) → SameOutline old new → (t : ℕ) → IsQuery old t → IsQuery new t
same_query old new same t query =
    let its : (y : Tracker) × (get new t ≡ Some y) × (bare y ≡ bare query.tracker) = in_new old new same t query.tracker query.lives in
    record { tracker = its.0; lives = its.1; under = ap (λ (x : Tracker). x.parent) its.2 ∙ query.under }

-- other reservations of the same tree
reseated : (bytes : ℕ) (old new : Trackers) (sessions : Sessions) → SameOutline old new → FitsTree (λ _. 0) new → IsSeated bytes old sessions → IsSeated bytes new sessions
reseated bytes old new sessions same fits seated = record {
  tree = tree_same old new same seated.tree;
  children_fit = fits;
  low = λ t y is.
      let was : (x : Tracker) × (get old t ≡ Some x) × (bare x ≡ bare y) = in_old old new same t y is in
      subst (λ (n : ℕ). n ≤ 2) (ap (λ (x : Tracker). x.depth) was.2) (seated.low t was.0 was.1);
  top = limit_same old new same 0 ∙ seated.top;
  seats = λ maker x is. same_query old new same x.query (seated.seats maker x is);
  apart = seated.apart;
}

reowned : (old new : Trackers) (pages : Pages) (buffers : Buffers) (next_name : ℕ) → SameOutline old new → IsOwned old pages buffers next_name → IsOwned new pages buffers next_name
reowned old new pages buffers next_name same owned = record {
  page_clients = λ p x is. same_client old new same x.client (owned.page_clients p x is);
  buffer_clients = λ f x is. same_client old new same x.client (owned.buffer_clients f x is);
  names = owned.names;
  pins = owned.pins;
}

deep_lives : (o : Option Tracker) → (unwrap_or o no_tracker).depth ≡ 2 → IsSome o
deep_lives None deep = absurd (omega (arith, deep))
deep_lives (Some x) deep = refl

-- a tracker is a client's, or it isn't
pub client_or_not : (ts : Trackers) (t : ℕ) (goal : Type 0) → (IsClient ts t → goal) → ((IsClient ts t → ⊥) → goal) → goal
client_or_not ts t goal client other = elim (same_or_other (depth_of ts t) 2) [
  | inl deep ↦ client (record { live = deep_lives (get ts t) deep; deep = deep })
  | inr shallow ↦ other (λ it. shallow it.deep)
]

module _ (s : State) (sound : IsSound s) where
  rest_holds_nothing : (t : ℕ) → (IsClient s.trackers t → ⊥) → held_by s t ≡ 0
  rest_holds_nothing t other = not_client s.trackers s.pages s.buffers s.next_name s.block_len t sound.owned other

  -- other reservations, under which all fit
  refit : (new : Trackers) → SameOutline s.trackers new → FitsTree (charge_of s) new → ((c : ℕ) → IsClient s.trackers c → held_by s c ≤ reservation_of new c) → IsSound (with_trackers new s)
  refit new same fits held = record {
    seated = reseated (memory s) s.trackers new s.sessions same
        (λ t live. let was : Fits (charge_of s) new t = fits t live in record { within = omega (arith, was.within); below = was.below }) sound.seated;
    owned = reowned s.trackers new s.pages s.buffers s.next_name same sound.owned;
    within = record {
      held = λ t. client_or_not s.trackers t (held_by s t ≤ reservation_of new t) (held t) (λ other.
          let none : held_by s t ≡ 0 = rest_holds_nothing t other in
          omega (arith, none));
      memory = sound.within.memory;
    };
  }

  pub grow_sound : (t bytes : ℕ) → IsLive s.trackers t → grow_refusal (charge_of s) bytes t s.trackers ≡ None → IsSound (with_trackers (grow (charge_of s) bytes t s.trackers) s)
  unfolding grow grow_refusal
  grow_sound t bytes live none =
      let x : (y : Tracker) × (get s.trackers t ≡ Some y) = found (get s.trackers t) live in
      let lifted = grown-lifts (charge_of s) s.trackers sound.seated.tree (fits_tree s sound) (depth_of s.trackers t) bytes t x.0 x.1 refl none in
      refit (grow (charge_of s) bytes t s.trackers) lifted.0.outline lifted.0.fits (λ c client.
      let was : held_by s c ≤ reservation_of s.trackers c = sound.within.held c in
      let more : reservation_of s.trackers c ≤ reservation_of (grow (charge_of s) bytes t s.trackers) c = grown_more (charge_of s) s.trackers (suc (depth_of s.trackers t)) bytes t c in
      omega (arith, was, more))

  -- what a client holds still fits where one tracker that can lose bytes has lost them
  still_fits : (t bytes : ℕ) → CanLose s t bytes → (now : ℕ → ℕ) → ((c : ℕ) → depth_of s.trackers t ≤ depth_of s.trackers c → reservation_of s.trackers c ≤ now c + only_if (c == t) bytes)
      → IsLive s.trackers t → (c : ℕ) → IsClient s.trackers c → held_by s c ≤ now c
  still_fits t bytes spare now less live c client =
      let x : (y : Tracker) × (get s.trackers t ≡ Some y) = found (get s.trackers t) live in
      let low : depth_of s.trackers t ≤ 2 = subst (λ (o : Option Tracker). (unwrap_or o no_tracker).depth ≤ 2) (sym x.1) (sound.seated.low t x.0 x.1) in
      let deep : depth_of s.trackers c ≡ 2 = client.deep in
      let fell : reservation_of s.trackers c ≤ now c + only_if (c == t) bytes = less c (omega (arith, low, deep)) in
      let was : held_by s c ≤ reservation_of s.trackers c = sound.within.held c in
      elim (same_or_other c t) [
        | inl here ↦
            let all : only_if (c == t) bytes ≡ bytes = ap (λ (d : ℕ). only_if (d == t) bytes) here ∙ mine t bytes in
            let room : held_by s c + bytes ≤ reservation_of s.trackers c =
            subst (λ (d : ℕ). held_by s d + bytes ≤ reservation_of s.trackers d) (sym here) (spare.held (subst (IsClient s.trackers) here client)) in
            omega (arith, all, room, fell)
        | inr other ↦
            let none : only_if (c == t) bytes ≡ 0 = not_mine c t bytes other in
            omega (arith, none, was, fell)
      ]

  pub shrink_sound : (t bytes : ℕ) → IsLive s.trackers t → CanLose s t bytes → IsSound (with_trackers (shrink bytes t s.trackers) s)
  unfolding shrink
  shrink_sound t bytes live spare =
      let x : (y : Tracker) × (get s.trackers t ≡ Some y) = found (get s.trackers t) live in
      let fell = falls_whole (charge_of s) (depth_of s.trackers t) bytes t s.trackers x.0 sound.seated.tree (fits_tree s sound) x.1 spare.unused refl in
      refit (shrink bytes t s.trackers) fell.outline fell.fits
      (still_fits t bytes spare (reservation_of (shrink bytes t s.trackers))
      (fallen_less (suc (depth_of s.trackers t)) bytes t s.trackers x.0 sound.seated.tree x.1 (depth_of s.trackers t) refl (omega arith)) live)

  pub move_sound : (src dst bytes : ℕ) → IsLive s.trackers src → IsLive s.trackers dst → CanLose s src bytes → move_refusal bytes src dst s.trackers ≡ None → IsSound (with_trackers (move_to bytes src dst s.trackers) s)
  unfolding move_to move_refusal
  move_sound src dst bytes live live_dst spare none =
      let ts : Trackers = s.trackers in
      let x : (y : Tracker) × (get s.trackers src ≡ Some y) = found (get s.trackers src) live in
      let falling : ℕ = levels_below s.trackers (ancestor_of s.trackers src dst) src in
      let rising : ℕ = levels_below s.trackers (ancestor_of s.trackers src dst) dst in
      let fell : Trackers = fallen falling bytes src s.trackers in
      let far : falling ≤ depth_of s.trackers src = omega arith in
      let down : Fallen (charge_of s) s.trackers fell × _ = falls_to (charge_of s) falling bytes src s.trackers x.0 sound.seated.tree (fits_tree s sound) x.1 spare.unused far in
      let can : CanMove (charge_of s) fell rising bytes dst = move_step (charge_of s) s.trackers sound.seated.tree (fits_tree s sound) bytes src dst falling rising live live_dst refl refl spare.unused none in
      let y : (z : Tracker) × (get fell dst ≡ Some z) = found (get fell dst) can.live in
      let lifted = risen-lifts (charge_of s) fell (tree_same s.trackers fell down.0.outline sound.seated.tree) down.0.fits rising bytes dst y.0 y.1 can.far can.spare can.none in
      refit (risen rising bytes dst fell) (then_same s.trackers fell (risen rising bytes dst fell) down.0.outline lifted.0.outline) lifted.0.fits
      (still_fits src bytes spare (reservation_of (risen rising bytes dst fell))
      (λ c below.
      let less : reservation_of s.trackers c ≤ reservation_of fell c + only_if (c == src) bytes =
      fallen_less falling bytes src s.trackers x.0 sound.seated.tree x.1 (depth_of s.trackers src) refl (omega (arith, far)) c below in
      let more : reservation_of fell c ≤ reservation_of (risen rising bytes dst fell) c = risen_more rising bytes dst fell c in
      omega (arith, less, more)) live)
