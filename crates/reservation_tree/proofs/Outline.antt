-- What a change of reservations leaves: who is live, under whom, how deep, with which limit.
use Rattle.std.proofs.Common.{◌≡◌, ℕ, ◌+◌, ◌≢◌, Option, Some, None, is_some, option_map, unwrap_or, refl, ap, sym, ◌∙◌, subst, inl, inr}
use Rattle.std.specs.FinMap.{get}
use Rattle.reservation_tree.specs.Tracker.{Tracker, Trackers, IsLive, no_tracker, tracker_at, reservation_of, limit_of, depth_of, parent_of, Hangs, IsTree}
use Rattle.reservation_tree.specs.Change.{set_reservation}
use Rattle.reservation_tree.proofs.Maps.{get_same, get_other, same_or_other, found}

-- a tracker but for its reservation
abbrev pub bare : Tracker → Tracker
bare x = record x { reservation = 0 }

abbrev pub outline : Trackers → ℕ → Option Tracker
outline ts t = option_map bare (get ts t)

-- only reservations differ
abbrev pub SameOutline : Trackers → Trackers → Type 0
SameOutline old new = (t : ℕ) → outline new t ≡ outline old t

pub tracker_is : (ts : Trackers) (t : ℕ) (x : Tracker) → get ts t ≡ Some x → tracker_at ts t ≡ x
tracker_is ts t x is = ap (λ (o : Option Tracker). unwrap_or o no_tracker) is

pub reservation_is : (ts : Trackers) (t : ℕ) (x : Tracker) → get ts t ≡ Some x → reservation_of ts t ≡ x.reservation
reservation_is ts t x is = ap (λ (y : Tracker). y.reservation) (tracker_is ts t x is)

pub limit_is : (ts : Trackers) (t : ℕ) (x : Tracker) → get ts t ≡ Some x → limit_of ts t ≡ x.limit
limit_is ts t x is = ap (λ (y : Tracker). y.limit) (tracker_is ts t x is)

pub depth_is : (ts : Trackers) (t : ℕ) (x : Tracker) → get ts t ≡ Some x → depth_of ts t ≡ x.depth
depth_is ts t x is = ap (λ (y : Tracker). y.depth) (tracker_is ts t x is)

pub parent_is : (ts : Trackers) (t : ℕ) (x : Tracker) (p : ℕ) → get ts t ≡ Some x → x.parent ≡ Some p → parent_of ts t ≡ p
parent_is ts t x p is under = ap (λ (y : Tracker). unwrap_or y.parent 0) (tracker_is ts t x is) ∙ ap (λ (o : Option ℕ). unwrap_or o 0) under

bared : (o : Option Tracker) → bare (unwrap_or o no_tracker) ≡ unwrap_or (option_map bare o) no_tracker
bared None = refl
bared (Some x) = refl

bare_same : (old new : Trackers) → SameOutline old new → (t : ℕ) → bare (tracker_at new t) ≡ bare (tracker_at old t)
bare_same old new same t = bared (get new t) ∙ ap (λ (o : Option Tracker). unwrap_or o no_tracker) (same t) ∙ sym (bared (get old t))

pub depth_same : (old new : Trackers) → SameOutline old new → (t : ℕ) → depth_of new t ≡ depth_of old t
depth_same old new same t = ap (λ (x : Tracker). x.depth) (bare_same old new same t)

pub limit_same : (old new : Trackers) → SameOutline old new → (t : ℕ) → limit_of new t ≡ limit_of old t
limit_same old new same t = ap (λ (x : Tracker). x.limit) (bare_same old new same t)

pub parent_same : (old new : Trackers) → SameOutline old new → (t : ℕ) → parent_of new t ≡ parent_of old t
parent_same old new same t = ap (λ (x : Tracker). unwrap_or x.parent 0) (bare_same old new same t)

somes : (o : Option Tracker) → is_some (option_map bare o) ≡ is_some o
somes None = refl
somes (Some x) = refl

pub live_same : (old new : Trackers) → SameOutline old new → (t : ℕ) → IsLive old t → IsLive new t
live_same old new same t live = sym (somes (get new t)) ∙ ap is_some (same t) ∙ somes (get old t) ∙ live

pub live_back : (old new : Trackers) → SameOutline old new → (t : ℕ) → IsLive new t → IsLive old t
live_back old new same t live = sym (somes (get old t)) ∙ ap is_some (sym (same t)) ∙ somes (get new t) ∙ live

-- a live tracker of the one and the same of the other
pub counterpart : (o : Option Tracker) (x : Tracker) → Some (bare x) ≡ option_map bare o → (y : Tracker) × (o ≡ Some y) × (bare y ≡ bare x)
counterpart None x is = cc
counterpart (Some y) x is = (y, refl, ap (λ (r : Option Tracker). unwrap_or r no_tracker) (sym is))

pub in_new : (old new : Trackers) → SameOutline old new → (t : ℕ) (x : Tracker) → get old t ≡ Some x
    → (y : Tracker) × (get new t ≡ Some y) × (bare y ≡ bare x)
in_new old new same t x is = counterpart (get new t) x (sym (same t ∙ ap (option_map bare) is))

pub in_old : (old new : Trackers) → SameOutline old new → (t : ℕ) (y : Tracker) → get new t ≡ Some y
    → (x : Tracker) × (get old t ≡ Some x) × (bare x ≡ bare y)
in_old old new same t y is = counterpart (get old t) y (sym (sym (same t) ∙ ap (option_map bare) is))

hangs_too : (old new : Trackers) → SameOutline old new → (t depth : ℕ) (parent : Option ℕ) → Hangs old t depth parent → Hangs new t depth parent
hangs_too old new same t depth None h = h
hangs_too old new same t depth (Some p) h =
    let above = in_new old new same p h.0 h.1 in
    let deep : above.0.depth ≡ h.0.depth = ap (λ (x : Tracker). x.depth) above.2 in
    (above.0, above.1, h.2 ∙ ap (λ (n : ℕ). n + 1) (sym deep))

pub tree_same : (old new : Trackers) → SameOutline old new → IsTree old → IsTree new
tree_same old new same tree = record {
  root = live_same old new same 0 tree.root;
  hangs = λ t y is.
      let was = in_old old new same t y is in
      let deep : was.0.depth ≡ y.depth = ap (λ (x : Tracker). x.depth) was.2 in
      let under : was.0.parent ≡ y.parent = ap (λ (x : Tracker). x.parent) was.2 in
      subst (λ (o : Option ℕ). Hangs new t y.depth o) under
      (subst (λ (d : ℕ). Hangs new t d was.0.parent) deep
      (hangs_too old new same t was.0.depth was.0.parent (tree.hangs t was.0 was.1)));
}

-- the tracker after its reservation was set
pub set_here : (ts : Trackers) (t bytes : ℕ) (x : Tracker) → get ts t ≡ Some x → get (set_reservation bytes t ts) t ≡ Some (record x { reservation = bytes })
set_here ts t bytes x is = get_same ts t _ ∙ ap (λ (y : Tracker). Some (record y { reservation = bytes })) (tracker_is ts t x is)

pub set_there : (ts : Trackers) (t bytes q : ℕ) → q ≢ t → get (set_reservation bytes t ts) q ≡ get ts q
set_there ts t bytes q apart = get_other ts t _ q apart

pub set_outline : (ts : Trackers) (t bytes : ℕ) → IsLive ts t → SameOutline ts (set_reservation bytes t ts)
set_outline ts t bytes live q = elim (same_or_other q t) [
  | inl here ↦
      let it = found (get ts t) live in
      ap (outline (set_reservation bytes t ts)) here ∙ ap (option_map bare) (set_here ts t bytes it.0 it.1)
      ∙ sym (ap (option_map bare) it.1) ∙ ap (outline ts) (sym here)
  | inr there ↦ ap (option_map bare) (set_there ts t bytes q there)
]

pub same_outline : (ts : Trackers) → SameOutline ts ts
same_outline ts t = refl

pub then_same : (a b c : Trackers) → SameOutline a b → SameOutline b c → SameOutline a c
then_same a b c one two t = two t ∙ one t
