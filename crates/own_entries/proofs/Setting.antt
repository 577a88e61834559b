-- What changes where one reservation is set, and what doesn't.
use Rattle.std.proofs.Common.{◌≡◌, ◌≢◌, ℕ, ◌+◌, Bool, true, false, if◌then◌else◌, Option, Some, None, unwrap_or, refl, sym, ap, ◌∙◌, subst, arith, inl, inr}
use Rattle.std.specs.FinMap.{get}
use Rattle.reservation_tree.specs.Total.{total, weight_at}
use Rattle.reservation_tree.specs.Tracker.{Tracker, Trackers, no_tracker, tracker_at, reservation_of, limit_of, depth_of, parent_of, share_of, children_of}
use Rattle.reservation_tree.specs.Change.{set_reservation}
use Rattle.reservation_tree.proofs.Maps.{get_same, get_other, same_or_other}
use Rattle.reservation_tree.proofs.Sums.{total-insert}
use Rattle.reservation_tree.proofs.Shares.{children-insert}
use Rattle.pool_model.specs.Bytes.{only_if}
use Rattle.own_entries.specs.LiveParts.{is_parent, is_under, count_under}

-- to set a reservation changes neither who stands under whom nor a limit nor a number
module _ (ts : Trackers) (t bytes : ℕ) where
  abbrev now : Trackers
  now = set_reservation bytes t ts

  at_here : tracker_at now t ≡ record (tracker_at ts t) { reservation = bytes }
  at_here = ap (λ (o : Option Tracker). unwrap_or o no_tracker) (get_same ts t _)

  at_there : (q : ℕ) → q ≢ t → tracker_at now q ≡ tracker_at ts q
  at_there q apart = ap (λ (o : Option Tracker). unwrap_or o no_tracker) (get_other ts t _ q apart)

  by_tracker : {X : Type 0} (f : Tracker → X) → ((y : Tracker) (n : ℕ) → f (record y { reservation = n }) ≡ f y) → (q : ℕ) → f (tracker_at now q) ≡ f (tracker_at ts q)
  by_tracker f blind q = elim (same_or_other q t) [
    | inl here ↦ subst (λ (r : ℕ). f (tracker_at now r) ≡ f (tracker_at ts r)) (sym here) (ap f at_here ∙ blind (tracker_at ts t) bytes)
    | inr apart ↦ ap f (at_there q apart)
  ]

  pub limit_stays : (q : ℕ) → limit_of now q ≡ limit_of ts q
  limit_stays = by_tracker (λ y. y.limit) (λ y n. refl)

  pub depth_stays : (q : ℕ) → depth_of now q ≡ depth_of ts q
  depth_stays = by_tracker (λ y. y.depth) (λ y n. refl)

  pub parent_stays : (q : ℕ) → parent_of now q ≡ parent_of ts q
  parent_stays = by_tracker (λ y. unwrap_or y.parent 0) (λ y n. refl)

  pub reservation_here : reservation_of now t ≡ bytes
  reservation_here = ap (λ (y : Tracker). y.reservation) at_here

  pub reservation_there : (q : ℕ) → q ≢ t → reservation_of now q ≡ reservation_of ts q
  reservation_there q apart = ap (λ (y : Tracker). y.reservation) (at_there q apart)

  under_at : (query : ℕ) (o : Option Tracker) → is_under query o ≡ is_parent query (unwrap_or o no_tracker).parent
  under_at query None = refl
  under_at query (Some y) = refl

  pub under_stays : (query q : ℕ) → is_under query (get now q) ≡ is_under query (get ts q)
  under_stays query q = under_at query (get now q) ∙ by_tracker (λ y. is_parent query y.parent) (λ y n. refl) q ∙ sym (under_at query (get ts q))

  counted_at : (query : ℕ) (o : Option Tracker) → weight_at (λ _ y. only_if (is_parent query y.parent) 1) t o ≡ only_if (is_parent query (unwrap_or o no_tracker).parent) 1
  counted_at query None = refl
  counted_at query (Some y) = refl

  pub count_stays : (query : ℕ) → count_under query now ≡ count_under query ts
  unfolding count_under
  count_stays query =
      let w : ℕ → Tracker → ℕ = λ _ y. only_if (is_parent query y.parent) 1 in
      let sum : total w now + weight_at w t (get ts t) ≡ total w ts + only_if (is_parent query (tracker_at ts t).parent) 1 = total-insert w ts t (record (tracker_at ts t) { reservation = bytes }) in
      let old : weight_at w t (get ts t) ≡ only_if (is_parent query (tracker_at ts t).parent) 1 = counted_at query (get ts t) in
      omega (arith, sum, old)

  shared_at : (query : ℕ) (o : Option Tracker) → weight_at (λ _ y. share_of query y.parent y.reservation) t o ≡ share_of query (unwrap_or o no_tracker).parent (unwrap_or o no_tracker).reservation
  shared_at query None = refl
  shared_at query (Some y) = refl

  -- what stands under a tracker changes with it
  pub children_change : (query : ℕ) → children_of now query + share_of query (tracker_at ts t).parent (reservation_of ts t) ≡ children_of ts query + share_of query (tracker_at ts t).parent bytes
  children_change query =
      let sum = children-insert ts t (record (tracker_at ts t) { reservation = bytes }) query in
      let old : weight_at (λ _ y. share_of query y.parent y.reservation) t (get ts t) ≡ share_of query (tracker_at ts t).parent (reservation_of ts t) = shared_at query (get ts t) in
      omega (arith, sum, old)

shared_all : (query n : ℕ) (o : Option ℕ) → is_parent query o ≡ true → share_of query o n ≡ n
shared_all query n None is = cc
shared_all query n (Some p) is = ap (λ (b : Bool). if b then n else 0) is

shared_none : (query n : ℕ) (o : Option ℕ) → is_parent query o ≡ false → share_of query o n ≡ 0
shared_none query n None is = refl
shared_none query n (Some p) is = ap (λ (b : Bool). if b then n else 0) is

module _ (ts : Trackers) (t bytes query : ℕ) where
  own_parent : (b : Bool) → is_under query (get ts t) ≡ b → is_parent query (tracker_at ts t).parent ≡ b
  own_parent b is = sym (under_at ts t bytes query (get ts t)) ∙ is

  -- a child's reservation is this now
  pub child_set : is_under query (get ts t) ≡ true → children_of (set_reservation bytes t ts) query + reservation_of ts t ≡ children_of ts query + bytes
  child_set is =
      let sum = children_change ts t bytes query in
      let a : share_of query (tracker_at ts t).parent (reservation_of ts t) ≡ reservation_of ts t = shared_all query (reservation_of ts t) _ (own_parent true is) in
      let b : share_of query (tracker_at ts t).parent bytes ≡ bytes = shared_all query bytes _ (own_parent true is) in
      omega (arith, sum, a, b)

  -- no child's is
  pub other_set : is_under query (get ts t) ≡ false → children_of (set_reservation bytes t ts) query ≡ children_of ts query
  other_set is =
      let sum = children_change ts t bytes query in
      let a : share_of query (tracker_at ts t).parent (reservation_of ts t) ≡ 0 = shared_none query (reservation_of ts t) _ (own_parent false is) in
      let b : share_of query (tracker_at ts t).parent bytes ≡ 0 = shared_none query bytes _ (own_parent false is) in
      omega (arith, sum, a, b)
