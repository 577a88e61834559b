-- A fall along a way, and a move from one tracker to another, keep the tree.
use Rattle.std.proofs.Common.{◌≡◌, ℕ, zero, suc, ◌+◌, ◌-◌, ◌≤◌, Bool, if◌then◌else◌, Option, Some, None, refl, ap, sym, ◌∙◌, subst, arith, le-leb, inl, inr}
use Rattle.std.specs.FinMap.{get}
use Rattle.reservation_tree.specs.Tracker.{Tracker, Trackers, reservation_of, limit_of, depth_of, parent_of, room_of, unused, FitsTree, IsTree}
use Rattle.reservation_tree.specs.Change.{up, Refusal, raise, lower, over, or_else, fallen, risen, risen_refusal}
use Rattle.reservation_tree.proofs.Maps.{is_there, same_or_other}
use Rattle.reservation_tree.proofs.Outline.{SameOutline, same_outline, then_same, set_outline, depth_same, parent_same, limit_same, tree_same, in_new, bare}
use Rattle.reservation_tree.proofs.Steps.{now_here, now_there, lower_fits, freed_above}
use Rattle.reservation_tree.proofs.Above.{Above, above}
use Rattle.reservation_tree.proofs.Growing.{Lifted, lift, has_room, not_first, not_later}

-- a fall leaves outlines and no more bytes
pub record Fallen (charge : ℕ → ℕ) (old new : Trackers) : Type 0 where
  pub outline : SameOutline old new
  pub fits : FitsTree charge new
  pub less : (q : ℕ) → reservation_of new q ≤ reservation_of old q

pub not_fallen : (charge : ℕ → ℕ) (ts : Trackers) → FitsTree charge ts → Fallen charge ts ts
not_fallen charge ts fits = record { outline = same_outline ts; fits = fits; less = λ q. omega arith }

pub falls_on : (charge : ℕ → ℕ) (a b c : Trackers) → Fallen charge a b → Fallen charge b c → Fallen charge a c
falls_on charge a b c one two = record {
  outline = then_same a b c one.outline two.outline;
  fits = two.fits;
  less = λ q.
      let first : reservation_of b q ≤ reservation_of a q = one.less q in
      let second : reservation_of c q ≤ reservation_of b q = two.less q in
      omega arith;
}

module _ (charge : ℕ → ℕ) (ts : Trackers) (t : ℕ) (x : Tracker) (is : get ts t ≡ Some x) where
  -- one tracker falls
  pub falls : FitsTree charge ts → (bytes : ℕ) → bytes ≤ unused charge ts t → Fallen charge ts (lower bytes t ts)
  falls fits bytes spare = record {
    outline = set_outline ts t (reservation_of ts t - bytes) (is_there (get ts t) x is);
    fits = lower_fits charge ts t x is fits bytes spare;
    less = λ q. elim (same_or_other q t) [
      | inl here ↦
          let has : reservation_of (lower bytes t ts) q ≡ reservation_of ts t - bytes = ap (reservation_of (lower bytes t ts)) here ∙ now_here charge ts t x is (reservation_of ts t - bytes) in
          let had : reservation_of ts q ≡ reservation_of ts t = ap (reservation_of ts) here in
          omega (arith, has, had)
      | inr there ↦
          let has : reservation_of (lower bytes t ts) q ≡ reservation_of ts q = now_there charge ts t x is (reservation_of ts t - bytes) q there in
          omega (arith, has)
    ];
  }

  -- and its parent has so much unused
  pub frees : IsTree ts → FitsTree charge ts → (bytes depth : ℕ) → bytes ≤ unused charge ts t → depth_of ts t ≡ suc depth → bytes ≤ unused charge (lower bytes t ts) (parent_of ts t)
  frees tree fits bytes depth spare deep =
      let over_it : Above ts t x depth = above ts tree t depth x is deep in
      let more : bytes + unused charge ts over_it.parent ≡ unused charge (lower bytes t ts) over_it.parent = freed_above charge ts t x is fits bytes over_it.parent spare over_it.under over_it.apart (is_there (get ts over_it.parent) over_it.tracker over_it.lives) in
      subst (λ (q : ℕ). bytes ≤ unused charge (lower bytes t ts) q) (sym over_it.named) (omega (arith, more))

pub up_same : (old new : Trackers) → SameOutline old new → (levels t : ℕ) → up new levels t ≡ up old levels t
up_same old new same zero t = refl
up_same old new same (suc levels) t = ap (up new levels) (parent_same old new same t) ∙ up_same old new same levels (parent_of old t)

parent_live : (ts : Trackers) → IsTree ts → (t : ℕ) (x : Tracker) → get ts t ≡ Some x → (depth : ℕ) → depth_of ts t ≡ suc depth → (y : Tracker) × (get ts (parent_of ts t) ≡ Some y) × (depth_of ts (parent_of ts t) ≡ depth)
parent_live ts tree t x is depth deep =
    let over_it : Above ts t x depth = above ts tree t depth x is deep in
    (over_it.tracker, ap (get ts) over_it.named ∙ over_it.lives, ap (depth_of ts) over_it.named ∙ over_it.deep)

-- so many levels fall: all keep fitting, and where the fall ended so much is unused
pub falls_to : (charge : ℕ → ℕ) (levels bytes t : ℕ) (ts : Trackers) (x : Tracker) → IsTree ts → FitsTree charge ts → get ts t ≡ Some x → bytes ≤ unused charge ts t → levels ≤ depth_of ts t
    → Fallen charge ts (fallen levels bytes t ts) × (bytes ≤ unused charge (fallen levels bytes t ts) (up ts levels t))
falls_to charge zero bytes t ts x tree fits is spare far = (not_fallen charge ts fits, spare)
falls_to charge (suc levels) bytes t ts x tree fits is spare far =
    let depth : ℕ = depth_of ts t - 1 in
    let deep : depth_of ts t ≡ suc depth = omega (arith, far) in
    let p : ℕ = parent_of ts t in
    let new : Trackers = lower bytes t ts in
    let one : Fallen charge ts new = falls charge ts t x is fits bytes spare in
    let over_it : (y : Tracker) × (get ts p ≡ Some y) × (depth_of ts p ≡ depth) = parent_live ts tree t x is depth deep in
    let its : (y : Tracker) × (get new p ≡ Some y) × (bare y ≡ bare over_it.0) = in_new ts new one.outline p over_it.0 over_it.1 in
    let high : depth_of new p ≡ depth_of ts p = depth_same ts new one.outline p in
    let high_is : depth_of ts p ≡ depth = over_it.2 in
    let rest : Fallen charge new (fallen levels bytes p new) × (bytes ≤ unused charge (fallen levels bytes p new) (up new levels p)) =
    falls_to charge levels bytes p new its.0 (tree_same ts new one.outline tree) one.fits its.1 (frees charge ts t x is tree fits bytes depth spare deep) (omega (arith, far, deep, high, high_is)) in (
      falls_on charge ts new (fallen levels bytes p new) one rest.0,
      subst (λ (q : ℕ). bytes ≤ unused charge (fallen levels bytes p new) q) (up_same ts new one.outline levels p) rest.1,
    )

-- the whole way falls
pub falls_whole : (charge : ℕ → ℕ) (depth bytes t : ℕ) (ts : Trackers) (x : Tracker) → IsTree ts → FitsTree charge ts → get ts t ≡ Some x → bytes ≤ unused charge ts t → depth_of ts t ≡ depth
    → Fallen charge ts (fallen (suc depth) bytes t ts)
falls_whole charge zero bytes t ts x tree fits is spare deep = falls charge ts t x is fits bytes spare
falls_whole charge (suc depth) bytes t ts x tree fits is spare deep =
    let p : ℕ = parent_of ts t in
    let new : Trackers = lower bytes t ts in
    let one : Fallen charge ts new = falls charge ts t x is fits bytes spare in
    let over_it : (y : Tracker) × (get ts p ≡ Some y) × (depth_of ts p ≡ depth) = parent_live ts tree t x is depth deep in
    let its : (y : Tracker) × (get new p ≡ Some y) × (bare y ≡ bare over_it.0) = in_new ts new one.outline p over_it.0 over_it.1 in
    falls_on charge ts new (fallen (suc depth) bytes p new) one
    (falls_whole charge depth bytes p new its.0 (tree_same ts new one.outline tree) one.fits its.1 (frees charge ts t x is tree fits bytes depth spare deep) (depth_same ts new one.outline p ∙ over_it.2))

-- so many levels rise, from where so much is unused
pub risen-lifts : (charge : ℕ → ℕ) (ts : Trackers) → IsTree ts → FitsTree charge ts → (levels bytes t : ℕ) (x : Tracker) → get ts t ≡ Some x → levels ≤ depth_of ts t
    → bytes ≤ unused charge ts (up ts levels t) → risen_refusal levels bytes t ts ≡ None
    → Lifted charge ts (risen levels bytes t ts) t × (bytes ≤ unused charge (risen levels bytes t ts) t)
risen-lifts charge ts tree fits zero bytes t x is far spare none =
    (record { outline = same_outline ts; fits = fits; still = λ q deep other. refl; children = λ q deep. refl }, spare)
risen-lifts charge ts tree fits (suc levels) bytes t x is far spare none =
    let depth : ℕ = depth_of ts t - 1 in
    let deep : depth_of ts t ≡ suc depth = omega (arith, far) in
    let over_it : Above ts t x depth = above ts tree t depth x is deep in
    let p : ℕ = over_it.parent in
    let its : depth_of ts p ≡ depth = over_it.deep in
    let none_above : risen_refusal levels bytes p ts ≡ None = subst (λ (q : ℕ). risen_refusal levels bytes q ts ≡ None) over_it.named (not_later (over ts bytes t) _ none) in
    let spare_above : bytes ≤ unused charge ts (up ts levels p) = subst (λ (q : ℕ). bytes ≤ unused charge ts (up ts levels q)) over_it.named spare in
    let rest : Trackers = risen levels bytes p ts in
    let was : Lifted charge ts rest p × (bytes ≤ unused charge rest p) = risen-lifts charge ts tree fits levels bytes p over_it.tracker over_it.lives (omega (arith, far, deep, its)) spare_above none_above in
    let up_one : Lifted charge ts (raise bytes t rest) t × (bytes + unused charge ts t ≡ unused charge (raise bytes t rest) t) =
    lift charge ts t x is rest p bytes over_it.under (omega (arith, its, deep)) was.0 (has_room ts bytes t (not_first _ _ none)) was.1 in
    let gained : bytes + unused charge ts t ≡ unused charge (raise bytes t rest) t = up_one.1 in
    let enough : bytes ≤ unused charge (raise bytes t rest) t = omega (arith, gained) in
    subst (λ (q : ℕ). Lifted charge ts (raise bytes t (risen levels bytes q ts)) t × (bytes ≤ unused charge (raise bytes t (risen levels bytes q ts)) t)) (sym over_it.named) (up_one.0, enough)

-- where bytes fell, the ways are as before and each room is no less
over_less : (old new : Trackers) (bytes t : ℕ) → SameOutline old new → reservation_of new t ≤ reservation_of old t → over old bytes t ≡ None → over new bytes t ≡ None
over_less old new bytes t same less none =
    let room : bytes ≤ room_of old t = has_room old bytes t none in
    let top : limit_of new t ≡ limit_of old t = limit_same old new same t in
    let now : bytes ≤ room_of new t = omega (arith, room, top, less) in
    ap (λ (b : Bool). if b then None else Some (record { tracker = t; wanted = bytes; room = room_of new t })) (le-leb bytes (room_of new t) now)

pub refusal_less : (charge : ℕ → ℕ) (old new : Trackers) → Fallen charge old new → (levels bytes t : ℕ) → risen_refusal levels bytes t old ≡ None → risen_refusal levels bytes t new ≡ None
refusal_less charge old new fell zero bytes t none = refl
refusal_less charge old new fell (suc levels) bytes t none =
    ap (λ (o : Option Refusal). or_else o (risen_refusal levels bytes (parent_of new t) new)) (over_less old new bytes t fell.outline (fell.less t) (not_first _ _ none))
    ∙ ap (λ (q : ℕ). risen_refusal levels bytes q new) (parent_same old new fell.outline t)
    ∙ refusal_less charge old new fell levels bytes (parent_of old t) (not_later (over old bytes t) _ none)
