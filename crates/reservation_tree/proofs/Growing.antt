-- A growth that isn't refused keeps the tree.
use Rattle.std.proofs.Common.{◌≡◌, ℕ, zero, suc, ◌+◌, ◌-◌, ◌<◌, ◌≤◌, ◌≢◌, Bool, true, false, leb, if◌then◌else◌, Option, Some, None, refl, ap, sym, ◌∙◌, subst, arith, leb-true, unwrap_or, inl, inr, add-zero}
use Rattle.std.proofs.Math.Dec.{leb-zero}
use Rattle.std.specs.FinMap.{get}
use Rattle.reservation_tree.specs.Tracker.{Tracker, Trackers, no_tracker, reservation_of, depth_of, parent_of, room_of, share_of, children_of, unused, Fits, FitsTree, IsTree}
use Rattle.reservation_tree.specs.Change.{Refusal, raise, over, or_else, growth_above, grown, grown_refusal}
use Rattle.reservation_tree.proofs.Maps.{is_there, alike, same_or_other}
use Rattle.reservation_tree.proofs.Outline.{SameOutline, then_same, set_outline, set_here, set_there, reservation_is}
use Rattle.reservation_tree.proofs.Shares.{share_there}
use Rattle.reservation_tree.proofs.Steps.{now_here, children_raised, raise_fits, spare_at}
use Rattle.reservation_tree.proofs.Above.{Above, above, at_root}

-- what a way's rise leaves: all keep fitting, and but for `t` nothing as deep as it changed
pub record Lifted (charge : ℕ → ℕ) (old new : Trackers) (t : ℕ) : Type 0 where
  pub outline : SameOutline old new
  pub fits : FitsTree charge new
  pub still : (q : ℕ) → depth_of old t ≤ depth_of old q → q ≢ t → get new q ≡ get old q
  pub children : (q : ℕ) → depth_of old t ≤ depth_of old q → children_of new q ≡ children_of old q

pub not_first : (a b : Option Refusal) → or_else a b ≡ None → a ≡ None
not_first None b is = refl
not_first (Some r) b is = cc

pub not_later : (a b : Option Refusal) → or_else a b ≡ None → b ≡ None
not_later None b is = is
not_later (Some r) b is = cc

room_by : (bytes room : ℕ) (r : Refusal) (b : Bool) → leb bytes room ≡ b → (if b then None else Some r) ≡ None → bytes ≤ room
room_by bytes room r true is none = leb-true _ _ is
room_by bytes room r false is none = cc

-- no refusal is room
pub has_room : (ts : Trackers) (bytes t : ℕ) → over ts bytes t ≡ None → bytes ≤ room_of ts t
has_room ts bytes t none = room_by bytes (room_of ts t) (record { tracker = t; wanted = bytes; room = room_of ts t }) (leb bytes (room_of ts t)) refl none

module _ (charge : ℕ → ℕ) (ts : Trackers) (t : ℕ) (x : Tracker) (is : get ts t ≡ Some x) where
  -- a tracker rises once its parent has the bytes unused
  pub lift : (rest : Trackers) (p bytes : ℕ) → x.parent ≡ Some p → depth_of ts p < depth_of ts t → Lifted charge ts rest p
      → bytes ≤ room_of ts t → bytes ≤ unused charge rest p → Lifted charge ts (raise bytes t rest) t × (bytes + unused charge ts t ≡ unused charge (raise bytes t rest) t)
  lift rest p bytes under low was room spare =
      let apart : t ≢ p = λ same. let one : depth_of ts t ≡ depth_of ts p = ap (depth_of ts) same in omega (arith, one, low) in
      let old : get rest t ≡ get ts t = was.still t (omega (arith, low)) apart in
      let same : get rest t ≡ Some x = old ∙ is in
      let room_now : bytes ≤ room_of rest t = subst (λ (o : Option Tracker). bytes ≤ (unwrap_or o no_tracker).limit - (unwrap_or o no_tracker).reservation) (sym old) room in
      let asks : (q : ℕ) → share_of q x.parent bytes ≤ unused charge rest q = subst (λ (o : Option ℕ). (q : ℕ) → share_of q o bytes ≤ unused charge rest q) (sym under) (spare_at charge rest p bytes spare) in
      let kids : (q : ℕ) → depth_of ts t ≤ depth_of ts q → children_of (raise bytes t rest) q ≡ children_of ts q = λ q deep.
      let other : p ≢ q = λ here. let one : depth_of ts p ≡ depth_of ts q = ap (depth_of ts) here in omega (arith, one, low, deep) in
      let none : share_of q x.parent bytes ≡ 0 = ap (λ (o : Option ℕ). share_of q o bytes) under ∙ share_there q p bytes other in
      let sum : children_of (raise bytes t rest) q ≡ children_of rest q + share_of q x.parent bytes = children_raised charge rest t x same bytes q in
      let before : children_of rest q ≡ children_of ts q = was.children q (omega (arith, low, deep)) in
      omega (arith, none, sum, before) in
      let mine : Fits charge rest t = was.fits t (is_there (get rest t) x same) in
      let has : reservation_of (raise bytes t rest) t ≡ reservation_of rest t + bytes = now_here charge rest t x same (reservation_of rest t + bytes) in
      let had : reservation_of rest t ≡ reservation_of ts t = reservation_is rest t x same ∙ sym (reservation_is ts t x is) in
      let kept : children_of (raise bytes t rest) t ≡ children_of ts t = kids t (omega arith) in
      let kept_before : children_of rest t ≡ children_of ts t = was.children t (omega (arith, low)) in (
        record {
          outline = then_same ts rest (raise bytes t rest) was.outline (set_outline rest t (reservation_of rest t + bytes) (is_there (get rest t) x same));
          fits = raise_fits charge rest t x same was.fits bytes room_now asks;
          still = λ q deep other.
              set_there rest t (reservation_of rest t + bytes) q other
              ∙ was.still q (omega (arith, low, deep)) (λ here. let one : depth_of ts q ≡ depth_of ts p = ap (depth_of ts) here in omega (arith, one, low, deep));
          children = kids;
        },
        omega (arith, mine.within, has, had, kept, kept_before),
      )

  -- the root rises by itself
  pub lift_root : FitsTree charge ts → (bytes : ℕ) → x.parent ≡ None → bytes ≤ room_of ts t
      → Lifted charge ts (raise bytes t ts) t × (bytes + unused charge ts t ≡ unused charge (raise bytes t ts) t)
  lift_root fits bytes under room =
      let none : (q : ℕ) → share_of q x.parent bytes ≡ 0 = λ q. ap (λ (o : Option ℕ). share_of q o bytes) under in
      let kids : (q : ℕ) → children_of (raise bytes t ts) q ≡ children_of ts q = λ q.
      let sum : children_of (raise bytes t ts) q ≡ children_of ts q + share_of q x.parent bytes = children_raised charge ts t x is bytes q in
      omega (arith, sum, none q) in
      let mine : Fits charge ts t = fits t (is_there (get ts t) x is) in
      let has : reservation_of (raise bytes t ts) t ≡ reservation_of ts t + bytes = now_here charge ts t x is (reservation_of ts t + bytes) in
      let kept : children_of (raise bytes t ts) t ≡ children_of ts t = kids t in (
        record {
          outline = set_outline ts t (reservation_of ts t + bytes) (is_there (get ts t) x is);
          fits = raise_fits charge ts t x is fits bytes room (λ q. omega (arith, none q));
          still = λ q deep other. set_there ts t (reservation_of ts t + bytes) q other;
          children = λ q deep. kids q;
        },
        omega (arith, mine.within, has, kept),
      )

-- a growth that isn't refused: the tracker has so much more unused
pub grown-lifts : (charge : ℕ → ℕ) (ts : Trackers) → IsTree ts → FitsTree charge ts → (depth bytes t : ℕ) (x : Tracker) → get ts t ≡ Some x → depth_of ts t ≡ depth
    → grown_refusal charge ts (suc depth) bytes t ≡ None
    → Lifted charge ts (grown charge ts (suc depth) bytes t) t × (bytes + unused charge ts t ≡ unused charge (grown charge ts (suc depth) bytes t) t)
grown-lifts charge ts tree fits zero bytes t x is deep none =
    lift_root charge ts t x is fits bytes (at_root ts tree t x is deep).0 (has_room ts bytes t (not_first _ _ none))
grown-lifts charge ts tree fits (suc depth) bytes t x is deep none =
    let over_it : Above ts t x depth = above ts tree t depth x is deep in
    let p : ℕ = over_it.parent in
    let bytes_above : ℕ = bytes - unused charge ts p in
    let rest : Trackers = grown charge ts (suc depth) bytes_above p in
    let none_above : grown_refusal charge ts (suc depth) bytes_above p ≡ None =
    subst (λ (q : ℕ). grown_refusal charge ts (suc depth) (bytes - unused charge ts q) q ≡ None) over_it.named (not_later (over ts bytes t) _ none) in
    let was : Lifted charge ts rest p × (bytes_above + unused charge ts p ≡ unused charge rest p) = grown-lifts charge ts tree fits depth bytes_above p over_it.tracker over_it.lives over_it.deep none_above in
    let gained : (bytes - unused charge ts p) + unused charge ts p ≡ unused charge rest p = was.1 in
    let its : depth_of ts p ≡ depth = over_it.deep in
    subst (λ (q : ℕ). Lifted charge ts (raise bytes t (grown charge ts (suc depth) (bytes - unused charge ts q) q)) t
    × (bytes + unused charge ts t ≡ unused charge (raise bytes t (grown charge ts (suc depth) (bytes - unused charge ts q) q)) t)) (sym over_it.named)
    (lift charge ts t x is rest p bytes over_it.under (omega (arith, its, deep)) was.0 (has_room ts bytes t (not_first _ _ none)) (omega (arith, gained)))

-- a growth by nothing is nothing, and is never refused
nothing_over : (ts : Trackers) (t : ℕ) → over ts 0 t ≡ None
nothing_over ts t = ap (λ (b : Bool). if b then None else Some (record { tracker = t; wanted = 0; room = room_of ts t })) (leb-zero (room_of ts t))

pub raise-nothing : (ts : Trackers) (t : ℕ) (x : Tracker) → get ts t ≡ Some x → raise 0 t ts ≡ ts
raise-nothing ts t x is = alike (raise 0 t ts) ts (λ q. elim (same_or_other q t) [
  | inl here ↦
      let none : reservation_of ts t + 0 ≡ x.reservation = add-zero (reservation_of ts t) ∙ reservation_is ts t x is in
      ap (get (raise 0 t ts)) here ∙ set_here ts t (reservation_of ts t + 0) x is
      ∙ ap (λ (bytes : ℕ). Some (record x { reservation = bytes })) none ∙ sym is ∙ ap (get ts) (sym here)
  | inr there ↦ set_there ts t (reservation_of ts t + 0) q there
])

module _ (charge : ℕ → ℕ) (ts : Trackers) (tree : IsTree ts) where
  pub grown-nothing : (depth bytes t : ℕ) (x : Tracker) → get ts t ≡ Some x → depth_of ts t ≡ depth → bytes ≡ 0 → grown charge ts (suc depth) bytes t ≡ ts
  grown-nothing zero bytes t x is deep none = ap (λ (n : ℕ). raise n t ts) none ∙ raise-nothing ts t x is
  grown-nothing (suc depth) bytes t x is deep none =
      let over_it : Above ts t x depth = above ts tree t depth x is deep in
      let p : ℕ = over_it.parent in
      let above_none : bytes - unused charge ts p ≡ 0 = omega (arith, none) in
      let rest : grown charge ts (suc depth) (bytes - unused charge ts p) p ≡ ts = grown-nothing depth (bytes - unused charge ts p) p over_it.tracker over_it.lives over_it.deep above_none in
      subst (λ (q : ℕ). raise bytes t (grown charge ts (suc depth) (bytes - unused charge ts q) q) ≡ ts) (sym over_it.named)
      (ap (λ (m : Trackers). raise bytes t m) rest ∙ ap (λ (n : ℕ). raise n t ts) none ∙ raise-nothing ts t x is)

pub refused-nothing : (charge : ℕ → ℕ) (ts : Trackers) (levels bytes t : ℕ) → bytes ≡ 0 → grown_refusal charge ts levels bytes t ≡ None
refused-nothing charge ts zero bytes t none = refl
refused-nothing charge ts (suc levels) bytes t none =
    let above_none : growth_above charge ts bytes t ≡ 0 = omega (arith, none) in
    ap (λ (o : Option Refusal). or_else o (grown_refusal charge ts levels (growth_above charge ts bytes t) (parent_of ts t))) (ap (λ (n : ℕ). over ts n t) none ∙ nothing_over ts t)
    ∙ refused-nothing charge ts levels (growth_above charge ts bytes t) (parent_of ts t) above_none
