-- One rise and one fall of a tree that stands in rows.
use Rattle.std.proofs.Common.{◌≡◌, ℕ, ◌+◌, ◌-◌, ◌≤◌, ◌≢◌, Option, Some, None, ap, sym, ◌∙◌, subst, arith}
use Rattle.std.specs.FinMap as map
use Rattle.slab.specs.Slab.{Slab}
use Rattle.reservation_tree.specs.declared.row.Row.{Row}
use Rattle.reservation_tree.specs.Tracker.{Tracker, Trackers, IsLive, tracker_at, reservation_of, depth_of, room_of, share_of, children_of, unused, FitsTree, Hangs, IsTree}
use Rattle.reservation_tree.specs.Tree.{TreeState, charge_of}
use Rattle.reservation_tree.specs.Change.{raise, lower}
use Rattle.reservation_tree.specs.Rows.{state_in, IsSound, IsRowOf, Writes, with_reservation, with_children}
use Rattle.reservation_tree.proofs.Maps.{found, is_there}
use Rattle.reservation_tree.proofs.Outline.{tracker_is, depth_is}
use Rattle.reservation_tree.proofs.Shares.{share_here}
use Rattle.reservation_tree.proofs.Steps.{raise_fits, lower_fits, spare_at, children_raised, children_lowered}
use Rattle.reservation_tree.proofs.Writes.{After, written_under, written_root}

-- a state that rows stand for is a tree that fits
pub state_fits : (s : TreeState) (rows : Slab Row) → IsSound rows → state_in rows ≡ s → FitsTree (charge_of s) s.trackers
state_fits s rows sound view = subst (λ (state : TreeState). FitsTree (charge_of state) state.trackers) view sound.fits

pub state_tree : (s : TreeState) (rows : Slab Row) → IsSound rows → state_in rows ≡ s → IsTree s.trackers
state_tree s rows sound view = subst (λ (state : TreeState). IsTree state.trackers) view sound.tree

-- what a row says of the tracker above
pub record Under (ts : Trackers) (t p : ℕ) : Type 0 where
  pub parent : (tracker_at ts t).parent ≡ Some p
  pub live : IsLive ts p
  pub apart : p ≢ t

pub under_by : (s : TreeState) (t p : ℕ) (row : Row) → IsRowOf s t row → row.parent ≡ Some p → Under s.trackers t p
under_by s t p row of under =
    let hangs : Hangs s.trackers t row.depth (Some p) = subst (λ (o : Option ℕ). Hangs s.trackers t row.depth o) under of.hangs in
    let mine : depth_of s.trackers t ≡ row.depth = ap (λ (x : Tracker). x.depth) of.says in
    let y : Tracker = hangs.0 in
    let its : depth_of s.trackers p ≡ y.depth = depth_is s.trackers p y hangs.1 in
    let more : row.depth ≡ y.depth + 1 = hangs.2 in
    record {
      parent = ap (λ (x : Tracker). x.parent) of.says ∙ under;
      live = is_there (map.get s.trackers p) y hangs.1;
      apart = λ same. let one : depth_of s.trackers p ≡ depth_of s.trackers t = ap (depth_of s.trackers) same in omega (arith, one, mine, its, more);
    }

pub no_parent : (s : TreeState) (t : ℕ) (row : Row) → IsRowOf s t row → row.parent ≡ None → (tracker_at s.trackers t).parent ≡ None
no_parent s t row of under = ap (λ (x : Tracker). x.parent) of.says ∙ under

module _ (s : TreeState) (r0 : Slab Row) (sound : IsSound r0) (view : state_in r0 ≡ s) (t bytes : ℕ) (live : IsLive s.trackers t) (row : Row) (of : IsRowOf s t row) where
  has : reservation_of s.trackers t ≡ row.reservation
  has = ap (λ (x : Tracker). x.reservation) of.says

  pub raised_under : (r1 r2 : Slab Row) (p : ℕ) (above : Row) → row.parent ≡ Some p → IsRowOf s p above → bytes ≤ room_of s.trackers t → bytes ≤ unused (charge_of s) s.trackers p
      → Writes r0 r1 t (with_reservation (row.reservation + bytes)) → Writes r1 r2 p (with_children (above.children + bytes))
      → After r2 (record s { trackers = raise bytes t s.trackers })
  raised_under r1 r2 p above under over_it room spare one two =
      let place : Under s.trackers t p = under_by s t p row of under in
      let it : (x : Tracker) × (map.get s.trackers t ≡ Some x) = found (map.get s.trackers t) live in
      let x : Tracker = it.0 in
      let same : tracker_at s.trackers t ≡ x = tracker_is s.trackers t x it.1 in
      let its_parent : x.parent ≡ Some p = ap (λ (y : Tracker). y.parent) (sym same) ∙ place.parent in
      let asks : (q : ℕ) → share_of q x.parent bytes ≤ unused (charge_of s) s.trackers q = subst (λ (o : Option ℕ). (q : ℕ) → share_of q o bytes ≤ unused (charge_of s) s.trackers q) (sym its_parent) (spare_at (charge_of s) s.trackers p bytes spare) in
      let new : row.reservation + bytes ≡ reservation_of s.trackers t + bytes = ap (λ (n : ℕ). n + bytes) (sym has) in
      let all : share_of p x.parent bytes ≡ bytes = ap (λ (o : Option ℕ). share_of p o bytes) its_parent ∙ share_here p bytes in
      let sum : children_of (raise bytes t s.trackers) p ≡ children_of s.trackers p + share_of p x.parent bytes = children_raised (charge_of s) s.trackers t x it.1 bytes p in
      let kids : above.children ≡ children_of s.trackers p = over_it.children in
      let total_now : above.children + bytes ≡ children_of (raise bytes t s.trackers) p = omega (arith, all, sum, kids) in
      written_under s r0 r1 r2 sound view t p (reservation_of s.trackers t + bytes) (above.children + bytes) live place.live place.apart place.parent
      (subst (λ (n : ℕ). Writes r0 r1 t (with_reservation n)) new one) two total_now
      (raise_fits (charge_of s) s.trackers t x it.1 (state_fits s r0 sound view) bytes room asks)

  pub raised_root : (r1 : Slab Row) → row.parent ≡ None → bytes ≤ room_of s.trackers t → Writes r0 r1 t (with_reservation (row.reservation + bytes))
      → After r1 (record s { trackers = raise bytes t s.trackers })
  raised_root r1 under room one =
      let it : (x : Tracker) × (map.get s.trackers t ≡ Some x) = found (map.get s.trackers t) live in
      let x : Tracker = it.0 in
      let none : x.parent ≡ None = ap (λ (y : Tracker). y.parent) (sym (tracker_is s.trackers t x it.1)) ∙ no_parent s t row of under in
      let asks : (q : ℕ) → share_of q x.parent bytes ≤ unused (charge_of s) s.trackers q = λ q. let nothing : share_of q x.parent bytes ≡ 0 = ap (λ (o : Option ℕ). share_of q o bytes) none in omega (arith, nothing) in
      let new : row.reservation + bytes ≡ reservation_of s.trackers t + bytes = ap (λ (n : ℕ). n + bytes) (sym has) in
      written_root s r0 r1 sound view t (reservation_of s.trackers t + bytes) live (no_parent s t row of under)
      (subst (λ (n : ℕ). Writes r0 r1 t (with_reservation n)) new one)
      (raise_fits (charge_of s) s.trackers t x it.1 (state_fits s r0 sound view) bytes room asks)

  pub lowered_under : (r1 r2 : Slab Row) (p : ℕ) (above : Row) → row.parent ≡ Some p → IsRowOf s p above → bytes ≤ unused (charge_of s) s.trackers t
      → Writes r0 r1 t (with_reservation (row.reservation - bytes)) → Writes r1 r2 p (with_children (above.children - bytes))
      → After r2 (record s { trackers = lower bytes t s.trackers })
  lowered_under r1 r2 p above under over_it spare one two =
      let place : Under s.trackers t p = under_by s t p row of under in
      let it : (x : Tracker) × (map.get s.trackers t ≡ Some x) = found (map.get s.trackers t) live in
      let x : Tracker = it.0 in
      let its_parent : x.parent ≡ Some p = ap (λ (y : Tracker). y.parent) (sym (tracker_is s.trackers t x it.1)) ∙ place.parent in
      let few : bytes ≤ reservation_of s.trackers t = omega (arith, spare) in
      let new : row.reservation - bytes ≡ reservation_of s.trackers t - bytes = ap (λ (n : ℕ). n - bytes) (sym has) in
      let all : share_of p x.parent bytes ≡ bytes = ap (λ (o : Option ℕ). share_of p o bytes) its_parent ∙ share_here p bytes in
      let sum : children_of (lower bytes t s.trackers) p + share_of p x.parent bytes ≡ children_of s.trackers p = children_lowered (charge_of s) s.trackers t x it.1 bytes p few in
      let kids : above.children ≡ children_of s.trackers p = over_it.children in
      let total_now : above.children - bytes ≡ children_of (lower bytes t s.trackers) p = omega (arith, all, sum, kids) in
      written_under s r0 r1 r2 sound view t p (reservation_of s.trackers t - bytes) (above.children - bytes) live place.live place.apart place.parent
      (subst (λ (n : ℕ). Writes r0 r1 t (with_reservation n)) new one) two total_now
      (lower_fits (charge_of s) s.trackers t x it.1 (state_fits s r0 sound view) bytes spare)

  pub lowered_root : (r1 : Slab Row) → row.parent ≡ None → bytes ≤ unused (charge_of s) s.trackers t → Writes r0 r1 t (with_reservation (row.reservation - bytes))
      → After r1 (record s { trackers = lower bytes t s.trackers })
  lowered_root r1 under spare one =
      let it : (x : Tracker) × (map.get s.trackers t ≡ Some x) = found (map.get s.trackers t) live in
      let new : row.reservation - bytes ≡ reservation_of s.trackers t - bytes = ap (λ (n : ℕ). n - bytes) (sym has) in
      written_root s r0 r1 sound view t (reservation_of s.trackers t - bytes) live (no_parent s t row of under)
      (subst (λ (n : ℕ). Writes r0 r1 t (with_reservation n)) new one)
      (lower_fits (charge_of s) s.trackers t it.0 it.1 (state_fits s r0 sound view) bytes spare)

-- what a child's reservation is part of
pub child_within : (s : TreeState) (rows : Slab Row) → IsSound rows → state_in rows ≡ s → (t p bytes : ℕ) (above : Row) → IsLive s.trackers t → (tracker_at s.trackers t).parent ≡ Some p
    → IsRowOf s p above → bytes ≤ reservation_of s.trackers t → bytes ≤ above.children
child_within s rows sound view t p bytes above live under over_it few =
    let it : (x : Tracker) × (map.get s.trackers t ≡ Some x) = found (map.get s.trackers t) live in
    let its_parent : it.0.parent ≡ Some p = ap (λ (y : Tracker). y.parent) (sym (tracker_is s.trackers t it.0 it.1)) ∙ under in
    let all : share_of p it.0.parent bytes ≡ bytes = ap (λ (o : Option ℕ). share_of p o bytes) its_parent ∙ share_here p bytes in
    let sum : children_of (lower bytes t s.trackers) p + share_of p it.0.parent bytes ≡ children_of s.trackers p = children_lowered (charge_of s) s.trackers t it.0 it.1 bytes p few in
    let kids : above.children ≡ children_of s.trackers p = over_it.children in
    omega (arith, all, sum, kids)
