-- What the rows of a tree say of its state.
use Rattle.std.proofs.Common.{◌≡◌, ℕ, zero, suc, ◌+◌, ◌<◌, ◌≤◌, ◌≢◌, Option, Some, None, is_some, option_map, unwrap_or, refl, ap, sym, ◌∙◌, subst, arith, Bool, true, false, eqb, if◌then◌else◌, ltb, ltb-true, lt-ltb, ne_eqb, eq-eqb, eqb-true, lt_of_lt_of_le}
use Rattle.std.specs.FinMap.{len}
use Rattle.std.specs.FinMap as map
use Rattle.slab.specs.Slab.{Slab, get, ContainsKey}
use Rattle.reservation_tree.specs.declared.row.Row.{Row}
use Rattle.reservation_tree.specs.Total.{total}
use Rattle.reservation_tree.specs.Tracker.{Tracker, Trackers, IsLive, depth_of, children_of, Fits, IsTree}
use Rattle.reservation_tree.specs.Tree.{TreeState, charge_of}
use Rattle.reservation_tree.specs.Rows.{tracker_in, used_in, trackers_in, state_in, IsSound, IsRowOf}
use Rattle.reservation_tree.proofs.Maps.{is_there}
use Rattle.reservation_tree.proofs.Sums.{total-plus, total-one, total-le, weight-le-total}
use Rattle.reservation_tree.proofs.Outline.{tracker_is, depth_is, reservation_is, limit_is}
use Rattle.reservation_tree.proofs.Above.{Above, above}
use Rattle.reservation_tree.proofs.Tables.{get-table, get-table-Some}

pub tracker_held : (rows : Slab Row) (t : ℕ) (row : Row) → get rows t ≡ Some row → map.get (trackers_in rows) t ≡ Some (tracker_in row)
tracker_held rows t row is = get-table-Some tracker_in rows t row is

pub charge_held : (rows : Slab Row) (t : ℕ) (row : Row) → get rows t ≡ Some row → charge_of (state_in rows) t ≡ row.used
charge_held rows t row is = ap (λ (o : Option ℕ). unwrap_or o 0) (get-table-Some used_in rows t row is)

some_row : (o : Option Row) → is_some (option_map tracker_in o) ≡ is_some o
some_row None = refl
some_row (Some row) = refl

-- a live tracker has a row, and a row is a live tracker's
pub has_row : (rows : Slab Row) (t : ℕ) → IsLive (trackers_in rows) t → ContainsKey rows t
has_row rows t live = sym (some_row (get rows t)) ∙ ap is_some (sym (get-table tracker_in rows t)) ∙ live

pub row_lives : (rows : Slab Row) (t : ℕ) (row : Row) → get rows t ≡ Some row → IsLive (trackers_in rows) t
row_lives rows t row is = is_there (map.get (trackers_in rows) t) (tracker_in row) (tracker_held rows t row is)

-- one for each tracker less deep than this, and one for each as deep
shallower : ℕ → ℕ → Tracker → ℕ
shallower depth _ x = if ltb x.depth depth then 1 else 0

as_deep : ℕ → ℕ → Tracker → ℕ
as_deep depth _ x = if eqb x.depth depth then 1 else 0

one_level : (n d : ℕ) → (if ltb n d then 1 else zero) + (if eqb n d then 1 else 0) ≤ (if ltb n (suc d) then 1 else 0)
one_level n d = elim (ltb n d) as (λ (b : Bool). ltb n d ≡ b → (if b then 1 else zero) + (if eqb n d then 1 else 0) ≤ (if ltb n (suc d) then 1 else 0)) [
  | true ↦ λ is.
      let low : n < d = ltb-true n d is in
      let apart : n ≢ d = λ same. omega (arith, low, same) in
      let below : n < suc d = omega (arith, low) in
      rw (ne_eqb n d apart, lt-ltb n (suc d) below) (omega arith)
  | false ↦ λ _. elim (eqb n d) as (λ (b : Bool). eqb n d ≡ b → zero + (if b then 1 else 0) ≤ (if ltb n (suc d) then 1 else 0)) [
    | true ↦ λ is.
        let same : n ≡ d = eqb-true n d is in
        let below : n < suc d = omega (arith, same) in
        rw (lt-ltb n (suc d) below) (omega arith)
    | false ↦ λ _. omega arith
  ] refl
] refl

at_most_one : (b : Bool) → (if b then 1 else 0) ≤ 1
at_most_one true = omega arith
at_most_one false = omega arith

mine : (depth t : ℕ) (x : Tracker) → x.depth ≡ depth → as_deep depth t x ≡ 1
unfolding as_deep
mine depth t x is = ap (λ (b : Bool). if b then 1 else 0) (eq-eqb x.depth depth is)

next_level : (d k : ℕ) (y : Tracker) → shallower d k y + as_deep d k y ≤ shallower (suc d) k y
unfolding shallower as_deep
next_level d k y = one_level y.depth d

module _ (ts : Trackers) (tree : IsTree ts) where
  levels_filled : (depth t : ℕ) (x : Tracker) → map.get ts t ≡ Some x → depth_of ts t ≡ depth → suc depth ≤ total (shallower (suc depth)) ts
  unfolding shallower
  levels_filled zero t x is deep =
      let low : x.depth < 1 = omega (arith, deep, depth_is ts t x is) in
      let one : shallower 1 t x ≡ 1 = ap (λ (b : Bool). if b then 1 else 0) (lt-ltb x.depth 1 low) in
      let some : shallower 1 t x ≤ total (shallower 1) ts = weight-le-total (shallower 1) ts t x is in
      omega (arith, one, some)
  levels_filled (suc depth) t x is deep =
      let over_it : Above ts t x depth = above ts tree t depth x is deep in
      let rest : suc depth ≤ total (shallower (suc depth)) ts = levels_filled depth over_it.parent over_it.tracker over_it.lives over_it.deep in
      let one : as_deep (suc depth) t x ≡ 1 = mine (suc depth) t x (sym (depth_is ts t x is) ∙ deep) in
      let some : as_deep (suc depth) t x ≤ total (as_deep (suc depth)) ts = weight-le-total (as_deep (suc depth)) ts t x is in
      let both : total (λ k y. shallower (suc depth) k y + as_deep (suc depth) k y) ts ≡ total (shallower (suc depth)) ts + total (as_deep (suc depth)) ts = total-plus (shallower (suc depth)) (as_deep (suc depth)) ts in
      let all : total (λ k y. shallower (suc depth) k y + as_deep (suc depth) k y) ts ≤ total (shallower (suc (suc depth))) ts = total-le _ (shallower (suc (suc depth))) ts (λ k y here. next_level (suc depth) k y) in
      omega (arith, rest, one, some, both, all)

  -- a tracker is less deep than there are trackers
  pub depth_below : (t : ℕ) (x : Tracker) → map.get ts t ≡ Some x → x.depth < len ts
  unfolding shallower
  depth_below t x is =
      let filled : suc (depth_of ts t) ≤ total (shallower (suc (depth_of ts t))) ts = levels_filled (depth_of ts t) t x is refl in
      let few : total (shallower (suc (depth_of ts t))) ts ≤ total (λ _ _. 1) ts = total-le (shallower (suc (depth_of ts t))) (λ _ _. 1) ts (λ k y _. at_most_one (ltb y.depth (suc (depth_of ts t)))) in
      omega (arith, filled, few, total-one ts, depth_is ts t x is)

pub row_says : (rows : Slab Row) (t : ℕ) (row : Row) → IsSound rows → get rows t ≡ Some row → IsRowOf (state_in rows) t row
row_says rows t row sound is =
    let it : map.get (trackers_in rows) t ≡ Some (tracker_in row) = tracker_held rows t row is in
    let fit : Fits (charge_of (state_in rows)) (trackers_in rows) t = sound.fits t (row_lives rows t row is) in
    let cost : charge_of (state_in rows) t ≡ row.used = charge_held rows t row is in
    let kids : row.children ≡ children_of (trackers_in rows) t = sound.sums t row is in
    record {
      says = tracker_is (trackers_in rows) t (tracker_in row) it;
      used = sym cost;
      children = kids;
      within = omega (arith, fit.within, cost, kids, reservation_is (trackers_in rows) t (tracker_in row) it);
      below = omega (arith, fit.below, reservation_is (trackers_in rows) t (tracker_in row) it, limit_is (trackers_in rows) t (tracker_in row) it);
      hangs = sound.tree.hangs t (tracker_in row) it;
      few = lt_of_lt_of_le (depth_below (trackers_in rows) sound.tree t (tracker_in row) it) sound.few;
    }

-- the row that is read is the tracker's
pub row_answers : (s : TreeState) (rows : Slab Row) (t : ℕ) (row : Row) → IsSound rows → state_in rows ≡ s → get rows t ≡ Some row → IsRowOf s t row
row_answers s rows t row sound view is = subst (λ (state : TreeState). IsRowOf state t row) view (row_says rows t row sound is)

-- a live tracker's row is there
pub row_there : (s : TreeState) (rows : Slab Row) (t : ℕ) → state_in rows ≡ s → IsLive s.trackers t → ContainsKey rows t
row_there s rows t view live = has_row rows t (subst (λ (state : TreeState). IsLive state.trackers t) (sym view) live)

-- a row that is there is a live tracker's
pub key_lives : (s : TreeState) (rows : Slab Row) (t : ℕ) → state_in rows ≡ s → ContainsKey rows t → IsLive s.trackers t
key_lives s rows t view has = subst (λ (state : TreeState). IsLive state.trackers t) view (ap is_some (get-table tracker_in rows t) ∙ some_row (get rows t) ∙ has)
