-- Rows that come, go or are charged: the state follows, and the rows stay sound.
use Rattle.std.proofs.Common.{◌≡◌, ℕ, ◌+◌, ◌<◌, ◌≤◌, ◌≢◌, List, [], Option, Some, None, is_some, count_by, unwrap_or, option_map, slice_index_or, refl, ap, sym, ◌∙◌, subst, arith, inl, inr}
use Rattle.std.specs.Ordering.{nat_cmp}
use Rattle.std.specs.FinMap as map
use Rattle.slab.specs.Slab.{Slab, get, Updates, slab_len}
use Rattle.reservation_tree.specs.declared.row.Row.{Row}
use Rattle.reservation_tree.specs.Tracker.{Tracker, Trackers, IsLive, reservation_of, depth_of, children_of, HasNoChild, Fits, FitsTree, IsTree, AreBelow}
use Rattle.reservation_tree.specs.Tree.{TreeState, charge_of, opened, set_charge, with_new, without}
use Rattle.reservation_tree.specs.Change.{new_root, root_alone, with_child}
use Rattle.reservation_tree.specs.Rows.{tracker_in, used_in, trackers_in, charges_in, state_in, IsSound, Writes, with_used}
use Rattle.reservation_tree.proofs.Maps.{same_or_other, found, get_same, get_other, removed_other, len_more, len_less}
use Rattle.reservation_tree.proofs.Numbers.{put_below, gone_below, root_below}
use Rattle.reservation_tree.proofs.Outline.{reservation_is}
use Rattle.reservation_tree.proofs.Tables.{table-put, table-gone, table-kept, table-empty, get-table}
use Rattle.reservation_tree.proofs.Held.{has_row}
use Rattle.reservation_tree.proofs.Members.{child_tree, child_sums, child_sum, child_fits, closed_tree, closed_sums, closed_fits, root_sums, root_tree, root_fits}
use Rattle.reservation_tree.proofs.Writes.{After, read_here, read_there}

-- the charge at a key that was set, and elsewhere
pub charge_here : (s : TreeState) (t bytes : ℕ) → charge_of (set_charge bytes t s) t ≡ bytes
charge_here s t bytes = ap (λ (o : Option ℕ). unwrap_or o 0) (get_same s.charges t bytes)

pub charge_there : (s : TreeState) (t bytes q : ℕ) → q ≢ t → charge_of (set_charge bytes t s) q ≡ charge_of s q
charge_there s t bytes q apart = ap (λ (o : Option ℕ). unwrap_or o 0) (get_other s.charges t bytes q apart)

-- a charge that fits keeps all
pub charge_fits : (s : TreeState) (t bytes : ℕ) → FitsTree (charge_of s) s.trackers → (IsLive s.trackers t → bytes + children_of s.trackers t ≤ reservation_of s.trackers t)
    → FitsTree (charge_of (set_charge bytes t s)) s.trackers
charge_fits s t bytes fits enough q live =
    let was : Fits (charge_of s) s.trackers q = fits q live in
    elim (same_or_other q t) [
      | inl here ↦
          let cost : charge_of (set_charge bytes t s) q ≡ bytes = ap (charge_of (set_charge bytes t s)) here ∙ charge_here s t bytes in
          let ok : bytes + children_of s.trackers q ≤ reservation_of s.trackers q = subst (λ (r : ℕ). bytes + children_of s.trackers r ≤ reservation_of s.trackers r) (sym here) (enough (subst (λ (r : ℕ). IsLive s.trackers r) here live)) in
          record { within = omega (arith, cost, ok); below = was.below }
      | inr there ↦
          let cost : charge_of (set_charge bytes t s) q ≡ charge_of s q = charge_there s t bytes q there in
          record { within = omega (arith, was.within, cost); below = was.below }
    ]

charged_in : (r0 r1 : Slab Row) → IsSound r0 → (t bytes : ℕ) → IsLive (trackers_in r0) t → bytes + children_of (trackers_in r0) t ≤ reservation_of (trackers_in r0) t
    → Writes r0 r1 t (with_used bytes) → After r1 (set_charge bytes t (state_in r0))
charged_in r0 r1 sound t bytes live enough one =
    let mine : (row : Row) × (get r0 t ≡ Some row) = found (get r0 t) (has_row r0 t live) in
    let up : Updates r0 r1 t (Some (with_used bytes mine.0)) = one.updates mine.0 mine.1 in
    let same : trackers_in r1 ≡ trackers_in r0 = table-kept tracker_in r0 r1 t (with_used bytes mine.0) mine.0 up mine.1 refl in
    let costs : charges_in r1 ≡ map.insert (charges_in r0) t bytes = table-put used_in r0 r1 t (with_used bytes mine.0) up in
    let state : state_in r1 ≡ set_charge bytes t (state_in r0) = λ i. record { trackers = same i; charges = costs i } in
    record {
      sound = record {
        tree = subst IsTree (sym same) sound.tree;
        fits = subst (λ (s : TreeState). FitsTree (charge_of s) s.trackers) (sym state) (charge_fits (state_in r0) t bytes sound.fits (λ _. enough));
        sums = λ q it is.
            let sum : it.children ≡ children_of (trackers_in r0) q = elim (same_or_other q t) [
              | inl here ↦ subst (λ (r : Row). r.children ≡ children_of (trackers_in r0) q) (read_here r0 r1 t q (with_used bytes mine.0) it up here is) (sound.sums t mine.0 mine.1 ∙ ap (children_of (trackers_in r0)) (sym here))
              | inr there ↦ sound.sums q it (read_there r0 r1 t q (with_used bytes mine.0) it up there is)
            ] in
            sum ∙ ap (λ (m : Trackers). children_of m q) (sym same);
        counted = one.len ∙ sound.counted ∙ ap map.len (sym same);
        few = subst (λ (m : Trackers). map.len m ≤ 4096) (sym same) sound.few;
        capacity = one.capacity ∙ sound.capacity;
        numbers = subst (AreBelow 4096) (sym same) sound.numbers;
      };
      state = state;
    }

-- a tracker's charge was set
pub charged : (s : TreeState) (r0 r1 : Slab Row) → IsSound r0 → state_in r0 ≡ s → (t bytes : ℕ) → IsLive s.trackers t → bytes + children_of s.trackers t ≤ reservation_of s.trackers t
    → Writes r0 r1 t (with_used bytes) → After r1 (set_charge bytes t s)
charged s r0 r1 sound view t bytes =
    subst (λ (state : TreeState). IsLive state.trackers t → bytes + children_of state.trackers t ≤ reservation_of state.trackers t
    → Writes r0 r1 t (with_used bytes) → After r1 (set_charge bytes t state)) view (charged_in r0 r1 sound t bytes)

-- what no row has is not live
pub not_live : (rows : Slab Row) (k : ℕ) → get rows k ≡ None → map.get (trackers_in rows) k ≡ None
not_live rows k none = get-table tracker_in rows k ∙ ap (option_map tracker_in) none

-- a row has come
module _ (r0 r1 : Slab Row) (sound : IsSound r0) (k p limit : ℕ) (row : Row) (live : IsLive (trackers_in r0) p) (none : get r0 k ≡ None) (up : Updates r0 r1 k (Some row))
    (says : tracker_in row ≡ record { parent = Some p; depth = depth_of (trackers_in r0) p + 1; limit = limit; reservation = 0 }) (free : row.used ≡ 0) (empty_sum : row.children ≡ 0)
    (count : slab_len r1 ≡ slab_len r0 + 1) (space : r1.capacity ≡ r0.capacity) (few : slab_len r0 < 4096) (low : k < 4096) where
  come_in : After r1 (with_new k p limit (state_in r0))
  come_in =
      let ts : Trackers = trackers_in r0 in
      let dead : map.get ts k ≡ None = not_live r0 k none in
      let now : trackers_in r1 ≡ with_child k p limit ts = table-put tracker_in r0 r1 k row up ∙ ap (map.insert ts k) says in
      let costs : charges_in r1 ≡ map.insert (charges_in r0) k 0 = table-put used_in r0 r1 k row up ∙ ap (map.insert (charges_in r0) k) free in
      let state : state_in r1 ≡ with_new k p limit (state_in r0) = λ i. record { trackers = now i; charges = costs i } in
      let as_many : map.len (trackers_in r1) ≡ map.len ts + 1 = ap map.len (table-put tracker_in r0 r1 k row up) ∙ len_more ts k (tracker_in row) dead in
      let old : ℕ → ℕ = charge_of (state_in r0) in
      let new : ℕ → ℕ = charge_of (with_new k p limit (state_in r0)) in
      record {
        sound = record {
          tree = subst IsTree (sym now) (child_tree old new ts sound.tree k p limit dead live);
          fits = subst (λ (s : TreeState). FitsTree (charge_of s) s.trackers) (sym state)
              (child_fits old new ts sound.tree k p limit dead live sound.fits (charge_here (state_in r0) k 0) (λ q apart. charge_there (state_in r0) k 0 q apart));
          sums = λ q it is.
              let sum : it.children ≡ children_of (with_child k p limit ts) q = elim (same_or_other q k) [
                | inl here ↦ subst (λ (r : Row). r.children ≡ children_of (with_child k p limit ts) q) (read_here r0 r1 k q row it up here is)
                    (empty_sum ∙ sym (child_sum old new ts sound.tree k p limit dead live) ∙ ap (children_of (with_child k p limit ts)) (sym here))
                | inr there ↦ sound.sums q it (read_there r0 r1 k q row it up there is) ∙ sym (child_sums old new ts sound.tree k p limit dead live q)
              ] in
              sum ∙ ap (λ (m : Trackers). children_of m q) (sym now);
          counted = count ∙ ap (λ (n : ℕ). n + 1) sound.counted ∙ sym as_many;
          few = omega (arith, few, sound.counted, as_many);
          capacity = space ∙ sound.capacity;
          numbers = subst (AreBelow 4096) (sym now) (put_below 4096 ts sound.numbers k low _);
        };
        state = state;
      }

-- a row has gone
module _ (r0 r1 : Slab Row) (sound : IsSound r0) (t : ℕ) (live : IsLive (trackers_in r0) t) (low : t ≢ 0) (nothing : reservation_of (trackers_in r0) t ≡ 0) (alone : HasNoChild (trackers_in r0) t)
    (up : Updates r0 r1 t None) (count : slab_len r1 + 1 ≡ slab_len r0) (space : r1.capacity ≡ r0.capacity) where
  gone_in : After r1 (without t (state_in r0))
  gone_in =
      let ts : Trackers = trackers_in r0 in
      let it : (x : Tracker) × (map.get ts t ≡ Some x) = found (map.get ts t) live in
      let none : it.0.reservation ≡ 0 = sym (reservation_is ts t it.0 it.1) ∙ nothing in
      let now : trackers_in r1 ≡ map.remove ts t = table-gone tracker_in r0 r1 t up in
      let costs : charges_in r1 ≡ map.remove (charges_in r0) t = table-gone used_in r0 r1 t up in
      let state : state_in r1 ≡ without t (state_in r0) = λ i. record { trackers = now i; charges = costs i } in
      let fewer : map.len (trackers_in r1) + 1 ≡ map.len ts = ap (λ (m : Trackers). map.len m + 1) now ∙ len_less ts t it.0 it.1 in
      let old : ℕ → ℕ = charge_of (state_in r0) in
      let new : ℕ → ℕ = charge_of (without t (state_in r0)) in
      record {
        sound = record {
          tree = subst IsTree (sym now) (closed_tree old new ts sound.tree t it.0 it.1 low none alone);
          fits = subst (λ (s : TreeState). FitsTree (charge_of s) s.trackers) (sym state)
              (closed_fits old new ts sound.tree t it.0 it.1 low none alone sound.fits (λ q apart. ap (λ (o : Option ℕ). unwrap_or o 0) (removed_other (charges_in r0) t q apart)));
          sums = λ q row is.
              let sum : row.children ≡ children_of (map.remove ts t) q = elim (same_or_other q t) [
                | inl here ↦
                    let no : None ≡ Some row = sym up.changed ∙ ap (get r1) (sym here) ∙ is in
                    cc
                | inr there ↦ sound.sums q row (sym (up.others q there) ∙ is) ∙ sym (closed_sums old new ts sound.tree t it.0 it.1 low none alone q)
              ] in
              sum ∙ ap (λ (m : Trackers). children_of m q) (sym now);
          counted = omega (arith, count, sound.counted, fewer);
          few = omega (arith, sound.few, fewer);
          capacity = space ∙ sound.capacity;
          numbers = subst (AreBelow 4096) (sym now) (gone_below 4096 ts sound.numbers t);
        };
        state = state;
      }

-- the first row
pub first_row : (r0 r1 : Slab Row) (limit : ℕ) (row : Row) → r0.slots ≡ [] → Updates r0 r1 0 (Some row) → tracker_in row ≡ new_root limit → row.used ≡ 0 → row.children ≡ 0
    → slab_len r1 ≡ slab_len r0 + 1 → r1.capacity ≡ 4096 → After r1 (opened limit)
first_row r0 r1 limit row clean up says free empty_sum count space =
    let none_yet : trackers_in r0 ≡ map.empty = table-empty tracker_in r0 clean in
    let now : trackers_in r1 ≡ root_alone limit = table-put tracker_in r0 r1 0 row up ∙ ap (λ (m : Trackers). map.insert m 0 (tracker_in row)) none_yet ∙ ap (map.insert map.empty 0) says in
    let costs : charges_in r1 ≡ map.insert map.empty 0 0 = table-put used_in r0 r1 0 row up ∙ ap (λ (m : map.FinMap nat_cmp ℕ). map.insert m 0 row.used) (table-empty used_in r0 clean) ∙ ap (map.insert map.empty 0) free in
    let state : state_in r1 ≡ opened limit = λ i. record { trackers = now i; charges = costs i } in
    let one_live : map.len (trackers_in r1) ≡ 1 = ap map.len now ∙ len_more map.empty 0 (new_root limit) (map.get-empty nat_cmp 0) ∙ ap (λ (n : ℕ). n + 1) (map.len-empty nat_cmp Tracker) in
    let one_row : slab_len r1 ≡ 1 = count ∙ ap (λ (slots : List (Option Row)). count_by is_some slots + 1) clean in
    record {
      sound = record {
        tree = subst IsTree (sym now) (root_tree limit);
        fits = subst (λ (s : TreeState). FitsTree (charge_of s) s.trackers) (sym state) (root_fits limit (charge_of (opened limit)) (ap (λ (o : Option ℕ). unwrap_or o 0) (get_same map.empty 0 0)));
        sums = λ q it is.
            let sum : it.children ≡ 0 = elim (same_or_other q 0) [
              | inl here ↦ subst (λ (r : Row). r.children ≡ 0) (read_here r0 r1 0 q row it up here is) empty_sum
              | inr there ↦
                  let no : None ≡ Some it = sym (ap (λ (slots : List (Option Row)). slice_index_or slots q None) clean) ∙ read_there r0 r1 0 q row it up there is in
                  cc
            ] in
            sum ∙ sym (root_sums limit q) ∙ ap (λ (m : Trackers). children_of m q) (sym now);
        counted = one_row ∙ sym one_live;
        few = omega (arith, one_live);
        capacity = space;
        numbers = subst (AreBelow 4096) (sym now) (root_below 4096 limit (omega arith));
      };
      state = state;
    }

pub come : (s : TreeState) (r0 r1 : Slab Row) → IsSound r0 → state_in r0 ≡ s → (k p limit : ℕ) (row : Row) → IsLive s.trackers p → get r0 k ≡ None → Updates r0 r1 k (Some row)
    → tracker_in row ≡ record { parent = Some p; depth = depth_of s.trackers p + 1; limit = limit; reservation = 0 } → row.used ≡ 0 → row.children ≡ 0
    → slab_len r1 ≡ slab_len r0 + 1 → r1.capacity ≡ r0.capacity → slab_len r0 < 4096 → k < 4096 → After r1 (with_new k p limit s)
come s r0 r1 sound view k p limit row =
    subst (λ (state : TreeState). IsLive state.trackers p → get r0 k ≡ None → Updates r0 r1 k (Some row)
    → tracker_in row ≡ record { parent = Some p; depth = depth_of state.trackers p + 1; limit = limit; reservation = 0 } → row.used ≡ 0 → row.children ≡ 0
    → slab_len r1 ≡ slab_len r0 + 1 → r1.capacity ≡ r0.capacity → slab_len r0 < 4096 → k < 4096 → After r1 (with_new k p limit state)) view (come_in r0 r1 sound k p limit row)

pub gone : (s : TreeState) (r0 r1 : Slab Row) → IsSound r0 → state_in r0 ≡ s → (t : ℕ) → IsLive s.trackers t → t ≢ 0 → reservation_of s.trackers t ≡ 0 → HasNoChild s.trackers t
    → Updates r0 r1 t None → slab_len r1 + 1 ≡ slab_len r0 → r1.capacity ≡ r0.capacity → After r1 (without t s)
gone s r0 r1 sound view t =
    subst (λ (state : TreeState). IsLive state.trackers t → t ≢ 0 → reservation_of state.trackers t ≡ 0 → HasNoChild state.trackers t
    → Updates r0 r1 t None → slab_len r1 + 1 ≡ slab_len r0 → r1.capacity ≡ r0.capacity → After r1 (without t state)) view (gone_in r0 r1 sound t)

-- as many rows as trackers
pub count_is : (s : TreeState) (rows : Slab Row) → IsSound rows → state_in rows ≡ s → slab_len rows ≡ map.len s.trackers
count_is s rows sound view = sound.counted ∙ ap (λ (state : TreeState). map.len state.trackers) view

pub count_few : (s : TreeState) (rows : Slab Row) → IsSound rows → state_in rows ≡ s → map.len s.trackers ≤ 4096
count_few s rows sound view = subst (λ (state : TreeState). map.len state.trackers ≤ 4096) view sound.few

pub none_live : (s : TreeState) (rows : Slab Row) → state_in rows ≡ s → (k : ℕ) → get rows k ≡ None → map.get s.trackers k ≡ None
none_live s rows view k none = ap (λ (state : TreeState). map.get state.trackers k) (sym view) ∙ not_live rows k none
