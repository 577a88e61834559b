-- When the rows of a tree are written, its state follows and its rows stay sound.
use Rattle.std.proofs.Common.{◌≡◌, ℕ, ◌≤◌, ◌≢◌, Option, Some, None, IsSome, is_some, unwrap_or, refl, ap, sym, ◌∙◌, subst, inl, inr}
use Rattle.std.specs.FinMap.{len}
use Rattle.std.specs.FinMap as map
use Rattle.slab.specs.Slab.{Slab, get, Updates, slab_len}
use Rattle.reservation_tree.specs.declared.row.Row.{Row}
use Rattle.reservation_tree.specs.Tracker.{Tracker, Trackers, IsLive, tracker_at, children_of, FitsTree, IsTree, AreBelow}
use Rattle.reservation_tree.specs.Tree.{TreeState, charge_of}
use Rattle.reservation_tree.specs.Change.{set_reservation}
use Rattle.reservation_tree.specs.Rows.{tracker_in, used_in, trackers_in, charges_in, state_in, AreSums, IsSound, Writes, with_reservation, with_children}
use Rattle.reservation_tree.proofs.Maps.{same_or_other, is_there, found, len_same}
use Rattle.reservation_tree.proofs.Numbers.{put_below}
use Rattle.reservation_tree.proofs.Outline.{tracker_is, set_outline, tree_same}
use Rattle.reservation_tree.proofs.Shares.{children_kept}
use Rattle.reservation_tree.proofs.Tables.{table-put, table-kept}
use Rattle.reservation_tree.proofs.Held.{tracker_held, row_lives, has_row}

-- the rows have these trackers now, the same charges, and true sums
pub record Changed (old new : Slab Row) (ts : Trackers) : Type 0 where
  pub trackers : trackers_in new ≡ ts
  pub charges : charges_in new ≡ charges_in old
  pub sums : AreSums new

same_row : (a b : Row) → Some a ≡ Some b → a ≡ b
same_row a b is = ap (λ (o : Option Row). unwrap_or o a) is

-- what stands at a key that was written, and elsewhere
pub read_here : (old new : Slab Row) (k q : ℕ) (v row : Row) → Updates old new k (Some v) → q ≡ k → get new q ≡ Some row → v ≡ row
read_here old new k q v row up here is = same_row v row (sym up.changed ∙ ap (get new) (sym here) ∙ is)

pub read_there : (old new : Slab Row) (k q : ℕ) (v row : Row) → Updates old new k (Some v) → q ≢ k → get new q ≡ Some row → get old q ≡ Some row
read_there old new k q v row up there is = sym (up.others q there) ∙ is

-- the reservation of the row was set, and the map of trackers with it
set_trackers : (old new : Slab Row) (t bytes : ℕ) (row : Row) → get old t ≡ Some row → Updates old new t (Some (record row { reservation = bytes })) → trackers_in new ≡ set_reservation bytes t (trackers_in old)
set_trackers old new t bytes row is up =
    table-put tracker_in old new t (record row { reservation = bytes }) up
    ∙ ap (λ (x : Tracker). map.insert (trackers_in old) t (record x { reservation = bytes })) (sym (tracker_is (trackers_in old) t (tracker_in row) (tracker_held old t row is)))

-- the reservation of the row and its parent's sum were set
pub reset_under : (r0 r1 r2 : Slab Row) (t p bytes kids : ℕ) (row over_row : Row) → AreSums r0 → get r0 t ≡ Some row → row.parent ≡ Some p → p ≢ t → get r0 p ≡ Some over_row
    → Updates r0 r1 t (Some (record row { reservation = bytes })) → Updates r1 r2 p (Some (record over_row { children = kids }))
    → kids ≡ children_of (set_reservation bytes t (trackers_in r0)) p → Changed r0 r2 (set_reservation bytes t (trackers_in r0))
reset_under r0 r1 r2 t p bytes kids row over_row sums is under apart is_over one two kids_are =
    let ts : Trackers = set_reservation bytes t (trackers_in r0) in
    let is_over_then : get r1 p ≡ Some over_row = one.others p apart ∙ is_over in
    let now : trackers_in r2 ≡ ts = table-kept tracker_in r1 r2 p (record over_row { children = kids }) over_row two is_over_then refl ∙ set_trackers r0 r1 t bytes row is one in
    record {
      trackers = now;
      charges = table-kept used_in r1 r2 p (record over_row { children = kids }) over_row two is_over_then refl ∙ table-kept used_in r0 r1 t (record row { reservation = bytes }) row one is refl;
      sums = λ q it is_it.
          let goal_at : Row → Type 0 = λ (r : Row). r.children ≡ children_of ts q in
          let kept : ((tracker_in row).parent ≡ Some q → ⊥) → children_of ts q ≡ children_of (trackers_in r0) q = children_kept (trackers_in r0) t bytes (tracker_in row) q (tracker_held r0 t row is) in
          let not_under : q ≢ p → (row.parent ≡ Some q → ⊥) = λ other same. other (ap (λ (o : Option ℕ). unwrap_or o q) (sym same ∙ under)) in
          let sum : it.children ≡ children_of ts q = elim (same_or_other q p) [
            | inl here ↦ subst goal_at (read_here r1 r2 p q (record over_row { children = kids }) it two here is_it) (kids_are ∙ ap (children_of ts) (sym here))
            | inr there ↦
                let in_first : get r1 q ≡ Some it = read_there r1 r2 p q (record over_row { children = kids }) it two there is_it in
                elim (same_or_other q t) [
                  | inl here ↦ subst goal_at (read_here r0 r1 t q (record row { reservation = bytes }) it one here in_first)
                      (sums t row is ∙ ap (children_of (trackers_in r0)) (sym here) ∙ sym (kept (not_under there)))
                  | inr elsewhere ↦ sums q it (read_there r0 r1 t q (record row { reservation = bytes }) it one elsewhere in_first) ∙ sym (kept (not_under there))
                ]
          ] in
          sum ∙ ap (λ (m : Trackers). children_of m q) (sym now);
    }

-- the reservation of the root was set
pub reset_root : (r0 r1 : Slab Row) (t bytes : ℕ) (row : Row) → AreSums r0 → get r0 t ≡ Some row → row.parent ≡ None
    → Updates r0 r1 t (Some (record row { reservation = bytes })) → Changed r0 r1 (set_reservation bytes t (trackers_in r0))
reset_root r0 r1 t bytes row sums is under one =
    let ts : Trackers = set_reservation bytes t (trackers_in r0) in
    let now : trackers_in r1 ≡ ts = set_trackers r0 r1 t bytes row is one in
    record {
      trackers = now;
      charges = table-kept used_in r0 r1 t (record row { reservation = bytes }) row one is refl;
      sums = λ q it is_it.
          let goal_at : Row → Type 0 = λ (r : Row). r.children ≡ children_of ts q in
          let none : (tracker_in row).parent ≡ Some q → ⊥ = λ same. let no : None ≡ Some q = sym under ∙ same in cc in
          let kept : children_of ts q ≡ children_of (trackers_in r0) q = children_kept (trackers_in r0) t bytes (tracker_in row) q (tracker_held r0 t row is) none in
          let sum : it.children ≡ children_of ts q = elim (same_or_other q t) [
            | inl here ↦ subst goal_at (read_here r0 r1 t q (record row { reservation = bytes }) it one here is_it) (sums t row is ∙ ap (children_of (trackers_in r0)) (sym here) ∙ sym kept)
            | inr elsewhere ↦ sums q it (read_there r0 r1 t q (record row { reservation = bytes }) it one elsewhere is_it) ∙ sym kept
          ] in
          sum ∙ ap (λ (m : Trackers). children_of m q) (sym now);
    }

-- a change that keeps what fits keeps the rows sound
pub record After (new : Slab Row) (s : TreeState) : Type 0 where
  pub sound : IsSound new
  pub state : state_in new ≡ s

pub sound_after : (old new : Slab Row) (t bytes : ℕ) (row : Row) → IsSound old → get old t ≡ Some row → Changed old new (set_reservation bytes t (trackers_in old))
    → slab_len new ≡ slab_len old → new.capacity ≡ old.capacity → FitsTree (charge_of (state_in old)) (set_reservation bytes t (trackers_in old))
    → After new (record (state_in old) { trackers = set_reservation bytes t (trackers_in old) })
sound_after old new t bytes row sound is changed count space fits =
    let ts : Trackers = set_reservation bytes t (trackers_in old) in
    let state : state_in new ≡ record (state_in old) { trackers = ts } = λ i. record { trackers = changed.trackers i; charges = changed.charges i } in
    let as_many : len (trackers_in new) ≡ len (trackers_in old) = ap len changed.trackers ∙ len_same (trackers_in old) t (tracker_in row) (record (tracker_at (trackers_in old) t) { reservation = bytes }) (tracker_held old t row is) in
    record {
      sound = record {
        tree = subst IsTree (sym changed.trackers) (tree_same (trackers_in old) ts (set_outline (trackers_in old) t bytes (row_lives old t row is)) sound.tree);
        fits = subst (λ (s : TreeState). FitsTree (charge_of s) s.trackers) (sym state) fits;
        sums = changed.sums;
        counted = count ∙ sound.counted ∙ sym as_many;
        few = subst (λ (n : ℕ). n ≤ 4096) (sym as_many) sound.few;
        capacity = space ∙ sound.capacity;
        numbers = subst (AreBelow 4096) (sym changed.trackers) (put_below 4096 (trackers_in old) sound.numbers t (sound.numbers t (row_lives old t row is)) _);
      };
      state = state;
    }

-- the parent of the row is the tracker's
under_row : (r0 : Slab Row) (t : ℕ) (row : Row) (o : Option ℕ) → get r0 t ≡ Some row → (tracker_at (trackers_in r0) t).parent ≡ o → row.parent ≡ o
under_row r0 t row o is under = sym (ap (λ (x : Tracker). x.parent) (tracker_is (trackers_in r0) t (tracker_in row) (tracker_held r0 t row is))) ∙ under

written_under_in : (r0 r1 r2 : Slab Row) → IsSound r0 → (t p bytes kids : ℕ) → IsLive (trackers_in r0) t → IsLive (trackers_in r0) p → p ≢ t
    → (tracker_at (trackers_in r0) t).parent ≡ Some p → Writes r0 r1 t (with_reservation bytes) → Writes r1 r2 p (with_children kids)
    → kids ≡ children_of (set_reservation bytes t (trackers_in r0)) p → FitsTree (charge_of (state_in r0)) (set_reservation bytes t (trackers_in r0))
    → After r2 (record (state_in r0) { trackers = set_reservation bytes t (trackers_in r0) })
written_under_in r0 r1 r2 sound t p bytes kids live over_live apart under one two kids_are fits =
    let mine : (row : Row) × (get r0 t ≡ Some row) = found (get r0 t) (has_row r0 t live) in
    let its : (row : Row) × (get r0 p ≡ Some row) = found (get r0 p) (has_row r0 p over_live) in
    let first : Updates r0 r1 t (Some (with_reservation bytes mine.0)) = one.updates mine.0 mine.1 in
    let then : Updates r1 r2 p (Some (with_children kids its.0)) = two.updates its.0 (first.others p apart ∙ its.1) in
    sound_after r0 r2 t bytes mine.0 sound mine.1
    (reset_under r0 r1 r2 t p bytes kids mine.0 its.0 sound.sums mine.1 (under_row r0 t mine.0 (Some p) mine.1 under) apart its.1 first then kids_are)
    (two.len ∙ one.len) (two.capacity ∙ one.capacity) fits

written_root_in : (r0 r1 : Slab Row) → IsSound r0 → (t bytes : ℕ) → IsLive (trackers_in r0) t → (tracker_at (trackers_in r0) t).parent ≡ None
    → Writes r0 r1 t (with_reservation bytes) → FitsTree (charge_of (state_in r0)) (set_reservation bytes t (trackers_in r0))
    → After r1 (record (state_in r0) { trackers = set_reservation bytes t (trackers_in r0) })
written_root_in r0 r1 sound t bytes live under one fits =
    let mine : (row : Row) × (get r0 t ≡ Some row) = found (get r0 t) (has_row r0 t live) in
    sound_after r0 r1 t bytes mine.0 sound mine.1
    (reset_root r0 r1 t bytes mine.0 sound.sums mine.1 (under_row r0 t mine.0 None mine.1 under) (one.updates mine.0 mine.1)) one.len one.capacity fits

-- the same, where the state is known by another name
pub written_under : (s : TreeState) (r0 r1 r2 : Slab Row) → IsSound r0 → state_in r0 ≡ s → (t p bytes kids : ℕ) → IsLive s.trackers t → IsLive s.trackers p → p ≢ t
    → (tracker_at s.trackers t).parent ≡ Some p → Writes r0 r1 t (with_reservation bytes) → Writes r1 r2 p (with_children kids)
    → kids ≡ children_of (set_reservation bytes t s.trackers) p → FitsTree (charge_of s) (set_reservation bytes t s.trackers)
    → After r2 (record s { trackers = set_reservation bytes t s.trackers })
written_under s r0 r1 r2 sound view t p bytes kids =
    subst (λ (state : TreeState). IsLive state.trackers t → IsLive state.trackers p → p ≢ t
    → (tracker_at state.trackers t).parent ≡ Some p → Writes r0 r1 t (with_reservation bytes) → Writes r1 r2 p (with_children kids)
    → kids ≡ children_of (set_reservation bytes t state.trackers) p → FitsTree (charge_of state) (set_reservation bytes t state.trackers)
    → After r2 (record state { trackers = set_reservation bytes t state.trackers })) view (written_under_in r0 r1 r2 sound t p bytes kids)

pub written_root : (s : TreeState) (r0 r1 : Slab Row) → IsSound r0 → state_in r0 ≡ s → (t bytes : ℕ) → IsLive s.trackers t → (tracker_at s.trackers t).parent ≡ None
    → Writes r0 r1 t (with_reservation bytes) → FitsTree (charge_of s) (set_reservation bytes t s.trackers)
    → After r1 (record s { trackers = set_reservation bytes t s.trackers })
written_root s r0 r1 sound view t bytes =
    subst (λ (state : TreeState). IsLive state.trackers t → (tracker_at state.trackers t).parent ≡ None
    → Writes r0 r1 t (with_reservation bytes) → FitsTree (charge_of state) (set_reservation bytes t state.trackers)
    → After r1 (record state { trackers = set_reservation bytes t state.trackers })) view (written_root_in r0 r1 sound t bytes)

-- a row that was written is still there
pub still_there : (r0 r1 : Slab Row) (t p : ℕ) (change : Row → Row) → Writes r0 r1 t change → IsSome (get r0 t) → IsSome (get r0 p) → IsSome (get r1 p)
still_there r0 r1 t p change one has_t has_p =
    let mine : (row : Row) × (get r0 t ≡ Some row) = found (get r0 t) has_t in
    let up : Updates r0 r1 t (Some (change mine.0)) = one.updates mine.0 mine.1 in
    elim (same_or_other p t) [
      | inl here ↦ is_there (get r1 p) (change mine.0) (ap (get r1) here ∙ up.changed)
      | inr there ↦ ap is_some (up.others p there) ∙ has_p
    ]
