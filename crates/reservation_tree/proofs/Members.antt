-- A tracker comes or goes: the tree stays a tree, and all keep fitting.
use Rattle.std.proofs.Common.{◌≡◌, ℕ, ◌+◌, ◌≢◌, Option, Some, None, is_some, unwrap_or, refl, ap, sym, ◌∙◌, subst, arith, inl, inr}
use Rattle.std.specs.Ordering.{nat_cmp}
use Rattle.std.specs.FinMap.{get, insert, remove, empty, get-empty}
use Rattle.reservation_tree.specs.Tracker.{Tracker, Trackers, no_tracker, IsLive, reservation_of, limit_of, depth_of, children_of, HasNoChild, Fits, FitsTree, Hangs, IsTree}
use Rattle.reservation_tree.specs.Change.{new_root, root_alone, with_child}
use Rattle.reservation_tree.proofs.Maps.{get_same, get_other, removed_same, removed_other, same_or_other, found, is_there}
use Rattle.reservation_tree.proofs.Outline.{depth_is, reservation_is}
use Rattle.reservation_tree.proofs.Shares.{children-new, children-gone, children-none}

-- a live tracker isn't one that isn't
pub live_apart : (ts : Trackers) (q k : ℕ) → IsLive ts q → get ts k ≡ None → q ≢ k
live_apart ts q k live none same = let no : is_some (get ts q) ≡ is_some {T = Tracker} None = ap is_some (ap (get ts) same ∙ none) in cc

-- a tracker that isn't live has no child
pub no_child_yet : (ts : Trackers) → IsTree ts → (k : ℕ) → get ts k ≡ None → HasNoChild ts k
no_child_yet ts tree k none child x is under =
    let hangs : Hangs ts child x.depth (Some k) = subst (λ (o : Option ℕ). Hangs ts child x.depth o) under (tree.hangs child x is) in
    live_apart ts k k (is_there (get ts k) hangs.0 hangs.1) none refl

-- who hangs keeps hanging where the tracker above it stays
hangs_on : (old new : Trackers) (t depth : ℕ) (o : Option ℕ) → ((p : ℕ) → o ≡ Some p → get new p ≡ get old p) → Hangs old t depth o → Hangs new t depth o
hangs_on old new t depth None kept h = h
hangs_on old new t depth (Some p) kept h = (h.0, kept p refl ∙ h.1, h.2)

module _ (charge after : ℕ → ℕ) (ts : Trackers) (tree : IsTree ts) (k p limit : ℕ) (none : get ts k ≡ None) (live : IsLive ts p) where
  pub child_tree : IsTree (with_child k p limit ts)
  child_tree =
      let new : Tracker = record { parent = Some p; depth = depth_of ts p + 1; limit = limit; reservation = 0 } in
      let others : (q : ℕ) → IsLive ts q → get (insert ts k new) q ≡ get ts q = λ q is. get_other ts k new q (live_apart ts q k is none) in
      let over_it : (y : Tracker) × (get ts p ≡ Some y) = found (get ts p) live in
      record {
        root = ap is_some (others 0 tree.root) ∙ tree.root;
        hangs = λ t x is. elim (same_or_other t k) [
          | inl here ↦
              let same : new ≡ x = ap (λ (o : Option Tracker). unwrap_or o new) (sym (get_same ts k new) ∙ ap (get (insert ts k new)) (sym here) ∙ is) in
              subst (λ (y : Tracker). Hangs (insert ts k new) t y.depth y.parent) same
              (over_it.0, others p live ∙ over_it.1, ap (λ (n : ℕ). n + 1) (depth_is ts p over_it.0 over_it.1))
          | inr there ↦
              let was : get ts t ≡ Some x = sym (get_other ts k new t there) ∙ is in
              let hung : Hangs ts t x.depth x.parent = tree.hangs t x was in
              hangs_on ts (insert ts k new) t x.depth x.parent (λ q under.
              let above : Hangs ts t x.depth (Some q) = subst (λ (o : Option ℕ). Hangs ts t x.depth o) under hung in
              others q (is_there (get ts q) above.0 above.1)) hung
        ];
      }

  pub child_sums : (q : ℕ) → children_of (with_child k p limit ts) q ≡ children_of ts q
  child_sums q = children-new ts k (record { parent = Some p; depth = depth_of ts p + 1; limit = limit; reservation = 0 }) q none refl

  pub child_sum : children_of (with_child k p limit ts) k ≡ 0
  child_sum = child_sums k ∙ children-none ts k (no_child_yet ts tree k none)

  pub child_fits : FitsTree charge ts → after k ≡ 0 → ((q : ℕ) → q ≢ k → after q ≡ charge q) → FitsTree after (with_child k p limit ts)
  child_fits fits free same q is =
      let new : Tracker = record { parent = Some p; depth = depth_of ts p + 1; limit = limit; reservation = 0 } in
      elim (same_or_other q k) [
        | inl here ↦
            let here_now : get (insert ts k new) q ≡ Some new = ap (get (insert ts k new)) here ∙ get_same ts k new in
            let nothing : reservation_of (insert ts k new) q ≡ 0 = ap (λ (o : Option Tracker). (unwrap_or o no_tracker).reservation) here_now in
            let cost : after q ≡ 0 = ap after here ∙ free in
            let kids : children_of (insert ts k new) q ≡ 0 = ap (children_of (insert ts k new)) here ∙ child_sum in
            record { within = omega (arith, cost, kids); below = omega (arith, nothing) }
        | inr there ↦
            let old : get (insert ts k new) q ≡ get ts q = get_other ts k new q there in
            let was : Fits charge ts q = fits q (sym (ap is_some old) ∙ is) in
            let has : reservation_of (insert ts k new) q ≡ reservation_of ts q = ap (λ (o : Option Tracker). (unwrap_or o no_tracker).reservation) old in
            let top : limit_of (insert ts k new) q ≡ limit_of ts q = ap (λ (o : Option Tracker). (unwrap_or o no_tracker).limit) old in
            let cost : after q ≡ charge q = same q there in
            let kids : children_of (insert ts k new) q ≡ children_of ts q = child_sums q in
            record { within = omega (arith, was.within, has, cost, kids); below = omega (arith, was.below, has, top) }
      ]

module _ (charge after : ℕ → ℕ) (ts : Trackers) (tree : IsTree ts) (t : ℕ) (x : Tracker) (is : get ts t ≡ Some x) (low : t ≢ 0) (nothing : x.reservation ≡ 0) (alone : HasNoChild ts t) where
  pub closed_tree : IsTree (remove ts t)
  closed_tree = record {
    root = ap is_some (removed_other ts t 0 (λ same. low (sym same))) ∙ tree.root;
    hangs = λ q y here. elim (same_or_other q t) [
      | inl same ↦
          let no : None ≡ Some y = sym (removed_same ts t) ∙ ap (get (remove ts t)) (sym same) ∙ here in
          cc
      | inr there ↦
          let was : get ts q ≡ Some y = sym (removed_other ts t q there) ∙ here in
          hangs_on ts (remove ts t) q y.depth y.parent (λ p under. removed_other ts t p (λ same. alone q y was (under ∙ ap Some same))) (tree.hangs q y was)
    ];
  }

  pub closed_sums : (q : ℕ) → children_of (remove ts t) q ≡ children_of ts q
  closed_sums q = children-gone ts t x q is nothing

  pub closed_fits : FitsTree charge ts → ((q : ℕ) → q ≢ t → after q ≡ charge q) → FitsTree after (remove ts t)
  closed_fits fits same q live = elim (same_or_other q t) [
    | inl here ↦
        let no : is_some (get (remove ts t) q) ≡ is_some {T = Tracker} None = ap is_some (ap (get (remove ts t)) here ∙ removed_same ts t) in
        cc
    | inr there ↦
        let old : get (remove ts t) q ≡ get ts q = removed_other ts t q there in
        let was : Fits charge ts q = fits q (sym (ap is_some old) ∙ live) in
        let has : reservation_of (remove ts t) q ≡ reservation_of ts q = ap (λ (o : Option Tracker). (unwrap_or o no_tracker).reservation) old in
        let top : limit_of (remove ts t) q ≡ limit_of ts q = ap (λ (o : Option Tracker). (unwrap_or o no_tracker).limit) old in
        let cost : after q ≡ charge q = same q there in
        let kids : children_of (remove ts t) q ≡ children_of ts q = closed_sums q in
        record { within = omega (arith, was.within, has, cost, kids); below = omega (arith, was.below, has, top) }
  ]

-- the tree of a root alone
module _ (limit : ℕ) where
  nobody : HasNoChild empty 0
  nobody child x is under = let no : None ≡ Some x = sym (get-empty nat_cmp child) ∙ is in cc

  empty_sums : (q : ℕ) → children_of empty q ≡ 0
  empty_sums q = children-none empty q (λ child x is under. let no : None ≡ Some x = sym (get-empty nat_cmp child) ∙ is in cc)

  pub root_sums : (q : ℕ) → children_of (root_alone limit) q ≡ 0
  root_sums q = children-new empty 0 (new_root limit) q (get-empty nat_cmp 0) refl ∙ empty_sums q

  only_root : (t : ℕ) (x : Tracker) → get (root_alone limit) t ≡ Some x → (t ≡ 0) × (new_root limit ≡ x)
  only_root t x is = elim (same_or_other t 0) [
    | inl here ↦ (here, ap (λ (o : Option Tracker). unwrap_or o x) (sym (get_same empty 0 (new_root limit)) ∙ ap (get (root_alone limit)) (sym here) ∙ is))
    | inr there ↦ let no : None ≡ Some x = sym (get-empty nat_cmp t) ∙ sym (get_other empty 0 (new_root limit) t there) ∙ is in cc
  ]

  pub root_tree : IsTree (root_alone limit)
  root_tree = record {
    root = is_there _ (new_root limit) (get_same empty 0 (new_root limit));
    hangs = λ t x is.
        let it : (t ≡ 0) × (new_root limit ≡ x) = only_root t x is in
        subst (λ (y : Tracker). Hangs (root_alone limit) t y.depth y.parent) it.1 (it.0, refl);
  }

  pub root_fits : (charge : ℕ → ℕ) → charge 0 ≡ 0 → FitsTree charge (root_alone limit)
  root_fits charge free t live =
      let it : (x : Tracker) × (get (root_alone limit) t ≡ Some x) = found _ live in
      let only : (t ≡ 0) × (new_root limit ≡ it.0) = only_root t it.0 it.1 in
      let has : reservation_of (root_alone limit) t ≡ 0 = reservation_is _ t it.0 it.1 ∙ sym (ap (λ (y : Tracker). y.reservation) only.1) in
      let cost : charge t ≡ 0 = ap charge only.0 ∙ free in
      let kids : children_of (root_alone limit) t ≡ 0 = root_sums t in
      record { within = omega (arith, cost, kids); below = omega (arith, has) }

-- a child that has just come has no child, and isn't the root
pub newly_alone : (ts : Trackers) → IsTree ts → (k p limit : ℕ) → get ts k ≡ None → IsLive ts p → HasNoChild (with_child k p limit ts) k
newly_alone ts tree k p limit none live child x is under = elim (same_or_other child k) [
  | inl here ↦
      let new : Tracker = record { parent = Some p; depth = depth_of ts p + 1; limit = limit; reservation = 0 } in
      let same : new ≡ x = ap (λ (o : Option Tracker). unwrap_or o new) (sym (get_same ts k new) ∙ ap (get (insert ts k new)) (sym here) ∙ is) in
      let own : p ≡ k = ap (λ (o : Option ℕ). unwrap_or o p) (ap (λ (y : Tracker). y.parent) same ∙ under) in
      live_apart ts p k live none own
  | inr there ↦
      let new : Tracker = record { parent = Some p; depth = depth_of ts p + 1; limit = limit; reservation = 0 } in
      no_child_yet ts tree k none child x (sym (get_other ts k new child there) ∙ is) under
]
