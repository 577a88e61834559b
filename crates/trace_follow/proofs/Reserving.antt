-- A reservation changes: what rows show of trackers then.
use Rattle.std.proofs.Common.{◌≡◌, ◌≢◌, ℕ, ◌+◌, ◌-◌, ◌≤◌, Option, Some, None, IsSome, ap, sym, ◌∙◌, subst, arith, inl, inr, unwrap_or, option_map, Result, Ok, Err, OnOk}
use Rattle.trace_follow.specs.declared.follower.Follower.{Follower}
use Rattle.std.specs.Ordering.{nat_cmp}
use Rattle.std.specs.FinMap.{FinMap, get, insert}
use Rattle.reservation_tree.specs.Total.{total, weight_at}
use Rattle.reservation_tree.specs.Tracker.{Tracker, Trackers, IsLive, tracker_at, reservation_of, share_of, children_of}
use Rattle.reservation_tree.specs.Change.{set_reservation, raise, lower}
use Rattle.reservation_tree.proofs.Maps.{get_same, get_other, same_or_other}
use Rattle.reservation_tree.proofs.Sums.{total-insert}
use Rattle.reservation_tree.proofs.Outline.{tracker_is}
use Rattle.reservation_tree.proofs.Steps.{children_raised, children_lowered}
use Rattle.reservation_tree.proofs.Shares.{share_here, share_there}
use Rattle.trace_follow.specs.declared.rows.TrackerRow.{TrackerRow}
use Rattle.trace_follow.specs.declared.rows.Under.{Under}
use Rattle.trace_follow.specs.Rows.{tracker_row, kids_of, under_of, under_at}
use Rattle.trace_follow.specs.Showing.{ShowsTrackers}
use Rattle.trace_follow.proofs.Mirrored.{HasRow, row_of, mirror_put}

-- a tracker that keeps its parent counts as before
pub kids_kept : (ts : Trackers) (t : ℕ) (x y : Tracker) → get ts t ≡ Some x → y.parent ≡ x.parent → (q : ℕ) → kids_of (insert ts t y) q ≡ kids_of ts q
unfolding kids_of
kids_kept ts t x y is same q =
    let w : ℕ → Tracker → ℕ = λ _ z. share_of q z.parent 1 in
    let sum : total w (insert ts t y) + weight_at w t (get ts t) ≡ total w ts + w t y = total-insert w ts t y in
    let old : weight_at w t (get ts t) ≡ w t x = ap (weight_at w t) is in
    let kept : w t y ≡ w t x = ap (λ (o : Option ℕ). share_of q o 1) same in
    omega (arith, sum, old, kept)

pub under_same : (rows : FinMap nat_cmp Under) (p : ℕ) (u : Under) → under_at (insert rows p u) p ≡ u
under_same rows p u = ap (λ (o : Option Under). unwrap_or o (record { bytes = 0; count = 0 })) (get_same rows p u)

pub under_other : (rows : FinMap nat_cmp Under) (p : ℕ) (u : Under) (q : ℕ) → q ≢ p → under_at (insert rows p u) q ≡ under_at rows q
under_other rows p u q apart = ap (λ (o : Option Under). unwrap_or o (record { bytes = 0; count = 0 })) (get_other rows p u q apart)

abbrev pub sums : ℕ → ℕ → Under
sums bytes count = record { bytes = bytes; count = count }

pub both : (a b c d : ℕ) → a ≡ b → c ≡ d → sums a c ≡ sums b d
both a b c d first second = ap (λ (n : ℕ). sums n c) first ∙ ap (sums b) second

module _ (trackers : FinMap nat_cmp TrackerRow) (unders : FinMap nat_cmp Under) (ts : Trackers) (shows : ShowsTrackers trackers unders ts) (t : ℕ) (row : TrackerRow) (is : get trackers t ≡ Some row) where
  mine : HasRow tracker_row (get ts t) row
  mine = row_of tracker_row ts trackers shows.rows t row is

  has_reservation : reservation_of ts t ≡ row.reservation
  has_reservation = ap (λ (x : Tracker). x.reservation) (tracker_is ts t mine.of mine.lives) ∙ sym (ap (λ (r : TrackerRow). r.reservation) mine.is)

  has_parent : mine.of.parent ≡ row.parent
  has_parent = sym (ap (λ (r : TrackerRow). r.parent) mine.is)

  set_rows : (r : ℕ) (below : FinMap nat_cmp Under) → ((q : ℕ) → under_at below q ≡ under_of (set_reservation r t ts) q)
      → ShowsTrackers (insert trackers t (record row { reservation = r })) below (set_reservation r t ts)
  set_rows r below summed = record {
    rows = mirror_put tracker_row ts trackers shows.rows t (record (tracker_at ts t) { reservation = r }) (record row { reservation = r })
        (ap (λ (w : TrackerRow). record w { reservation = r }) mine.is ∙ sym (ap (λ (x : Tracker). tracker_row (record x { reservation = r })) (tracker_is ts t mine.of mine.lives)));
    sums = summed;
  }

  set_kids : (r q : ℕ) → kids_of (set_reservation r t ts) q ≡ kids_of ts q
  set_kids r q = kids_kept ts t mine.of (record (tracker_at ts t) { reservation = r }) mine.lives (ap (λ (x : Tracker). x.parent) (tracker_is ts t mine.of mine.lives)) q

  module _ (n : ℕ) where
    raised_sum : (q : ℕ) → children_of (raise n t ts) q ≡ children_of ts q + share_of q row.parent n
    raised_sum q = children_raised (λ _. 0) ts t mine.of mine.lives n q ∙ ap (λ (o : Option ℕ). children_of ts q + share_of q o n) has_parent

    raised_rows : (below : FinMap nat_cmp Under) → ((q : ℕ) → under_at below q ≡ under_of (raise n t ts) q)
        → ShowsTrackers (insert trackers t (record row { reservation = row.reservation + n })) below (raise n t ts)
    raised_rows below summed =
        subst (λ (r : ℕ). ShowsTrackers (insert trackers t (record row { reservation = r + n })) below (raise n t ts)) has_reservation (set_rows (reservation_of ts t + n) below summed)

    pub raised_root : row.parent ≡ None → ShowsTrackers (insert trackers t (record row { reservation = row.reservation + n })) unders (raise n t ts)
    raised_root top = raised_rows unders (λ q.
        let sum : children_of (raise n t ts) q ≡ children_of ts q + share_of q row.parent n = raised_sum q in
        let none : share_of q row.parent n ≡ 0 = ap (λ (o : Option ℕ). share_of q o n) top in
        shows.sums q ∙ both _ _ _ _ (omega (arith, sum, none)) (sym (set_kids (reservation_of ts t + n) q)))

    pub raised_under : (p : ℕ) → row.parent ≡ Some p
        → ShowsTrackers (insert trackers t (record row { reservation = row.reservation + n })) (insert unders p (record (under_at unders p) { bytes = (under_at unders p).bytes + n })) (raise n t ts)
    raised_under p under = raised_rows _ (λ q.
        let sum : children_of (raise n t ts) q ≡ children_of ts q + share_of q row.parent n = raised_sum q in
        let kids : kids_of (raise n t ts) q ≡ kids_of ts q = set_kids (reservation_of ts t + n) q in
        elim (same_or_other q p) [
          | inl here ↦
              let share : share_of q row.parent n ≡ n = ap (λ (o : Option ℕ). share_of q o n) (under ∙ ap (λ (k : ℕ). Some k) (sym here)) ∙ share_here q n in
              let was : (under_at unders p).bytes ≡ children_of ts q = ap (λ (u : Under). u.bytes) (shows.sums p) ∙ ap (children_of ts) (sym here) in
              let counted : (under_at unders p).count ≡ kids_of ts q = ap (λ (u : Under). u.count) (shows.sums p) ∙ ap (kids_of ts) (sym here) in
              ap (under_at (insert unders p (record (under_at unders p) { bytes = (under_at unders p).bytes + n }))) here ∙ under_same unders p _
              ∙ both _ _ _ _ (omega (arith, sum, share, was)) (counted ∙ sym kids)
          | inr there ↦
              let share : share_of q row.parent n ≡ 0 = ap (λ (o : Option ℕ). share_of q o n) under ∙ share_there q p n (λ same. there (sym same)) in
              under_other unders p _ q there ∙ shows.sums q ∙ both _ _ _ _ (omega (arith, sum, share)) (sym kids)
        ])

    module _ (few : n ≤ reservation_of ts t) where
      lowered_sum : (q : ℕ) → children_of (lower n t ts) q + share_of q row.parent n ≡ children_of ts q
      lowered_sum q = ap (λ (o : Option ℕ). children_of (lower n t ts) q + share_of q o n) (sym has_parent) ∙ children_lowered (λ _. 0) ts t mine.of mine.lives n q few

      lowered_rows : (below : FinMap nat_cmp Under) → ((q : ℕ) → under_at below q ≡ under_of (lower n t ts) q)
          → ShowsTrackers (insert trackers t (record row { reservation = row.reservation - n })) below (lower n t ts)
      lowered_rows below summed =
          subst (λ (r : ℕ). ShowsTrackers (insert trackers t (record row { reservation = r - n })) below (lower n t ts)) has_reservation (set_rows (reservation_of ts t - n) below summed)

      pub lowered_root : row.parent ≡ None → ShowsTrackers (insert trackers t (record row { reservation = row.reservation - n })) unders (lower n t ts)
      lowered_root top = lowered_rows unders (λ q.
          let sum : children_of (lower n t ts) q + share_of q row.parent n ≡ children_of ts q = lowered_sum q in
          let none : share_of q row.parent n ≡ 0 = ap (λ (o : Option ℕ). share_of q o n) top in
          shows.sums q ∙ both _ _ _ _ (omega (arith, sum, none)) (sym (set_kids (reservation_of ts t - n) q)))

      pub lowered_under : (p : ℕ) → row.parent ≡ Some p
          → ShowsTrackers (insert trackers t (record row { reservation = row.reservation - n })) (insert unders p (record (under_at unders p) { bytes = (under_at unders p).bytes - n })) (lower n t ts)
      lowered_under p under = lowered_rows _ (λ q.
          let sum : children_of (lower n t ts) q + share_of q row.parent n ≡ children_of ts q = lowered_sum q in
          let kids : kids_of (lower n t ts) q ≡ kids_of ts q = set_kids (reservation_of ts t - n) q in
          elim (same_or_other q p) [
            | inl here ↦
                let share : share_of q row.parent n ≡ n = ap (λ (o : Option ℕ). share_of q o n) (under ∙ ap (λ (k : ℕ). Some k) (sym here)) ∙ share_here q n in
                let was : (under_at unders p).bytes ≡ children_of ts q = ap (λ (u : Under). u.bytes) (shows.sums p) ∙ ap (children_of ts) (sym here) in
                let counted : (under_at unders p).count ≡ kids_of ts q = ap (λ (u : Under). u.count) (shows.sums p) ∙ ap (kids_of ts) (sym here) in
                ap (under_at (insert unders p (record (under_at unders p) { bytes = (under_at unders p).bytes - n }))) here ∙ under_same unders p _
                ∙ both _ _ _ _ (omega (arith, sum, share, was)) (counted ∙ sym kids)
            | inr there ↦
                let share : share_of q row.parent n ≡ 0 = ap (λ (o : Option ℕ). share_of q o n) under ∙ share_there q p n (λ same. there (sym same)) in
                under_other unders p _ q there ∙ shows.sums q ∙ both _ _ _ _ (omega (arith, sum, share)) (sym kids)
          ])

-- no row, so no tracker
pub not_live : (trackers : FinMap nat_cmp TrackerRow) (unders : FinMap nat_cmp Under) (ts : Trackers) → ShowsTrackers trackers unders ts → (t : ℕ) → get trackers t ≡ None → IsLive ts t → ⊥
not_live trackers unders ts shows t none live = absurd_none (get ts t) (sym none ∙ shows.rows t) live
  where
    absurd_none : (o : Option Tracker) → None ≡ option_map tracker_row o → IsSome o → ⊥
    absurd_none None is some = let no : IsSome {T = Tracker} None = some in cc
    absurd_none (Some x) is some = let no : None ≡ Some (tracker_row x) = is in cc

-- a value after a call that went well
pub then_ok : {E X : Type 0} {A B : Type 0} (r : Result X E) → OnOk r A → (A → B) → OnOk r B
then_ok (Ok x) a f = f a
then_ok (Err e) a f = tt

-- the two steps of a rise, and of a fall
module _ (old mid new : Follower) (ts : Trackers) (shows : ShowsTrackers old.trackers old.unders ts) (t n : ℕ) (row : TrackerRow) (is : get old.trackers t ≡ Some row) where
  pub rose_root : mid ≡ record old { trackers = insert old.trackers t (record row { reservation = row.reservation + n }) } → row.parent ≡ None → ShowsTrackers mid.trackers mid.unders (raise n t ts)
  rose_root first top = subst (λ (v : Follower). ShowsTrackers v.trackers v.unders (raise n t ts)) (sym first) (raised_root old.trackers old.unders ts shows t row is n top)

  pub rose_under : (p : ℕ) → mid ≡ record old { trackers = insert old.trackers t (record row { reservation = row.reservation + n }) } → row.parent ≡ Some p
      → new ≡ record mid { unders = insert mid.unders p (record (under_at mid.unders p) { bytes = (under_at mid.unders p).bytes + n }) } → ShowsTrackers new.trackers new.unders (raise n t ts)
  rose_under p first under second =
      subst (λ (v : Follower). ShowsTrackers v.trackers v.unders (raise n t ts)) (sym second)
      (subst (λ (v : Follower). ShowsTrackers v.trackers (insert v.unders p (record (under_at v.unders p) { bytes = (under_at v.unders p).bytes + n })) (raise n t ts)) (sym first)
      (raised_under old.trackers old.unders ts shows t row is n p under))

  module _ (few : n ≤ reservation_of ts t) where
    pub fell_root : mid ≡ record old { trackers = insert old.trackers t (record row { reservation = row.reservation - n }) } → row.parent ≡ None → ShowsTrackers mid.trackers mid.unders (lower n t ts)
    fell_root first top = subst (λ (v : Follower). ShowsTrackers v.trackers v.unders (lower n t ts)) (sym first) (lowered_root old.trackers old.unders ts shows t row is n few top)

    pub fell_under : (p : ℕ) → mid ≡ record old { trackers = insert old.trackers t (record row { reservation = row.reservation - n }) } → row.parent ≡ Some p
        → new ≡ record mid { unders = insert mid.unders p (record (under_at mid.unders p) { bytes = (under_at mid.unders p).bytes - n }) } → ShowsTrackers new.trackers new.unders (lower n t ts)
    fell_under p first under second =
        subst (λ (v : Follower). ShowsTrackers v.trackers v.unders (lower n t ts)) (sym second)
        (subst (λ (v : Follower). ShowsTrackers v.trackers (insert v.unders p (record (under_at v.unders p) { bytes = (under_at v.unders p).bytes - n })) (lower n t ts)) (sym first)
        (lowered_under old.trackers old.unders ts shows t row is n few p under))
