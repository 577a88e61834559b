use Rattle.std.proofs.Common.{◌≡◌, ◌-◌, ◌≤◌, ℕ, suc, Some, ap, sym, ◌∙◌, subst, arith}
use Rattle.std.specs.FinMap.{get}
use Rattle.reservation_tree.specs.Tracker.{Tracker, Trackers, depth_of, parent_of, unused}
use Rattle.reservation_tree.specs.Tree.{TreeState, charge_of, with_trackers}
use Rattle.reservation_tree.specs.Change.{up, over, raise, risen, risen_refusal}
use Rattle.reservation_tree.proofs.Maps.{found}
use Rattle.reservation_tree.proofs.Above.{Above, above}
use Rattle.reservation_tree.proofs.Growing.{not_later}
use Rattle.reservation_tree.proofs.Climbs.{CanRise, rise_step, risen_is, risen_refusal_is, up_is}
use Rattle.reservation_tree.proofs.tree.Tree.+rise.Goals as goal

pub rise-requires : goal.rise-requires
rise-requires t c =
    let ts : Trackers = c.args.self.now.trackers in
    let x : (y : Tracker) × (get ts c.args.t ≡ Some y) = found (get ts c.args.t) c.requires.live in
    let deep : depth_of ts c.args.t ≡ suc (depth_of ts c.args.t - 1) = omega (arith, c.if-levels-gt0.true, c.requires.levels) in
    let over_it : Above ts c.args.t x.0 (depth_of ts c.args.t - 1) = above ts c.law_fits.ensures.tree c.args.t (depth_of ts c.args.t - 1) x.0 x.1 deep in
    let named : c.above-above.result ≡ parent_of ts c.args.t = c.above-above.ensures.above in
    let its : depth_of ts c.above-above.result ≡ depth_of ts c.args.t - 1 = ap (depth_of ts) (named ∙ over_it.named) ∙ over_it.deep in
    let all : c.args.levels ≡ t = c.decreases in (
      omega (arith, all, c.if-levels-gt0.true),
      (
        c.above-above.ensures.live,
        (
          omega (arith, its, c.requires.levels),
          (
            subst (λ (q : ℕ). c.args.bytes ≤ unused (charge_of c.args.self.now) ts q) (up_is ts c.args.levels c.args.t c.if-levels-gt0.true ∙ ap (up ts (c.args.levels - 1)) (sym named)) c.requires.unused,
            ap (λ (q : ℕ). risen_refusal (c.args.levels - 1) c.args.bytes q ts) named
                ∙ not_later (over ts c.args.bytes c.args.t) _ (sym (risen_refusal_is ts c.args.levels c.args.bytes c.args.t c.if-levels-gt0.true) ∙ c.requires.fits),
          ),
        ),
      ),
    )

-- what has risen before the tracker itself
rose_above : (t : ℕ) (c : goal.After-raise-arg-1 t) → c.rise.new.self ≡ with_trackers (risen (c.args.levels - 1) c.args.bytes (parent_of c.args.self.now.trackers c.args.t) c.args.self.now.trackers) c.args.self.now
rose_above t c = c.rise.ensures ∙ ap (λ (q : ℕ). with_trackers (risen (c.args.levels - 1) c.args.bytes q c.args.self.now.trackers) c.args.self.now) c.above-above.ensures.above

can_rise_now : (t : ℕ) (c : goal.After-raise-arg-1 t) → CanRise (charge_of c.rise.new.self) c.rise.new.self.trackers c.args.t c.args.bytes
can_rise_now t c =
    subst (λ (s : TreeState). CanRise (charge_of s) s.trackers c.args.t c.args.bytes) (sym (rose_above t c))
    (rise_step (charge_of c.args.self.now) c.args.self.now.trackers c.law_fits.ensures.tree c.law_fits.ensures.fits c.args.t c.requires.live c.args.levels c.args.bytes c.if-levels-gt0.true c.requires.levels c.requires.unused c.requires.fits)

pub raise-requires-clause-live : goal.raise-requires-clause-live
raise-requires-clause-live t c = (can_rise_now t c).live

pub raise-requires-clause-room : goal.raise-requires-clause-room
raise-requires-clause-room t c = (can_rise_now t c).room

pub raise-requires-clause-spare : goal.raise-requires-clause-spare
raise-requires-clause-spare t c = (can_rise_now t c).spare

pub returns-then-levels-gt0 : goal.returns-then-levels-gt0
returns-then-levels-gt0 t c =
    let above_it : c.rise.new.self ≡ with_trackers (risen (c.args.levels - 1) c.args.bytes (parent_of c.args.self.now.trackers c.args.t) c.args.self.now.trackers) c.args.self.now =
    c.rise.ensures ∙ ap (λ (q : ℕ). with_trackers (risen (c.args.levels - 1) c.args.bytes q c.args.self.now.trackers) c.args.self.now) c.above-above.ensures.above in
    c.raise.ensures ∙ ap (λ (s : TreeState). with_trackers (raise c.args.bytes c.args.t s.trackers) s) above_it
    ∙ ap (λ (m : Trackers). with_trackers m c.args.self.now) (sym (risen_is c.args.self.now.trackers c.args.levels c.args.bytes c.args.t c.if-levels-gt0.true))
