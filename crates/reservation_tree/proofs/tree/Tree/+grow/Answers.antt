use Rattle.std.proofs.Common.{◌≡◌, ◌-◌, ◌<◌, ℕ, None, ap, sym, ◌∙◌, subst, arith}
use Rattle.std.specs.FinMap.{get}
use Rattle.reservation_tree.specs.Tracker.{Trackers, depth_of, parent_of, unused}
use Rattle.reservation_tree.specs.Tree.{TreeState, charge_of, with_trackers}
use Rattle.reservation_tree.specs.Change.{raise, grown, growth_above, grow, grow_refusal}
use Rattle.reservation_tree.proofs.Maps.{found}
use Rattle.reservation_tree.proofs.Strides.{under_by}
use Rattle.reservation_tree.proofs.Climbs.{CanRise, less_deep, refusal_above_none, grown_above, grown_root, rises, grow_none, grow_is}
use Rattle.reservation_tree.proofs.tree.Tree.+grow.Goals.{in-Some+then-growth-gt0, in-Some+else-growth-gt0, in-None}
use Rattle.reservation_tree.proofs.tree.Tree.+grow.Goals as goal

pub grow-requires : goal.grow-requires
grow-requires t c =
    let growth : c.args.bytes - unused (charge_of c.args.self.now) c.args.self.now.trackers c.in-Some.parent ≡ c.saturating_sub-growth.result =
    sym (c.saturating_sub-growth.ensures ∙ ap (λ (n : ℕ). c.args.bytes - n) c.unused.ensures) in (
      subst (λ (n : ℕ). depth_of c.args.self.now.trackers c.in-Some.parent < n) c.decreases
          (less_deep c.args.self.now c.law_fits.ensures.tree c.args.t c.requires.live c.row.result c.row.ensures c.in-Some.parent c.in-Some.is),
      (
        (under_by c.args.self.now c.args.t c.in-Some.parent c.row.result c.row.ensures c.in-Some.is).live,
        subst (λ (n : ℕ). grow_refusal (charge_of c.args.self.now) n c.in-Some.parent c.args.self.now.trackers ≡ None) growth
            (refusal_above_none c.args.self.now c.law_fits.ensures.tree c.args.t c.requires.live c.row.result c.row.ensures c.in-Some.parent c.args.bytes c.in-Some.is c.requires.fits),
      ),
    )

-- what has grown before the tracker itself
grew_above : (t : ℕ) (c : goal.After-raise-arg-1 t) → c.match-row.self ≡ with_trackers (grown (charge_of c.args.self.now) c.args.self.now.trackers (depth_of c.args.self.now.trackers c.args.t) (growth_above (charge_of c.args.self.now) c.args.self.now.trackers c.args.bytes c.args.t) (parent_of c.args.self.now.trackers c.args.t)) c.args.self.now
grew_above t c = elim c.match-row.branch [
  | in-Some+then-growth-gt0 w ↦
      w.self-is ∙ w.grow.ensures ∙ ap (λ (m : Trackers). with_trackers m c.args.self.now)
      (ap (λ (n : ℕ). grow (charge_of c.args.self.now) n w.in-Some.parent c.args.self.now.trackers) (w.saturating_sub-growth.ensures ∙ ap (λ (n : ℕ). c.args.bytes - n) w.unused.ensures)
      ∙ sym (grown_above c.args.self.now c.law_fits.ensures.tree c.args.t c.requires.live c.row.result c.row.ensures w.in-Some.parent c.args.bytes w.in-Some.is))
  | in-Some+else-growth-gt0 w ↦
      let growth : c.args.bytes - unused (charge_of c.args.self.now) c.args.self.now.trackers w.in-Some.parent ≡ w.saturating_sub-growth.result =
      sym (w.saturating_sub-growth.ensures ∙ ap (λ (n : ℕ). c.args.bytes - n) w.unused.ensures) in
      let none : c.args.bytes - unused (charge_of c.args.self.now) c.args.self.now.trackers w.in-Some.parent ≡ 0 = omega (arith, growth, w.if-growth-gt0.false) in
      let x = found (get c.args.self.now.trackers w.in-Some.parent) (under_by c.args.self.now c.args.t w.in-Some.parent c.row.result c.row.ensures w.in-Some.is).live in
      w.self-is ∙ ap (λ (m : Trackers). with_trackers m c.args.self.now)
      (sym (grown_above c.args.self.now c.law_fits.ensures.tree c.args.t c.requires.live c.row.result c.row.ensures w.in-Some.parent c.args.bytes w.in-Some.is
      ∙ grow_none (charge_of c.args.self.now) c.args.self.now.trackers c.law_fits.ensures.tree _ w.in-Some.parent x.0 x.1 none))
  | in-None w ↦
      w.self-is ∙ ap (λ (m : Trackers). with_trackers m c.args.self.now)
      (sym (grown_root c.args.self.now c.law_fits.ensures.tree c.args.t c.requires.live c.row.result c.row.ensures c.args.bytes w.in-None.is))
]

can_rise_now : (t : ℕ) (c : goal.After-raise-arg-1 t) → CanRise (charge_of c.match-row.self) c.match-row.self.trackers c.args.t c.args.bytes
can_rise_now t c =
    subst (λ (s : TreeState). CanRise (charge_of s) s.trackers c.args.t c.args.bytes) (sym (grew_above t c))
    (rises c.args.self.now c.law_fits.ensures.tree c.args.t c.requires.live c.row.result c.row.ensures c.law_fits.ensures.fits c.args.bytes c.requires.fits)

pub raise-requires-clause-live : goal.raise-requires-clause-live
raise-requires-clause-live t c = (can_rise_now t c).live

pub raise-requires-clause-room : goal.raise-requires-clause-room
raise-requires-clause-room t c = (can_rise_now t c).room

pub raise-requires-clause-spare : goal.raise-requires-clause-spare
raise-requires-clause-spare t c = (can_rise_now t c).spare

grew : (t : ℕ) (c : goal.After-raise t) → c.match-row.self ≡ with_trackers (grown (charge_of c.args.self.now) c.args.self.now.trackers (depth_of c.args.self.now.trackers c.args.t) (growth_above (charge_of c.args.self.now) c.args.self.now.trackers c.args.bytes c.args.t) (parent_of c.args.self.now.trackers c.args.t)) c.args.self.now
grew t c = elim c.match-row.branch [
  | in-Some+then-growth-gt0 w ↦
      w.self-is ∙ w.grow.ensures ∙ ap (λ (m : Trackers). with_trackers m c.args.self.now)
      (ap (λ (n : ℕ). grow (charge_of c.args.self.now) n w.in-Some.parent c.args.self.now.trackers) (w.saturating_sub-growth.ensures ∙ ap (λ (n : ℕ). c.args.bytes - n) w.unused.ensures)
      ∙ sym (grown_above c.args.self.now c.law_fits.ensures.tree c.args.t c.requires.live c.row.result c.row.ensures w.in-Some.parent c.args.bytes w.in-Some.is))
  | in-Some+else-growth-gt0 w ↦
      let growth : c.args.bytes - unused (charge_of c.args.self.now) c.args.self.now.trackers w.in-Some.parent ≡ w.saturating_sub-growth.result =
      sym (w.saturating_sub-growth.ensures ∙ ap (λ (n : ℕ). c.args.bytes - n) w.unused.ensures) in
      let none : c.args.bytes - unused (charge_of c.args.self.now) c.args.self.now.trackers w.in-Some.parent ≡ 0 = omega (arith, growth, w.if-growth-gt0.false) in
      let x = found (get c.args.self.now.trackers w.in-Some.parent) (under_by c.args.self.now c.args.t w.in-Some.parent c.row.result c.row.ensures w.in-Some.is).live in
      w.self-is ∙ ap (λ (m : Trackers). with_trackers m c.args.self.now)
      (sym (grown_above c.args.self.now c.law_fits.ensures.tree c.args.t c.requires.live c.row.result c.row.ensures w.in-Some.parent c.args.bytes w.in-Some.is
      ∙ grow_none (charge_of c.args.self.now) c.args.self.now.trackers c.law_fits.ensures.tree _ w.in-Some.parent x.0 x.1 none))
  | in-None w ↦
      w.self-is ∙ ap (λ (m : Trackers). with_trackers m c.args.self.now)
      (sym (grown_root c.args.self.now c.law_fits.ensures.tree c.args.t c.requires.live c.row.result c.row.ensures c.args.bytes w.in-None.is))
]

pub returns : goal.returns
returns t c =
    c.raise.ensures ∙ ap (λ (s : TreeState). with_trackers (raise c.args.bytes c.args.t s.trackers) s) (grew t c)
    ∙ ap (λ (m : Trackers). with_trackers m c.args.self.now) (sym (grow_is (charge_of c.args.self.now) c.args.self.now.trackers c.args.bytes c.args.t))
