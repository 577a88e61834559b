use Rattle.std.proofs.Common.{◌≡◌, ◌-◌, ℕ, ap, sym, ◌∙◌}
use Rattle.std.specs.FinMap.{get}
use Rattle.reservation_tree.specs.Tracker.{Trackers}
use Rattle.reservation_tree.specs.Tree.{charge_of, with_trackers}
use Rattle.reservation_tree.specs.Change.{lacking}
use Rattle.reservation_tree.proofs.Maps.{found}
use Rattle.reservation_tree.proofs.Climbs.{grow_none, refused_none, none_there}
use Rattle.reservation_tree.proofs.tree.Tree.increase_to_fit.Goals as goal

pub returns-then-lacking-eq0-clause-ok : goal.returns-then-lacking-eq0-clause-ok
returns-then-lacking-eq0-clause-ok c =
    let none : lacking (charge_of c.args.self.now) c.args.bytes c.args.t c.args.self.now.trackers ≡ 0 =
    sym (c.saturating_sub-lacking.ensures ∙ ap (λ (n : ℕ). c.args.bytes - n) c.unused.ensures) ∙ c.if-lacking-eq0.true in
    let x = found (get c.args.self.now.trackers c.args.t) c.requires in
    ap (λ (m : Trackers). with_trackers m c.args.self.now) (sym (grow_none (charge_of c.args.self.now) c.args.self.now.trackers c.law_fits.ensures.tree _ c.args.t x.0 x.1 none))

pub returns-then-lacking-eq0-clause-refused : goal.returns-then-lacking-eq0-clause-refused
returns-then-lacking-eq0-clause-refused c =
    let none : lacking (charge_of c.args.self.now) c.args.bytes c.args.t c.args.self.now.trackers ≡ 0 =
    sym (c.saturating_sub-lacking.ensures ∙ ap (λ (n : ℕ). c.args.bytes - n) c.unused.ensures) ∙ c.if-lacking-eq0.true in
    ((λ no. cc), (λ some. absurd (none_there _ (refused_none (charge_of c.args.self.now) c.args.self.now.trackers _ c.args.t none) some)))
