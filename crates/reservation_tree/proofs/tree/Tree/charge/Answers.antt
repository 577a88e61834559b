use Rattle.std.proofs.Common.{◌≡◌, ◌∙◌, ap, ℕ, ◌+◌, arith}
use Rattle.reservation_tree.specs.Tracker.{Tracker, reservation_of}
use Rattle.reservation_tree.specs.Tree.{set_charge}
use Rattle.reservation_tree.proofs.Held.{row_there}
use Rattle.reservation_tree.proofs.Places.{charged}
use Rattle.reservation_tree.proofs.tree.Tree.charge.Goals as goal

pub set_used-requires : goal.set_used-requires
set_used-requires c = row_there c.args.self.now c.self.inside.rows c.args.t c.self.view_is c.requires.live

pub invariant_of-self : goal.invariant_of-self
invariant_of-self c =
    let has : reservation_of c.args.self.now.trackers c.args.t ≡ c.row-used.result.reservation = ap (λ (x : Tracker). x.reservation) c.row-used.ensures.says in
    (charged c.args.self.now c.self.inside.rows c.set_used.new.rows c.self.invariant c.self.view_is c.args.t (c.row-used.result.used + c.args.bytes) c.requires.live
    (omega (arith, has, c.row-used.ensures.used, c.row-used.ensures.children, c.row-used.ensures.within, c.requires.unused)) c.set_used.ensures).sound

pub returns : goal.returns
returns c =
    let has : reservation_of c.args.self.now.trackers c.args.t ≡ c.row-used.result.reservation = ap (λ (x : Tracker). x.reservation) c.row-used.ensures.says in
    (charged c.args.self.now c.self.inside.rows c.set_used.new.rows c.self.invariant c.self.view_is c.args.t (c.row-used.result.used + c.args.bytes) c.requires.live
    (omega (arith, has, c.row-used.ensures.used, c.row-used.ensures.children, c.row-used.ensures.within, c.requires.unused)) c.set_used.ensures).state
    ∙ ap (λ (n : ℕ). set_charge (n + c.args.bytes) c.args.t c.args.self.now) c.row-used.ensures.used
