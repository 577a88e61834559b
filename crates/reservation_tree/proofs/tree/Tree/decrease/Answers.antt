use Rattle.std.proofs.Common.{◌≡◌, ◌+◌, ℕ, suc, ap, ◌∙◌, arith}
use Rattle.reservation_tree.specs.Tracker.{Tracker, depth_of}
use Rattle.reservation_tree.specs.Tree.{with_trackers}
use Rattle.reservation_tree.specs.Change.{fallen, shrink}
use Rattle.reservation_tree.proofs.tree.Tree.decrease.Goals as goal

pub returns : goal.returns
unfolding shrink
returns c =
    let deep : depth_of c.args.self.now.trackers c.args.t ≡ c.row-levels.result.depth = ap (λ (x : Tracker). x.depth) c.row-levels.ensures.says in
    let levels : c.row-levels.result.depth + 1 ≡ suc (depth_of c.args.self.now.trackers c.args.t) = omega (arith, deep) in
    c.fall.ensures ∙ ap (λ (n : ℕ). with_trackers (fallen n c.args.bytes c.args.t c.args.self.now.trackers) c.args.self.now) levels
