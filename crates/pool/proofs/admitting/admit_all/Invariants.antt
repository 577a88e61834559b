use Rattle.std.proofs.Common.{◌≡◌, ◌≤◌, length, drop, map, vec_capacity, vec_len}
use Rattle.pool.specs.Admitting.{AreSlates, numbered}
use Rattle.pool.proofs.Admitted.{Between}
use Rattle.pool.proofs.admitting.admit_all.Given as goal

abbrev pub invariant-loop-ask : goal.invariant-loop-ask
invariant-loop-ask g l =
    (vec_len l.answers ≡ l.ask-index) × (length l.asks ≤ vec_capacity l.answers) × AreSlates (drop l.ask-index l.asks) l.slates.items
    × Between g.D.Slot g.T.Opened.opening g.T.Opened.outset.told g.T.Opened.first l.asks (drop l.ask-index l.asks) (record { trail = l.initial.shared.trail; counts = l.initial.shared.counts }) l.initial.shared.state (map numbered l.answers.items) (record { trail = l.shared.trail; counts = l.shared.counts }) l.shared.state
    × (l.shared.stopped ≡ l.initial.shared.stopped)
