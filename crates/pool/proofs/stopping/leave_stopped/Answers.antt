use Rattle.std.proofs.Common.{List, ◌++◌, sym, ap, ◌∙◌, subst}
use Rattle.pool.specs.declared.item.Item.{Item}
use Rattle.pool.specs.Items.{is_stopped}
use Rattle.pool.specs.Standing.{StandsAs}
use Rattle.pool.proofs.NoStop.{stands_stopped, stops}
use Rattle.pool.proofs.stopping.leave_stopped.Goals as goal

pub leave-requires-clause-stands : goal.leave-requires-clause-stands
leave-requires-clause-stands g c = (
  subst (λ (es : List Item). StandsAs g.D.Slot g.T.Opened.opening g.T.Opened.outset.told g.T.Opened.first (c.args.seat.now.knows.seen ++ es) (record { trail = c.args.shared.trail; counts = c.args.shared.counts }) c.args.shared.state) (sym c.requires.named)
      (stands_stopped c.args.seat.now.knows.seen g.D.Slot g.T.Opened.opening g.T.Opened.outset.told g.T.Opened.first (record { trail = c.args.shared.trail; counts = c.args.shared.counts }) c.args.shared.state c.requires.stands),
  c.requires.stop ∙ stops c.args.seat.now.knows.seen ∙ ap (λ (es : List Item). is_stopped (c.args.seat.now.knows.seen ++ es)) (sym c.requires.named),
)
