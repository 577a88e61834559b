use Rattle.std.proofs.Common.{◌++◌, List, length, drop, sym, subst}
use Rattle.turn_table.specs.Knowledge.{NeedsOnly}
use Rattle.pool.specs.declared.item.Item.{Item}
use Rattle.pool.specs.Items.{history, needs_of}
use Rattle.pool.specs.Standing.{StandsAs}
use Rattle.pool.specs.Admitting.{items_since}
use Rattle.pool.proofs.Listed.{stop_items}
use Rattle.pool.proofs.Unstopped.{still_told}
use Rattle.pool.proofs.admitting.leave_admitted.Goals as goal

pub leave-requires-clause-stands : goal.leave-requires-clause-stands
leave-requires-clause-stands g c = (
  subst (λ (es : List Item). StandsAs g.D.Slot g.T.Opened.opening g.T.Opened.outset.told g.T.Opened.first (c.args.seat.now.knows.seen ++ es) (record { trail = c.args.shared.trail; counts = c.args.shared.counts }) c.args.shared.state) (sym c.requires.named) c.requires.stands,
  still_told c.args.shared.stopped c.args.seat.now.knows.seen g.N.Adds.entries (items_since c.args.seat.now.knows.seen c.args.shared.trail) c.requires.stop c.requires.named (stop_items (drop (length (history c.args.seat.now.knows.seen)) c.args.shared.trail)),
)

pub leave-requires-clause-rights : goal.leave-requires-clause-rights
leave-requires-clause-rights g c = subst (NeedsOnly needs_of c.args.seat.now.knows.rights) (sym c.requires.named) c.requires.rights
