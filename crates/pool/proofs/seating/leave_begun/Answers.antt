use Rattle.std.proofs.Common.{◌++◌, List, refl, sym, subst}
use Rattle.pin_core.specs.StateOf.{state_of}
use Rattle.pin_core.specs.calls.Sessions.{query_of}
use Rattle.pool.specs.declared.item.Item.{Item}
use Rattle.pool.specs.Seating.{beginning_items}
use Rattle.pool.specs.Standing.{StandsAs}
use Rattle.pool.proofs.Unstopped.{still_told}
use Rattle.pool.proofs.seating.leave_begun.Goals as goal

pub leave-requires-clause-stands : goal.leave-requires-clause-stands
leave-requires-clause-stands g c = (
  subst (λ (es : List Item). StandsAs g.D.Slot g.T.Opened.opening g.T.Opened.outset.told g.T.Opened.first (c.args.seat.now.knows.seen ++ es) (record { trail = c.args.shared.trail; counts = c.args.shared.counts }) c.args.shared.state) (sym c.requires.named) c.requires.stands,
  still_told c.args.shared.stopped c.args.seat.now.knows.seen g.N.Adds.entries (beginning_items c.args._number (query_of (state_of c.args.shared.state) c.args._number) c.args._limit c.args._quota c.args._least) c.requires.stop c.requires.named refl,
)
