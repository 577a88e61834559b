use Rattle.std.proofs.Common.{◌++◌, List, sym, subst}
use Rattle.pin_core.specs.Invariant.{IsKept}
use Rattle.pin_core.specs.Lawful.{Lawful}
use Rattle.turn_table.specs.Knowledge.{NeedsOnly}
use Rattle.session_calls.specs.declared.hand.Hand.{Hand}
use Rattle.session_calls.specs.Having.{sight_of}
use Rattle.pool.specs.declared.item.Item.{Item}
use Rattle.pool.specs.Items.{needs_of}
use Rattle.pool.specs.Standing.{StandsAs}
use Rattle.pool.specs.Taking.{made_since}
use Rattle.pool.proofs.Given.{needs_since, stands_since}
use Rattle.pool.proofs.NoStop.{none_stops}
use Rattle.pool.proofs.Unstopped.{still_told}
use Rattle.pool.proofs.holding.leave_made.Goals as goal

pub leave-requires-clause-stands : goal.leave-requires-clause-stands
leave-requires-clause-stands g c =
    let hand : Hand g.row.D.Denot = record { state = c.args.shared.state; trail = c.args.shared.trail; counts = c.args.shared.counts; session = c.args._session; gone = c.args.shared.gone } in (
      subst (λ (es : List Item). StandsAs g.D.Slot g.T.Opened.opening g.T.Opened.outset.told g.T.Opened.first (c.args.seat.now.knows.seen ++ es) (sight_of hand) hand.state) (sym c.requires.named)
          (stands_since g.D.Slot g.T.Opened.opening g.T.Opened.outset.told g.T.Opened.first c.args.seat.now hand c.requires.gives
          (subst IsKept c.parts.ensures.parts c.parts.ensures.kept) (subst Lawful c.parts.ensures.parts c.parts.ensures.laws)),
      still_told c.args.shared.stopped c.args.seat.now.knows.seen g.N.Adds.entries (made_since c.args._session c.args.seat.now.knows.seen (sight_of hand)) c.requires.stop c.requires.named
          (none_stops c.args._session c.args.seat.now.knows.seen (sight_of hand)),
    )

pub leave-requires-clause-rights : goal.leave-requires-clause-rights
leave-requires-clause-rights g c =
    let hand : Hand g.row.D.Denot = record { state = c.args.shared.state; trail = c.args.shared.trail; counts = c.args.shared.counts; session = c.args._session; gone = c.args.shared.gone } in
    subst (NeedsOnly needs_of c.args.seat.now.knows.rights) (sym c.requires.named)
    (needs_since g.D.Slot g.T.Opened.opening g.T.Opened.outset.told g.T.Opened.first c.args.seat.now hand c.requires.gives)
