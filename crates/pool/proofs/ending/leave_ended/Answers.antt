use Rattle.std.proofs.Common.{◌≡◌, ◌+◌, ◌++◌, List, refl, sym, ◌∙◌, subst}
use Rattle.reservation_tree.specs.Tracker.{IsLive}
use Rattle.pin_core.specs.calls.Opening.{ending_entries, spare_of}
use Rattle.pin_core.specs.StateOf.{state_of}
use Rattle.pool.specs.declared.item.Item.{Item}
use Rattle.pool.specs.Seats.{taken_in}
use Rattle.pool.specs.Seating.{ending_items}
use Rattle.pool.specs.Standing.{StandsAs}
use Rattle.pool.proofs.Trailed.{ended_trail}
use Rattle.pool.proofs.Unstopped.{still_told}
use Rattle.pool.proofs.Stood.{query_live, spare_behind, spare_ended, stands_ended}
use Rattle.pool.proofs.ending.leave_ended.Goals as goal

pub reservation-bytes-requires : goal.reservation-bytes-requires
reservation-bytes-requires g c =
    subst (IsLive (state_of c.args.shared.state).trackers) (sym c.tracker-tracker.ensures)
    (query_live g.D.Slot g.T.Opened.opening g.T.Opened.outset.told g.T.Opened.first c.args.seat.now.knows.seen (record { trail = c.args.shared.trail; counts = c.args.shared.counts }) c.args.shared.state c.requires.stands c.args.number c.requires.live)

pub leave-requires-clause-stands : goal.leave-requires-clause-stands
leave-requires-clause-stands g c =
    let goes : c.enter-2.new.trail ≡ c.args.shared.trail ++ ending_entries (state_of c.args.shared.state) c.args.number =
    ended_trail c.args.shared.trail c.enter.new.trail c.enter-2.new.trail c.args.number (state_of c.args.shared.state) c.tracker-tracker.result c.reservation-bytes.result
    c.tracker-tracker.ensures c.reservation-bytes.ensures c.enter.ensures c.enter-2.ensures in (
      subst (λ (es : List Item). StandsAs g.D.Slot g.T.Opened.opening g.T.Opened.outset.told g.T.Opened.first (c.args.seat.now.knows.seen ++ es) (record { trail = c.enter-2.new.trail; counts = c.args.shared.counts }) c.end_session.new.self) (sym c.requires.named)
          (stands_ended g.D.Slot g.T.Opened.opening g.T.Opened.outset.told g.T.Opened.first c.args.seat.now.knows.seen (record { trail = c.args.shared.trail; counts = c.args.shared.counts }) (record { trail = c.enter-2.new.trail; counts = c.args.shared.counts }) c.args.shared.state c.end_session.new.self c.args.number
          c.requires.stands c.requires.live c.requires.no_client goes refl c.end_session.ensures.enters c.end_session.ensures.spare),
      still_told c.args.shared.stopped c.args.seat.now.knows.seen g.N.Adds.entries (ending_items (state_of c.args.shared.state) c.args.number) c.requires.stop c.requires.named refl,
    )

pub returns-clause-spare : goal.returns-clause-spare
returns-clause-spare g c =
    let spare : spare_of c.end_session.new.self + taken_in (c.args.seat.now.knows.seen ++ ending_items (state_of c.args.shared.state) c.args.number) ≡ spare_of c.args.shared.state + taken_in c.args.seat.now.knows.seen =
    spare_ended g.D.Slot g.T.Opened.opening g.T.Opened.outset.told g.T.Opened.first c.args.seat.now.knows.seen (record { trail = c.args.shared.trail; counts = c.args.shared.counts }) c.args.shared.state c.end_session.new.self c.args.number c.requires.stands c.requires.live c.end_session.ensures.spare in
    spare_behind c.args.seat.now.knows c.leave.new.seat.knows g.N.Adds.entries (ending_items (state_of c.args.shared.state) c.args.number) (spare_of c.end_session.new.self) c.spare-spare.result g.T.Opened.opening.slots
    (spare ∙ c.requires.stands.spare) c.spare-spare.ensures c.leave.ensures.grown c.requires.named
