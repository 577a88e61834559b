use Rattle.std.proofs.Common.{rules, IsOk, [], ◌∷◌, refl}
use Rattle.reservation_tree.specs.Change.{move_refusal}
use Rattle.pin_core.specs.StateOf.{state_of}
use Rattle.pin_core.specs.Standing.{Enters}
use Rattle.pin_core.specs.calls.Entering.{move_entry}
use Rattle.session_calls.proofs.Refusals.{of_ok, unrefused_ok}
use Rattle.session_calls.specs.declared.hand.Hand.{Hand}
use Rattle.session_calls.proofs.Accounts.{token_client}
use Rattle.session_calls.proofs.Granted.{token_unused, other_client, unrefused_here, passed_on}
use Rattle.session_calls.proofs.hand.Hand.pass_on.Goals as goal

pub move_now-requires-clause-client : goal.move_now-requires-clause-client
move_now-requires-clause-client g c = token_client g.D.Slot g.O.Opened.opening g.O.Opened.outset c.args.self.now c.requires.ready c.of-mine.result c.tracker-giver.result c.args.from.now.tracker c.of-mine.ensures c.tracker-giver.ensures c.requires.from

pub move_now-requires-clause-to : goal.move_now-requires-clause-to
move_now-requires-clause-to g c =
    other_client g.D.Slot g.O.Opened.opening g.O.Opened.outset c.args.self.now c.requires.ready c.of-mine.result c.tracker-giver.result c.args.from.now.tracker c.of-mine.ensures c.tracker-giver.ensures
    c.of-other.result c.tracker-getter.result c.args.to.now.tracker c.of-other.ensures c.tracker-getter.ensures c.requires.to

pub move_now-requires-clause-unused : goal.move_now-requires-clause-unused
move_now-requires-clause-unused g c = token_unused g.D.Slot g.O.Opened.opening g.O.Opened.outset c.args.self.now c.requires.ready c.of-mine.result c.tracker-giver.result c.args.from.now.tracker c.of-mine.ensures c.tracker-giver.ensures c.requires.from c.args.bytes c.requires.unused

pub unwrap-requires : goal.unwrap-requires
unwrap-requires g c =
    unrefused_ok c.move_now.result (move_refusal c.args.bytes c.of-mine.result.tracker c.of-other.result.tracker (state_of c.args.self.now.state).trackers) c.move_now.ensures.refused.0
    (unrefused_here g.D.Slot g.O.Opened.opening g.O.Opened.outset c.args.self.now c.requires.ready c.of-mine.result c.tracker-giver.result c.args.from.now.tracker c.of-mine.ensures c.tracker-giver.ensures
    c.of-other.result c.tracker-getter.result c.args.to.now.tracker c.of-other.ensures c.tracker-getter.ensures c.requires.from c.requires.to c.args.bytes c.requires.granted)

pub returns-clause-ready : goal.returns-clause-ready
returns-clause-ready g c =
    let new : Hand g.row.D.Denot = record { state = c.move_now.new.self; trail = c.enter.new.trail; counts = c.args.self.now.counts; session = c.args.self.now.session; gone = c.args.self.now.gone } in
    let ok : IsOk c.move_now.result = search rules in
    passed_on g.D.Slot g.O.Opened.opening g.O.Opened.outset c.args.self.now c.requires.ready c.of-mine.result c.tracker-giver.result c.args.from.now.tracker c.of-mine.ensures c.tracker-giver.ensures
    c.of-other.result c.tracker-getter.result c.args.to.now.tracker c.of-other.ensures c.tracker-getter.ensures c.args.bytes new
    (of_ok (Enters g.D.Slot (move_entry c.of-mine.result.session c.of-mine.result.tracker c.of-other.result.tracker c.args.bytes ∷ []) [] [] c.args.self.now.state new.state) c.move_now.result ok c.move_now.ensures.ok)
    c.enter.ensures refl refl
