use Rattle.std.proofs.Common.{ℕ, [], ◌∷◌, IfOk, sym, subst}
use Rattle.pool_model.specs.declared.event.Event.TheVariants.{Create}
use Rattle.pin_core.specs.StateOf.{state_of}
use Rattle.pin_core.specs.calls.Coming.{CanHold}
use Rattle.session_calls.specs.Coming.{Evicts}
use Rattle.session_calls.proofs.Fresh.{can_hold}
use Rattle.store_api.specs.Holdings.{length_of}
use Rattle.session_calls.specs.Needing.{EntersNeeded}
use Rattle.session_calls.specs.Acting.{Acts, held_by, signs_by}
use Rattle.session_calls.specs.Coming.{IsFreshPage}
use Rattle.session_calls.proofs.Knowing.{knows}
use Rattle.session_calls.proofs.Arriving.{needed_created, ready_created, acts_created, fresh_created, spent_created}
use Rattle.session_calls.proofs.hand.Hand.create.Goals as goal

pub bring_page-requires-clause-can : goal.bring_page-requires-clause-can
bring_page-requires-clause-can g c =
    subst (λ (t : ℕ). CanHold (state_of c.args.self.now.state) (record { session = c.args.self.now.session; tracker = t }) c.args.shell) (sym c.tracker.ensures)
    (can_hold (knows g.D.Slot g.O.Opened.opening g.O.Opened.outset c.args.self.now c.requires.ready) c.args.c.now.tracker c.args.shell c.requires.client c.requires.blocks c.requires.room)

pub returns-clause-ok : goal.returns-clause-ok
returns-clause-ok g c =
    subst (λ (t : ℕ). IfOk c.bring_page.result (λ made. Acts (Evicts (Create made.0.name t c.args.shell made.0.key ∷ [])) c.args.self.now c.bring_page.new.hand)) c.tracker.ensures
    (acts_created g.D.Slot g.O.Opened.opening g.O.Opened.outset c.args.self.now c.requires.ready c.tracker.result c.args.shell c.bring_page.new.hand c.bring_page.result c.bring_page.ensures.goes)

pub returns-clause-page : goal.returns-clause-page
returns-clause-page g c =
    subst (λ (t : ℕ). IfOk c.bring_page.result (λ made. IsFreshPage t c.args.shell made (held_by g.O.Opened.opening g.O.Opened.outset c.args.self.now) (signs_by g.O.Opened.opening c.args.self.now))) c.tracker.ensures
    (fresh_created g.D.Slot g.O.Opened.opening g.O.Opened.outset c.args.self.now c.requires.ready c.tracker.result c.args.shell c.bring_page.new.hand c.bring_page.result
    c.bring_page.ensures.page c.bring_page.ensures.buffer c.bring_page.ensures.left)

pub returns-clause-err : goal.returns-clause-err
returns-clause-err g c =
    spent_created g.D.Slot g.O.Opened.opening g.O.Opened.outset c.args.self.now c.requires.ready c.tracker.result c.args.shell c.bring_page.new.hand c.bring_page.result c.bring_page.ensures.err

pub returns-clause-ready : goal.returns-clause-ready
returns-clause-ready g c =
    ready_created g.D.Slot g.O.Opened.opening g.O.Opened.outset c.args.self.now c.requires.ready c.tracker.result c.args.shell c.bring_page.new.hand c.bring_page.result c.bring_page.ensures.goes c.bring_page.ensures.err

pub returns-clause-needed : goal.returns-clause-needed
returns-clause-needed g c =
    subst (λ (t : ℕ). EntersNeeded t (length_of c.args.shell (held_by g.O.Opened.opening g.O.Opened.outset c.args.self.now)) c.args.self.now c.bring_page.new.hand) c.tracker.ensures
    (needed_created g.D.Slot g.O.Opened.opening g.O.Opened.outset c.args.self.now c.requires.ready c.tracker.result c.args.shell c.bring_page.new.hand c.bring_page.result
    c.bring_page.ensures.goes c.bring_page.ensures.err c.bring_page.ensures.room)
