use Rattle.std.proofs.Common.{ℕ, [], ◌∷◌, refl, sym, subst}
use Rattle.pool_model.specs.declared.event.Event.TheVariants.{Alloc}
use Rattle.pin_core.specs.StateOf.{state_of}
use Rattle.pin_core.specs.calls.Coming.{CanHold}
use Rattle.session_calls.specs.Coming.{Evicts, IsFreshLoan}
use Rattle.session_calls.proofs.Fresh.{can_hold, fresh_loan}
use Rattle.session_calls.specs.Acting.{Acts, held_by}
use Rattle.session_calls.proofs.Knowing.{knows}
use Rattle.session_calls.proofs.Arriving.{acts_evicting, needed_evicting, ready_evicting}
use Rattle.session_calls.proofs.hand.Hand.alloc.Goals as goal

pub bring_loan-requires : goal.bring_loan-requires
bring_loan-requires g c = record {
  can =
      subst (λ (t : ℕ). CanHold (state_of c.args.self.now.state) (record { session = c.args.self.now.session; tracker = t }) c.args.shell) (sym c.tracker.ensures)
      (can_hold (knows g.D.Slot g.O.Opened.opening g.O.Opened.outset c.args.self.now c.requires.ready) c.args.c.now.tracker c.args.shell c.requires.client c.requires.blocks c.requires.room);
}

pub returns-clause-acts : goal.returns-clause-acts
returns-clause-acts g c =
    subst (λ (t : ℕ). Acts (Evicts (Alloc c.bring_loan.result.number t c.args.shell ∷ [])) c.args.self.now c.bring_loan.new.hand) c.tracker.ensures
    (acts_evicting g.D.Slot c.args.self.now c.bring_loan.new.hand c.args.shell (Alloc c.bring_loan.result.number c.tracker.result c.args.shell) c.bring_loan.ensures.goes refl)

pub returns-clause-loan : goal.returns-clause-loan
returns-clause-loan g c =
    subst (λ (t : ℕ). IsFreshLoan t c.args.shell c.bring_loan.result (held_by g.O.Opened.opening g.O.Opened.outset c.args.self.now)) c.tracker.ensures
    (fresh_loan (knows g.D.Slot g.O.Opened.opening g.O.Opened.outset c.args.self.now c.requires.ready) c.tracker.result c.args.shell c.bring_loan.result c.bring_loan.ensures.fresh c.bring_loan.ensures.loan)

pub returns-clause-ready : goal.returns-clause-ready
returns-clause-ready g c =
    ready_evicting g.D.Slot c.args.self.now c.bring_loan.new.hand c.args.shell (Alloc c.bring_loan.result.number c.tracker.result c.args.shell) c.bring_loan.ensures.goes refl
    g.O.Opened.opening g.O.Opened.outset c.requires.ready refl c.requires.ready.rests.live c.requires.ready.rests.few

pub returns-clause-needed : goal.returns-clause-needed
returns-clause-needed g c =
    needed_evicting g.D.Slot c.args.self.now c.bring_loan.new.hand c.args.shell (Alloc c.bring_loan.result.number c.tracker.result c.args.shell) c.bring_loan.ensures.goes
    g.O.Opened.opening g.O.Opened.outset c.requires.ready c.args.c.now.tracker (λ s. tt) c.bring_loan.ensures.room
