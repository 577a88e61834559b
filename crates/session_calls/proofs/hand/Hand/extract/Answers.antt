use Rattle.std.proofs.Common.{rules, refl, ap, ◌∙◌}
use Rattle.store_api.specs.Tokens.{LoanToken}
use Rattle.session_calls.proofs.Pages.{last_pin, is_there}
use Rattle.session_calls.specs.declared.hand.Hand.{Hand}
use Rattle.session_calls.proofs.Knowing.{knows}
use Rattle.session_calls.proofs.Left.{extracted}
use Rattle.session_calls.proofs.hand.Hand.extract.Goals as goal

pub extract-loan-requires : goal.extract-loan-requires
extract-loan-requires g c = record { last = last_pin (knows g.D.Slot g.O.Opened.opening g.O.Opened.outset c.args.self.now c.requires.ready) c.args.p c.requires.page c.args.buf c.requires.pinned c.requires.buffer }

pub returns-clause-extracts : goal.returns-clause-extracts
returns-clause-extracts g c = record {
  did = search rules;
  fresh = (knows g.D.Slot g.O.Opened.opening g.O.Opened.outset c.args.self.now c.requires.ready).fresh.loans c.extract-loan.result.number c.extract-loan.ensures.fresh;
  client = ap (λ (l : LoanToken). l.client) c.extract-loan.ensures.loan ∙ (is_there (knows g.D.Slot g.O.Opened.opening g.O.Opened.outset c.args.self.now c.requires.ready) c.args.p c.requires.page).client;
  buffer = search rules;
}

pub returns-clause-ready : goal.returns-clause-ready
returns-clause-ready g c =
    let new : Hand g.row.D.Denot = record { state = c.extract-loan.new.self; trail = c.enter.new.trail; counts = c.args.self.now.counts; session = c.args.self.now.session; gone = c.args.self.now.gone } in
    extracted g.D.Slot g.O.Opened.opening g.O.Opened.outset c.args.self.now new c.requires.ready c.args.p c.name-page.result c.number-buffer.result c.extract-loan.result.number c.requires.page c.name-page.ensures c.number-buffer.ensures c.enter.ensures refl refl c.extract-loan.ensures.enters
