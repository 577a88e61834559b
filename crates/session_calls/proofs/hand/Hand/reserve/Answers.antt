use Rattle.std.proofs.Common.{rules, ◌≡◌, Result, Ok, Err, IfErr, refl, sym, subst}
use Rattle.std.proofs.lemmas.Bool.{false≢true}
use Rattle.reservation_tree.specs.Answer.{IsFrom}
use Rattle.reservation_tree.specs.declared.errors.PoolErr.{PoolErr}
use Rattle.pin_core.specs.StateOf.{state_of}
use Rattle.pin_core.specs.calls.Entering.{growth_refusal}
use Rattle.session_calls.specs.declared.hand.Hand.{Hand}
use Rattle.session_calls.proofs.Accounts.{token_client, grew_by, growth_refused, growth_shared}
use Rattle.session_calls.proofs.hand.Hand.reserve.Goals as goal

pub increase-result-requires : goal.increase-result-requires
increase-result-requires g c = record { client = token_client g.D.Slot g.O.Opened.opening g.O.Opened.outset c.args.self.now c.requires.ready c.of-mine.result c.tracker-tracker.result c.args.c.now.tracker c.of-mine.ensures c.tracker-tracker.ensures c.requires.client }

pub returns-in_err-result-clause-reserves : goal.returns-in_err-result-clause-reserves
returns-in_err-result-clause-reserves g c = record {
  ok = search rules;
  refused =
      let same : c.from_residual.result ≡ Err c.in_err-result.field-0.0 = search rules in
      growth_refused g.D.Slot g.O.Opened.opening g.O.Opened.outset c.args.self.now c.requires.ready c.of-mine.result c.tracker-tracker.result c.args.c.now.tracker c.of-mine.ensures c.tracker-tracker.ensures c.requires.client c.requires.above c.from_residual.result c.args.bytes
      (λ some. c.from_residual.ensures.0) (subst (λ (r : Result (Unit {0}) PoolErr). IfErr r (IsFrom (growth_refusal (state_of c.args.self.now.state) c.of-mine.result.tracker c.args.bytes))) (sym same) c.in_err-result.ensures.cause);
  shared =
      let same : c.from_residual.result ≡ Err c.in_err-result.field-0.0 = search rules in
      growth_shared g.D.Slot g.O.Opened.opening g.O.Opened.outset c.args.self.now c.requires.ready c.of-mine.result c.tracker-tracker.result c.args.c.now.tracker c.of-mine.ensures c.tracker-tracker.ensures c.requires.client c.requires.above c.from_residual.result c.args.bytes
      (subst (λ (r : Result (Unit {0}) PoolErr). IfErr r (IsFrom (growth_refusal (state_of c.args.self.now.state) c.of-mine.result.tracker c.args.bytes))) (sym same) c.in_err-result.ensures.cause);
  cause = search rules;
  err = search rules;
}

pub returns-clause-reserves : goal.returns-clause-reserves
returns-clause-reserves g c = record {
  ok = search rules;
  refused =
      growth_refused g.D.Slot g.O.Opened.opening g.O.Opened.outset c.args.self.now c.requires.ready c.of-mine.result c.tracker-tracker.result c.args.c.now.tracker c.of-mine.ensures c.tracker-tracker.ensures c.requires.client c.requires.above (Ok tt) c.args.bytes
      (λ some. absurd (false≢true (c.in_ok-result.ensures.refused.1 some))) tt;
  shared = search rules;
  cause = tt;
  err = tt;
}

pub returns-clause-ready : goal.returns-clause-ready
returns-clause-ready g c =
    let new : Hand g.row.D.Denot = record { state = c.increase-result.new.self; trail = c.enter.new.trail; counts = c.args.self.now.counts; session = c.args.self.now.session; gone = c.args.self.now.gone } in
    (grew_by g.D.Slot g.O.Opened.opening g.O.Opened.outset c.args.self.now c.requires.ready c.of-mine.result c.tracker-tracker.result c.args.c.now.tracker c.of-mine.ensures c.tracker-tracker.ensures c.requires.client c.args.bytes new c.in_ok-result.ensures.ok c.enter.ensures refl refl).0
