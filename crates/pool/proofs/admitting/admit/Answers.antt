use Rattle.std.proofs.Common.{◌≡◌, ◌<◌, ◌+◌, ℕ, [], None, Result, IfOk, OnOk, subst}
use Rattle.std.specs.FinMap.{get}
use Rattle.reservation_tree.specs.declared.errors.PoolErr.{PoolErr}
use Rattle.pin_core.specs.StateOf.{state_of}
use Rattle.pin_core.specs.calls.Sessions.{query_of}
use Rattle.pin_core.specs.calls.Opening.{opening_entries, spare_of}
use Rattle.pin_core.specs.Standing.{Enters}
use Rattle.pool.proofs.Came.{not_refused}
use Rattle.pool.proofs.Trailed.{begun_trail}
use Rattle.pool.proofs.Stood.{begun_seat}
use Rattle.pool.proofs.admitting.admit.Goals as goal

pub unwrap-number-requires : goal.unwrap-number-requires
unwrap-number-requires g c = not_refused c.open_session.result (λ is. c.requires.granted (c.open_session.ensures.refused.0 is))

pub tracker-tracker-requires : goal.tracker-tracker-requires
tracker-tracker-requires g c =
    let n : ℕ = c.unwrap-number.result in
    begun_seat g.D.Slot n (query_of (state_of c.open_session.new.self) n) c.args.limit c.args.quota c.args.least c.args.shared.now.state c.open_session.new.self
    (subst (λ (r : Result ℕ PoolErr). IfOk r (λ s. Enters g.D.Slot (opening_entries s (query_of (state_of c.open_session.new.self) s) c.args.limit c.args.quota c.args.least) [] [] c.args.shared.now.state c.open_session.new.self)) c.unwrap-number.ensures c.open_session.ensures.ok)

pub returns-clause-opens : goal.returns-clause-opens
returns-clause-opens g c =
    let n : ℕ = c.unwrap-number.result in
    let fresh : (n < 240) × (get (state_of c.args.shared.now.state).sessions n ≡ None) =
    subst (λ (r : Result ℕ PoolErr). IfOk r (λ s. (s < 240) × (get (state_of c.args.shared.now.state).sessions s ≡ None))) c.unwrap-number.ensures c.open_session.ensures.fresh in
    record {
      number = fresh.0;
      vacant = fresh.1;
      enters = subst (λ (r : Result ℕ PoolErr). IfOk r (λ s. Enters g.D.Slot (opening_entries s (query_of (state_of c.open_session.new.self) s) c.args.limit c.args.quota c.args.least) [] [] c.args.shared.now.state c.open_session.new.self)) c.unwrap-number.ensures c.open_session.ensures.ok;
      spare = subst (λ (r : Result ℕ PoolErr). OnOk r (spare_of c.open_session.new.self + c.args.quota ≡ spare_of c.args.shared.now.state)) c.unwrap-number.ensures c.open_session.ensures.spare;
    }

pub returns-clause-trail : goal.returns-clause-trail
returns-clause-trail g c =
    let n : ℕ = c.unwrap-number.result in
    begun_trail c.args.shared.now.trail c.enter.new.trail c.enter-2.new.trail n (query_of (state_of c.open_session.new.self) n) c.args.limit c.args.quota c.args.least c.tracker-tracker.result c.of.result
    c.tracker-tracker.ensures c.of.ensures c.enter.ensures c.enter-2.ensures
