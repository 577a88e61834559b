use Rattle.std.proofs.Common.{rules, ◌≡◌, not, List, Result, Err, IfErr, refl, sym, ap, ◌∙◌, subst, inl}
use Rattle.pool.specs.declared.account.ClientAccount.{ClientAccount}
use Rattle.reservation_tree.specs.declared.errors.PoolErr.{PoolErr}
use Rattle.reservation_tree.specs.declared.errors.PoolErr.TheVariants.{Memory}
use Rattle.pin_core.specs.StateOf.{state_of}
use Rattle.pool.specs.Seating.{IsSessionRefusal}
use Rattle.pool.proofs.Refusals.{full, vacant, refused, granted}
use Rattle.pool.proofs.seating.check_session.Goals as goal

pub returns-then-is_none-clause-err : goal.returns-then-is_none-clause-err
returns-then-is_none-clause-err g c = (full c.parts.result.now c.args.state.now c.parts.ensures.parts c.vacant.result (c.is_none.ensures ∙ ap not c.if-is_none.true) c.vacant.ensures.none, refl)

pub returns-then-limit-least-clause-err : goal.returns-then-limit-least-clause-err
returns-then-limit-least-clause-err g c = (
  vacant c.parts.result.now c.args.state.now c.parts.ensures.parts c.vacant.result (c.is_none.ensures ∙ ap not c.if-is_none.false) c.vacant.ensures.vacant,
  inl (c.if-limit-least.true, c.of.ensures, refl, refl),
)

pub returns-then-room-growth-clause-err : goal.returns-then-room-growth-clause-err
returns-then-room-growth-clause-err g c =
    refused (state_of c.args.state.now) c.args.limit c.args.least c.of-root.result c.unused.result c.saturating_sub-growth.result c.limit.result c.reservation.result
    c.of-root.ensures c.unused.ensures c.saturating_sub-growth.ensures c.limit.ensures c.reservation.ensures
    (vacant c.parts.result.now c.args.state.now c.parts.ensures.parts c.vacant.result (c.is_none.ensures ∙ ap not c.if-is_none.false) c.vacant.ensures.vacant)
    c.if-limit-least.false c.if-room-growth.true

pub returns-clause-ok : goal.returns-clause-ok
returns-clause-ok g c =
    granted (state_of c.args.state.now) c.args.limit c.args.least c.of-root.result c.unused.result c.saturating_sub-growth.result c.limit.result c.reservation.result
    c.of-root.ensures c.unused.ensures c.saturating_sub-growth.ensures c.limit.ensures c.reservation.ensures
    (vacant c.parts.result.now c.args.state.now c.parts.ensures.parts c.vacant.result (c.is_none.ensures ∙ ap not c.if-is_none.false) c.vacant.ensures.vacant)
    c.if-limit-least.false c.if-room-growth.false

pub returns-in_err-accounts-clause-err : goal.returns-in_err-accounts-clause-err
returns-in_err-accounts-clause-err g c =
    let same : c.from_residual.result ≡ Err Memory = search rules in
    subst (λ (r : Result (List ClientAccount) PoolErr). IfErr r (IsSessionRefusal (state_of c.args.state.now) c.args.limit c.args.least)) (sym same)
    (granted (state_of c.args.state.now) c.args.limit c.args.least c.of-root.result c.unused.result c.saturating_sub-growth.result c.limit.result c.reservation.result
    c.of-root.ensures c.unused.ensures c.saturating_sub-growth.ensures c.limit.ensures c.reservation.ensures
    (vacant c.parts.result.now c.args.state.now c.parts.ensures.parts c.vacant.result (c.is_none.ensures ∙ ap not c.if-is_none.false) c.vacant.ensures.vacant)
    c.if-limit-least.false c.if-room-growth.false)
