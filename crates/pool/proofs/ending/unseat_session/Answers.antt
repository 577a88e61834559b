use Rattle.std.proofs.Common.{◌≡◌, refl, sym, ap, ◌∙◌, subst}
use Rattle.turn_table.specs.Face.{Spot}
use Rattle.pool.specs.declared.item.Item.{Item}
use Rattle.pool.specs.Sitting.{Sitting, held_by}
use Rattle.pool.specs.Seating.{Ends}
use Rattle.pool.proofs.Ended.{Met, meets, is_live, no_child, has_both, is_pass, ends}
use Rattle.pool.proofs.ending.unseat_session.Goals as goal

pub leave_ended-pass-inside-requires-clause-named : goal.leave_ended-pass-inside-requires-clause-named
leave_ended-pass-inside-requires-clause-named g c = refl

pub leave_ended-pass-inside-requires-clause-live : goal.leave_ended-pass-inside-requires-clause-live
leave_ended-pass-inside-requires-clause-live g c =
    let s : Sitting = record { number = c.seat.inside.number; spot = c.seat.inside.spot } in
    let met : Met c.pass.inside.seat s c.enter-shared.new.seat.knows =
    meets c.enter-shared.ensures.kept.0 c.spot.view_is c.join.ensures.joined c.join.ensures.seen c.join.ensures.other c.enter-shared.ensures.kept.1 c.enter-shared.ensures.seen in
    is_live c.seat.invariant.sits met c.enter-shared.ensures.stands.0

pub leave_ended-pass-inside-requires-clause-no_client : goal.leave_ended-pass-inside-requires-clause-no_client
leave_ended-pass-inside-requires-clause-no_client g c =
    let s : Sitting = record { number = c.seat.inside.number; spot = c.seat.inside.spot } in
    let met : Met c.pass.inside.seat s c.enter-shared.new.seat.knows =
    meets c.enter-shared.ensures.kept.0 c.spot.view_is c.join.ensures.joined c.join.ensures.seen c.join.ensures.other c.enter-shared.ensures.kept.1 c.enter-shared.ensures.seen in
    no_child c.seat.invariant.sits met c.enter-shared.ensures.stands.0 (subst (λ (x : Sitting). (held_by g.T.Opened.opening g.T.Opened.outset.told x).live_clients ≡ 0) (sym c.seat.view_is) c.requires.no_client)

pub leave_ended-pass-inside-requires-clause-rights : goal.leave_ended-pass-inside-requires-clause-rights
leave_ended-pass-inside-requires-clause-rights g c =
    let s : Sitting = record { number = c.seat.inside.number; spot = c.seat.inside.spot } in
    let met : Met c.pass.inside.seat s c.enter-shared.new.seat.knows =
    meets c.enter-shared.ensures.kept.0 c.spot.view_is c.join.ensures.joined c.join.ensures.seen c.join.ensures.other c.enter-shared.ensures.kept.1 c.enter-shared.ensures.seen in
    has_both c.seat.invariant.sits met c.pass.invariant

pub invariant_of-pass : goal.invariant_of-pass
invariant_of-pass g c =
    let s : Sitting = record { number = c.seat.inside.number; spot = c.seat.inside.spot } in
    let met : Met c.pass.inside.seat s c.enter-shared.new.seat.knows =
    meets c.enter-shared.ensures.kept.0 c.spot.view_is c.join.ensures.joined c.join.ensures.seen c.join.ensures.other c.enter-shared.ensures.kept.1 c.enter-shared.ensures.seen in
    is_pass c.seat.invariant.sits met c.enter-shared.ensures.stands.0 c.pass.invariant c.leave_ended-pass-inside.new.seat c.leave_ended-pass-inside.ensures.grown c.leave_ended-pass-inside.result c.leave_ended-pass-inside.ensures.spare

pub returns : goal.returns
returns g c =
    let s : Sitting = record { number = c.seat.inside.number; spot = c.seat.inside.spot } in
    let met : Met c.pass.inside.seat s c.enter-shared.new.seat.knows =
    meets c.enter-shared.ensures.kept.0 c.spot.view_is c.join.ensures.joined c.join.ensures.seen c.join.ensures.other c.enter-shared.ensures.kept.1 c.enter-shared.ensures.seen in
    let new : Spot Item = c.leave_ended-pass-inside.new.seat in
    let table : new.table ≡ c.pass.inside.seat.table = c.leave_ended-pass-inside.ensures.table ∙ sym c.requires.table.0 ∙ ap (λ (p : Spot Item). p.table) (sym c.pass.view_is) in
    subst (λ (p : Spot Item). Ends g.T.Opened.opening c.args.seat p new) c.pass.view_is
    (subst (λ (x : Sitting). Ends g.T.Opened.opening x c.pass.inside.seat new) c.seat.view_is
    (ends c.seat.invariant.sits met c.enter-shared.ensures.stands.0 c.pass.invariant new c.leave_ended-pass-inside.ensures.grown table))
