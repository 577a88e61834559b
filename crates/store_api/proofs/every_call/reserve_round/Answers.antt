use Rattle.std.proofs.Common.{◌≡◌, Ok, Err, rules}
use Rattle.reservation_tree.specs.declared.errors.PoolErr.{PoolErr}
use Rattle.store_api.specs.Holdings.{Holdings}
use Rattle.store_api.specs.Signs.{Signs}
use Rattle.store_api.specs.Alike.{AlikeButClients}
use Rattle.store_api.specs.Walks.{StoppedRound}
use Rattle.store_api.proofs.Stopping.{stopped_before}
use Rattle.store_api.proofs.Unfit.{shift_stops}
use Rattle.store_api.proofs.Reserved.{alike_on, moved_alike, fallen_alike, reserved_alike, kept_alike, unmoved_alike}
use Rattle.store_api.proofs.every_call.reserve_round.Goals as goal

pub returns-in_err-move_reservation-clause-cause : goal.returns-in_err-move_reservation-clause-cause
returns-in_err-move_reservation-clause-cause g c =
    let e : PoolErr = c.in_err-move_reservation.field-0.0 in
    let same : c.from_residual-in_err-move_reservation.result ≡ Err e = search rules in
    let first : Signs = g.St.Store.signs c.args.store.now in
    let mid : Signs = g.St.Store.signs c.reserve.new.self in
    let last : Signs = g.St.Store.signs c.move_reservation.new.self in
    let stop : StoppedRound mid last e =
    shift_stops mid last c.args.c.now.tracker c.args.other.now.tracker c.from-len.result (g.St.Store.holds c.reserve.new.self) (Err e) _ _ _ c.in_err-move_reservation.ensures.refused c.in_err-move_reservation.ensures.err in
    rw same (stopped_before e first mid last c.reserve.ensures.grows stop)

pub returns-clause-rest : goal.returns-clause-rest
returns-clause-rest g c =
    let h0 : Holdings = g.St.Store.holds c.args.store.now in
    let h1 : Holdings = g.St.Store.holds c.reserve.new.self in
    let h2 : Holdings = g.St.Store.holds c.move_reservation.new.self in
    let h3 : Holdings = g.St.Store.holds c.give_back.new.self in
    let h4 : Holdings = g.St.Store.holds c.reserve_to_fit.new.self in
    let grown : AlikeButClients h0 h1 = reserved_alike h0 h1 (Ok tt) _ _ (g.St.Store.signs c.args.store.now) (g.St.Store.signs c.args.store.now) c.in_ok-reserve.ensures.ok tt in
    let moved : AlikeButClients h1 h2 = moved_alike h1 h2 _ _ _ c.requires.apart c.in_ok-move_reservation.ensures.ok in
    let fallen : AlikeButClients h2 h3 = fallen_alike h2 h3 _ _ c.in_ok-give_back.ensures.ok in
    let last : AlikeButClients h3 h4 = reserved_alike h3 h4 c.reserve_to_fit.result _ _ _ _ c.reserve_to_fit.ensures.ok c.reserve_to_fit.ensures.err in
    alike_on h0 h1 h4 grown (alike_on h1 h2 h4 moved (alike_on h2 h3 h4 fallen last))

pub returns-in_err-move_reservation-clause-rest : goal.returns-in_err-move_reservation-clause-rest
returns-in_err-move_reservation-clause-rest g c =
    let h0 : Holdings = g.St.Store.holds c.args.store.now in
    let h1 : Holdings = g.St.Store.holds c.reserve.new.self in
    let h2 : Holdings = g.St.Store.holds c.move_reservation.new.self in
    let grown : AlikeButClients h0 h1 = reserved_alike h0 h1 (Ok tt) _ _ (g.St.Store.signs c.args.store.now) (g.St.Store.signs c.args.store.now) c.in_ok-reserve.ensures.ok tt in
    let unmoved : AlikeButClients h1 h2 = unmoved_alike h1 h2 _ _ c.in_err-move_reservation.field-0.0 _ _ _ _ c.in_err-move_reservation.ensures.refused c.in_err-move_reservation.ensures.err in
    alike_on h0 h1 h2 grown unmoved

pub returns-in_err-give_back-clause-rest : goal.returns-in_err-give_back-clause-rest
returns-in_err-give_back-clause-rest g c =
    let h0 : Holdings = g.St.Store.holds c.args.store.now in
    let h1 : Holdings = g.St.Store.holds c.reserve.new.self in
    let h2 : Holdings = g.St.Store.holds c.move_reservation.new.self in
    let h3 : Holdings = g.St.Store.holds c.give_back.new.self in
    let grown : AlikeButClients h0 h1 = reserved_alike h0 h1 (Ok tt) _ _ (g.St.Store.signs c.args.store.now) (g.St.Store.signs c.args.store.now) c.in_ok-reserve.ensures.ok tt in
    let moved : AlikeButClients h1 h2 = moved_alike h1 h2 _ _ _ c.requires.apart c.in_ok-move_reservation.ensures.ok in
    alike_on h0 h1 h3 grown (alike_on h1 h2 h3 moved (kept_alike h2 h3 c.in_err-give_back.ensures.err.held))
