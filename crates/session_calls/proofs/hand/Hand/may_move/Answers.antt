use Rattle.std.proofs.Common.{◌-◌, ℕ, Ok, Err, ap}
use Rattle.reservation_tree.specs.declared.errors.PoolErr.{PoolErr}
use Rattle.reservation_tree.specs.declared.errors.PoolErr.TheVariants.{NoReservation}
use Rattle.store_api.specs.Refusals.{move_refusal}
use Rattle.session_calls.proofs.Refusals.{no_error, but_error, with_error}
use Rattle.session_calls.specs.Acting.{held_by}
use Rattle.session_calls.proofs.Accounts.{read_lives}
use Rattle.session_calls.proofs.Granted.{no_less, move_free, move_error}
use Rattle.session_calls.proofs.hand.Hand.may_move.Goals as goal

pub limit-requires : goal.limit-requires
limit-requires g c = read_lives g.D.Slot g.O.Opened.opening g.O.Opened.outset c.args.self.now c.requires.ready c.tracker-getter.result c.args.to.now.tracker c.tracker-getter.ensures c.requires.to

pub reservation-requires : goal.reservation-requires
reservation-requires g c = read_lives g.D.Slot g.O.Opened.opening g.O.Opened.outset c.args.self.now c.requires.ready c.tracker-getter.result c.args.to.now.tracker c.tracker-getter.ensures c.requires.to

pub overflow_sub-room : goal.overflow_sub-room
overflow_sub-room g c = no_less g.D.Slot g.O.Opened.opening g.O.Opened.outset c.args.self.now c.requires.ready c.tracker-getter.result c.args.to.now.tracker c.tracker-getter.ensures c.requires.to c.limit.result c.reservation.result c.limit.ensures c.reservation.ensures

pub returns-then-bytes-room-clause-refused : goal.returns-then-bytes-room-clause-refused
returns-then-bytes-room-clause-refused g c =
    no_error (move_refusal c.args.from.now.tracker c.args.to.now.tracker c.args.bytes (held_by g.O.Opened.opening g.O.Opened.outset c.args.self.now)) (Ok tt)
    (move_free g.D.Slot g.O.Opened.opening g.O.Opened.outset c.args.self.now c.requires.ready c.tracker-getter.result c.args.to.now.tracker c.tracker-getter.ensures c.requires.to c.limit.result c.reservation.result c.limit.ensures c.reservation.ensures
    c.tracker.result c.args.from.now.tracker c.tracker.ensures c.if-eq.ensures c.args.bytes c.if-bytes-room.true)

pub returns-clause-refused : goal.returns-clause-refused
returns-clause-refused g c =
    with_error (move_refusal c.args.from.now.tracker c.args.to.now.tracker c.args.bytes (held_by g.O.Opened.opening g.O.Opened.outset c.args.self.now)) _ (NoReservation c.args.to.now.tracker c.args.bytes (c.limit.result - c.reservation.result))
    (move_error g.D.Slot g.O.Opened.opening g.O.Opened.outset c.args.self.now c.requires.ready c.tracker-getter.result c.args.to.now.tracker c.tracker-getter.ensures c.requires.to c.limit.result c.reservation.result c.limit.ensures c.reservation.ensures
    c.tracker.result c.args.from.now.tracker c.tracker.ensures c.if-eq.ensures c.args.bytes c.if-bytes-room.false)
    (ap (λ (t : ℕ). Err (NoReservation t c.args.bytes (c.limit.result - c.reservation.result))) c.tracker-getter.ensures)

pub returns-clause-granted : goal.returns-clause-granted
returns-clause-granted g c =
    let e : PoolErr = NoReservation c.args.to.now.tracker c.args.bytes (c.limit.result - c.reservation.result) in
    but_error (move_refusal c.args.from.now.tracker c.args.to.now.tracker c.args.bytes (held_by g.O.Opened.opening g.O.Opened.outset c.args.self.now)) (Err e) e
    (move_error g.D.Slot g.O.Opened.opening g.O.Opened.outset c.args.self.now c.requires.ready c.tracker-getter.result c.args.to.now.tracker c.tracker-getter.ensures c.requires.to c.limit.result c.reservation.result c.limit.ensures c.reservation.ensures
    c.tracker.result c.args.from.now.tracker c.tracker.ensures c.if-eq.ensures c.args.bytes c.if-bytes-room.false)
