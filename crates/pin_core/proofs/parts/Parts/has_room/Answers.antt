use Rattle.std.proofs.Common.{refl, arith}
use Rattle.std.proofs.lemmas.Bool.{le-leb}
use borrow.Author.Tests.{leb-true}
use Rattle.pin_core.proofs.Rooms.{room_read, room_is}
use Rattle.pin_core.proofs.parts.Parts.has_room.Goals as goal

pub overflow_sub-result : goal.overflow_sub-result
overflow_sub-result g c =
    room_read c.args.self.now c.requires.kept c.requires.laws c.args.client c.requires.client c.of-t.result c.reservation-reservation.result c.used.result c.sum.result c.sum-2.result
    c.of-t.ensures c.reservation-reservation.ensures c.used.ensures c.sum.ensures.sum c.sum-2.ensures.sum

pub overflow_add-unwritten : goal.overflow_add-unwritten
overflow_add-unwritten g c =
    let fits = room_read c.args.self.now c.requires.kept c.requires.laws c.args.client c.requires.client c.of-t.result c.reservation-reservation.result _ c.sum.result c.sum-2.result
    c.of-t.ensures c.reservation-reservation.ensures refl c.sum.ensures.sum c.sum-2.ensures.sum in
    record { fits = omega (arith, fits) }

pub overflow_add-result : goal.overflow_add-result
overflow_add-result g c =
    let fits = room_read c.args.self.now c.requires.kept c.requires.laws c.args.client c.requires.client c.of-t.result c.reservation-reservation.result c.used.result c.sum.result c.sum-2.result
    c.of-t.ensures c.reservation-reservation.ensures c.used.ensures c.sum.ensures.sum c.sum-2.ensures.sum in
    record { fits = omega (arith, fits) }

pub returns : goal.returns
returns g c =
    let both = room_is c.args.self.now c.requires.kept c.requires.laws c.args.client c.requires.client c.args.bytes c.of-t.result c.reservation-reservation.result c.used.result c.sum.result c.sum-2.result
    c.of-t.ensures c.reservation-reservation.ensures c.used.ensures c.sum.ensures.sum c.sum-2.ensures.sum in
    (λ is. both.0 (leb-true _ _ is), λ room. le-leb _ _ (both.1 room))
