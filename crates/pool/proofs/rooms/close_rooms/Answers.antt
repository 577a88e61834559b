use Rattle.std.proofs.Common.{◌≡◌, length, IfSome, ap, subst, arith}
use Rattle.std.specs.Option.{option_to_list}
use Rattle.std.proofs.lemmas.List.Elements.{All-pop}
use Rattle.pool.specs.Rooms.{IsEmptyRoom}
use Rattle.pool.proofs.rooms.close_rooms.Goals as goal

pub unwrap-room-requires : goal.unwrap-room-requires
unwrap-room-requires g c =
    let sum = c.loop-i.invariant.0 in
    let more = c.loop-i-test.true in
    c.pop.ensures.variant.1 (omega (arith, sum, more))

pub close_room-requires : goal.close_room-requires
close_room-requires g c = subst (λ r. IfSome r IsEmptyRoom) c.unwrap-room.ensures (All-pop IsEmptyRoom c.loop-i.rooms.items c.pop.new.self.items c.pop.result c.pop.ensures.items c.loop-i.invariant.1).1

pub loop-i-preserved : goal.loop-i-preserved
loop-i-preserved g c =
    let sum = c.loop-i.invariant.0 in
    let cases = c.pop.ensures.len in
    let one : length (option_to_list c.pop.result) ≡ 1 = ap (λ o. length (option_to_list o)) c.unwrap-room.ensures in
    (omega (arith, sum, cases, one), (All-pop IsEmptyRoom c.loop-i.rooms.items c.pop.new.self.items c.pop.result c.pop.ensures.items c.loop-i.invariant.1).0)
