use Rattle.std.proofs.Common.{ℕ, List, length, ap, arith}
use Rattle.pin_core.proofs.CleanRoom.{clean_list}
use Rattle.pin_core.proofs.Roomed.{few_go, room_is}
use Rattle.pin_core.proofs.parts.Parts.make_room.Goals as goal

pub make_room-requires-clause-clean : goal.make_room-requires-clause-clean
make_room-requires-clause-clean g c = clean_list c.args.self.now c.requires.kept c.requires.laws

pub make_room-requires-clause-room : goal.make_room-requires-clause-room
make_room-requires-clause-room g c =
    let few = few_go c.args.self.now c.requires.kept c.requires.laws c.args.blocks c.requires.few in
    let none = c.clear.ensures.len in
    let wide = c.clear.ensures.capacity in
    let had = c.gone.invariant in
    omega (arith, few, none, wide, had)

pub returns-clause-parts : goal.returns-clause-parts
returns-clause-parts g c =
    room_is c.args.self.now c.requires.kept c.requires.laws c.args.blocks c.make_room.new.pages c.make_room.ensures.pages c.make_room.new.self c.make_room.ensures.list c.make_room.new.arena c.make_room.ensures.arena
    c.make_room.new.evicted.items c.clear.new.self.items c.clear.ensures.items c.make_room.ensures.told (length c.as_slice.result.now) c.counted_all-self.result (ap (λ (xs : List ℕ). length xs) c.as_slice.ensures.value) c.counted_all-self.ensures
