use Rattle.std.proofs.Common.{◌≡◌, ◌+◌, vec_len}
use Rattle.std.specs.List.{All}
use Rattle.pool.specs.Rooms.{IsEmptyRoom}
use Rattle.pool.proofs.rooms.close_rooms.Given as goal

abbrev pub invariant-loop-i : goal.invariant-loop-i
invariant-loop-i g l = (vec_len l.rooms + l._i ≡ l._i-end) × All IsEmptyRoom l.rooms.items
