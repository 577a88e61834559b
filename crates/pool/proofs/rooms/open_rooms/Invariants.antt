use Rattle.std.proofs.Common.{◌≡◌, ◌≤◌, vec_capacity, vec_len}
use Rattle.std.specs.List.{All}
use Rattle.pool.specs.Rooms.{IsRoom}
use Rattle.pool.proofs.rooms.open_rooms.Given as goal

abbrev pub invariant-loop-i : goal.invariant-loop-i
invariant-loop-i g l = (vec_len l.rooms ≡ l._i) × (l.count ≤ vec_capacity l.rooms) × All (IsRoom l.most) l.rooms.items
