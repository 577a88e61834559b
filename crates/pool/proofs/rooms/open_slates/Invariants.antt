use Rattle.std.proofs.Common.{◌≡◌, ◌≤◌, vec_capacity, vec_len}
use Rattle.std.specs.List.{All}
use Rattle.pool.specs.Admitting.{HasRoomFor}
use Rattle.pool.proofs.rooms.open_slates.Given as goal

abbrev pub invariant-loop-i : goal.invariant-loop-i
invariant-loop-i l = (vec_len l.slates ≡ l._i) × (l.count ≤ vec_capacity l.slates) × All (HasRoomFor l.most) l.slates.items
