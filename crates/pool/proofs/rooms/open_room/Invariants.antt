use Rattle.std.proofs.Common.{◌≡◌, ◌≤◌, [], vec_capacity, vec_len}
use Rattle.std.specs.List.{All}
use Rattle.pool.proofs.rooms.open_room.Given as goal

abbrev pub invariant-loop-i : goal.invariant-loop-i
invariant-loop-i g l = (vec_len l.accounts ≡ l._i) × (l.most ≤ vec_capacity l.accounts) × All (λ accounts. accounts ≡ []) l.accounts.items
