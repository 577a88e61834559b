use Rattle.std.proofs.Common.{◌≡◌, ◌≤◌, ◌+◌, [], drop, length, map, vec_capacity, vec_len}
use Rattle.std.specs.List.{All}
use Rattle.pool.proofs.Parted.{Parting}
use Rattle.pool.proofs.parting.part_ask.Given as goal

abbrev pub invariant-loop-number : goal.invariant-loop-number
invariant-loop-number g l =
    (vec_len l.sessions ≡ l.number-index) × (length l.numbers ≤ vec_capacity l.sessions)
    × (length l.numbers ≤ length l.accounts.items + l.number-index) × All (λ accounts. accounts ≡ []) l.accounts.items
    × Parting l.turns l.numbers (drop l.number-index l.numbers) l.initial.seat.knows l.seat (map (λ s. s.seat) l.sessions.items)
