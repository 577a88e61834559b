use Rattle.std.proofs.Common.{◌≡◌, ◌+◌, ◌*◌, ◌≤◌, length}
use Rattle.std.specs.List.{sum_by}
use Rattle.buffer_transfer.specs.Buffers.{blocks_for, held_by}
use Rattle.buffer_transfer.proofs.book.BufferBook.held.Given as goal

-- what is counted and what is left make the whole, and each row that is left adds less than 2^32
abbrev pub invariant-loop-lent : goal.invariant-loop-lent
invariant-loop-lent l =
    (goal.iterator-loop-lent).can_next l.lent-iterator ×
    (goal.iterator-loop-lent).is_finite l.lent-iterator ×
    (l.blocks + sum_by (λ e. blocks_for l.client e.1) l.lent-iterator ≡ held_by l.self l.client) ×
    (l.blocks + length l.lent-iterator * 4294967295 ≤ 4294967295 * 4294967295)
