use Rattle.std.proofs.Common.{◌≡◌, ◌≤◌, drop, length, map, vec_capacity, vec_len}
use Rattle.pool.specs.Asking.{answer_of}
use Rattle.pool.specs.Admitting.{numbered}
use Rattle.pool.specs.Parting.{AreComing}
use Rattle.pool.proofs.Parted.{PartingAll}
use Rattle.pool.proofs.parting.part_all.Given as goal

abbrev pub invariant-loop-i : goal.invariant-loop-i
invariant-loop-i g l =
    (vec_len l.answers ≡ l.i) × (length l.asks ≤ vec_capacity l.answers)
    × AreComing g.T.Opened.opening g.T.Opened.outset.told l.initial.seat.knows.seen (drop l.i l.asks) (map numbered (drop l.i l.numbers)) l.rooms.items
    × PartingAll l.turns (map numbered l.numbers) (map numbered (drop l.i l.numbers)) l.initial.seat.knows l.seat (map (answer_of (λ v. v.items) (λ s. s.seat)) l.answers.items)
