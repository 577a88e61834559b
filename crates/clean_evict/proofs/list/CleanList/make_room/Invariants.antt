-- Some pages have gone, each of them needed, and each was told.
use Rattle.std.proofs.Common.{◌≡◌, ℕ, ◌+◌, length, vec_len, vec_capacity}
use Rattle.clean_evict.specs.Inside.{HasFreed}
use Rattle.clean_evict.proofs.list.CleanList.make_room.Given as goal

abbrev pub invariant-loop-self : goal.invariant-loop-self
invariant-loop-self g l =
    (count : ℕ)
    × HasFreed l.wanted count l.initial.self l.self l.initial.arena l.arena l.initial.pages l.pages l.initial.evicted.items l.evicted.items
    × (vec_len l.evicted ≡ vec_len l.initial.evicted + count)
    × (vec_capacity l.evicted ≡ vec_capacity l.initial.evicted)

abbrev pub decreases-loop-self : goal.decreases-loop-self
decreases-loop-self g l = length l.self.keys
