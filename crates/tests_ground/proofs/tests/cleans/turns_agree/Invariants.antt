-- All eight blocks are free or clean between turns.
use Rattle.std.proofs.Common.{◌≡◌, ◌+◌, ◌≤◌, length}
use Rattle.clean_evict.specs.Eviction.{IsCleanList, blocks_of}
use Rattle.tests_ground.proofs.tests.cleans.turns_agree.Given as goal

abbrev pub invariant-loop-turn : goal.invariant-loop-turn
invariant-loop-turn g l =
    IsCleanList l.arena l.pages l.list.keys
    × (l.arena.free + blocks_of l.pages l.list.keys ≡ 8)
    × (length l.list.keys ≤ l.turn)
    × (l.pages.room ≤ l.list.nodes)
