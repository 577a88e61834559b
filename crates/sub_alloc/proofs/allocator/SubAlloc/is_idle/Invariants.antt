use Rattle.std.proofs.Common.{◌≡◌, ℕ, ◌<◌, None, get_or}
use Rattle.sub_alloc.proofs.allocator.SubAlloc.is_idle.Given as goal

abbrev pub invariant-loop-number : goal.invariant-loop-number
invariant-loop-number l = (u : ℕ) → u < l.number → get_or l.self.buffers u None ≡ None
