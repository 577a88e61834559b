use Rattle.std.proofs.Common.{◌≡◌, drop}
use Rattle.outside.specs.InMemory.{lie_at}
use Rattle.outside.proofs.memory.slot.MemSlot.lie.Given as goal

abbrev pub invariant-loop-i : goal.invariant-loop-i
invariant-loop-i l = lie_at l.call l.len (drop l.i l.self.lies) ≡ lie_at l.call l.len l.self.lies
