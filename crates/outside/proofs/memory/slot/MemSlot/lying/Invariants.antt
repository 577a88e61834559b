use Rattle.std.proofs.Common.{◌≡◌, ℕ, List, map, take}
use Rattle.outside.proofs.memory.slot.MemSlot.lying.Given as goal

abbrev pub invariant-loop-i : goal.invariant-loop-i
invariant-loop-i l = map {B = ℕ × List ℕ} (λ lie. (lie.0, lie.1.items)) l.copies.items ≡ take l.i (map {B = ℕ × List ℕ} (λ lie. (lie.0, lie.1.items)) l.lies)
