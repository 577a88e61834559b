use Rattle.std.proofs.Common.{ℕ, List, map, ap, ◌∙◌}
use Rattle.outside.proofs.Lies.{copy_more}
use Rattle.outside.proofs.memory.slot.MemSlot.lying.Goals as goal

pub loop-i-preserved : goal.loop-i-preserved
loop-i-preserved c =
    let e = c.index-lies-i.result in
    let copied = (c.in_ok-from_slice.ensures).items ∙ c.as_slice.ensures.value in
    ap (map {B = ℕ × List ℕ} (λ lie. (lie.0, lie.1.items))) (c.in_ok-push.ensures).items
    ∙ copy_more {Y = ℕ × List ℕ} (λ lie. (lie.0, lie.1.items)) c.loop-i.copies.items c.args.lies.now c.loop-i.i e (e.0, c.in_ok-from_slice.field-0) c.loop-i.invariant c.loop-i-test.true c.index-lies-i.is (λ k. (e.0, copied k))
