use Rattle.std.proofs.Common.{◌≡◌, ◌^◌, ◌+◌, ◌≤◌, ℕ, length, ap, sym, ◌∙◌, subst, arith, vec_len}
use Rattle.block_arena.specs.Blocks.{AreBlocks}
use Rattle.block_arena.proofs.supply.Arena.take_back.Goals as goal

pub invariant_of-self : goal.invariant_of-self
invariant_of-self c =
    let size : ℕ = 2 ^ c.self.inside.each.shift in
    let buf = c.buf.inside in
    let same : 2 ^ buf.each.shift ≡ size = ap (λ b. b.block_len) c.buf.view_is ∙ c.requires.block_len ∙ sym (ap (λ a. a.block_len) c.self.view_is) in
    let sizes : AreBlocks size buf.blocks.items = subst (λ (n : ℕ). AreBlocks n buf.blocks.items) same c.buf.invariant.1 in
    let room : vec_len c.self.inside.unused + vec_len c.self.inside.back + length buf.blocks.items ≤ c.self.inside.opened = rw (← c.self.view_is, ← c.buf.view_is) at c.requires.room in
    (c.self.invariant.0, omega (arith, buf.blocks.ok.0), omega (arith, c.self.invariant.2), c.self.invariant.3, c.move_blocks.ensures.to_sizes size sizes c.self.invariant.4)
