use Rattle.std.proofs.Common.{◌≡◌, ◌^◌, ◌*◌, ◌≤◌, ◌+◌, ℕ, length, ap, sym, refl, ◌∙◌, arith, vec_len}
use Rattle.block_arena.specs.Blocks.{AreBlocks}
use Rattle.block_arena.proofs.Pieces.{length-blocks, no_blocks}
use Rattle.block_arena.proofs.supply.Arena.fill.Goals as goal

pub invariant_of-self : goal.invariant_of-self
invariant_of-self c =
    let size : ℕ = 2 ^ c.self.inside.each.shift in
    let before = c.self.invariant in
    (before.0, omega arith, omega arith, c.first_blocks.ensures.from_sizes, c.move_blocks.ensures.from_sizes size before.4)

-- what the shell got
sizes : (c : goal.After-result-1) → AreBlocks (2 ^ c.self.inside.each.shift) c.first_blocks.new.to.items
sizes c =
    let size : ℕ = 2 ^ c.self.inside.each.shift in
    let shell = c.shell.inside.none in
    let none = no_blocks size shell.items (sym shell.ok.0 ∙ c.shell.invariant.0) in
    c.first_blocks.ensures.to_sizes (c.move_blocks.ensures.to_sizes size c.self.invariant.4 none)

count : (c : goal.After-result-1) → length c.first_blocks.new.to.items ≡ c.shell.inside.room
count c = omega (arith, c.first_blocks.new.to.ok.0, c.shell.invariant.0)

pub invariant_of-result : goal.invariant_of-result
invariant_of-result c =
    let enough : c.shell.inside.room ≤ vec_len c.self.inside.unused + vec_len c.self.inside.back = rw (← c.self.view_is, ← c.shell.view_is) at c.requires in
    (omega (arith, count c, c.self.invariant.0, c.self.invariant.1), sizes c)

pub returns-clause-buffer : goal.returns-clause-buffer
returns-clause-buffer c =
    let size : ℕ = 2 ^ c.self.inside.each.shift in
    let blocks = c.first_blocks.new.to.items in
    rw (← c.self.view_is, ← c.shell.view_is) (record {
      blocks = count c;
      block_len = refl;
      whole = length-blocks size blocks (sizes c) ∙ ap (λ n. n * size) (count c);
    })
