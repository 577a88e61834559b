use Rattle.std.proofs.Common.{◌≡◌, ◌∙◌, refl, arith, ◌+◌, ◌-◌, length}
use Rattle.std.specs.Int.{w128, to_be_bytes}
use Rattle.block_arena.proofs.Copies.{put_is_written}
use Rattle.group_op.proofs.lowest.set_wide_at.Goals as goal

pub returns : goal.returns
returns c =
    let sixteen : length (to_be_bytes w128 c.args.value) ≡ 16 = refl in
    put_is_written c.args.row.now c.args.row.now (to_be_bytes w128 c.args.value) c.copy_from_slice.new.self c.args.at (c.args.at + 16 - c.args.at) refl (c.copy_from_slice.ensures.after ∙ c.to_be_bytes.ensures) (omega (arith, sixteen))
