use Rattle.std.proofs.Common.{sym, subst}
use Rattle.join_op.specs.Chunks.{AreColumns}
use Rattle.join_op.specs.Stored.{Side}
use Rattle.join_op.proofs.ChunkRounds.{held_straight, held_turned, left_are, read_straight, read_turned, right_are}
use Rattle.join_op.proofs.meeting.columns_by.Goals as goal

pub returns-then-turned-clause-read : goal.returns-then-turned-clause-read
returns-then-turned-clause-read c = subst (λ (side : Side). AreColumns side c.in_ok-left.right.items) (sym (read_turned c.args.turned c.args.shape.now c.if-turned.true)) (right_are c.args.shape.now c.as_slice.result.now _ c.as_slice.ensures c.requires c.in_ok-left.ensures.right)

pub returns-then-turned-clause-held : goal.returns-then-turned-clause-held
returns-then-turned-clause-held c = subst (λ (side : Side). AreColumns side c.in_ok-left.left.items) (sym (held_turned c.args.turned c.args.shape.now c.if-turned.true)) (left_are c.args.shape.now c.as_slice.result.now _ c.as_slice.ensures c.requires c.in_ok-left.ensures.left)

pub returns-clause-read : goal.returns-clause-read
returns-clause-read c = subst (λ (side : Side). AreColumns side c.in_ok-left.left.items) (sym (read_straight c.args.turned c.args.shape.now c.if-turned.false)) (left_are c.args.shape.now c.as_slice.result.now _ c.as_slice.ensures c.requires c.in_ok-left.ensures.left)

pub returns-clause-held : goal.returns-clause-held
returns-clause-held c = subst (λ (side : Side). AreColumns side c.in_ok-left.right.items) (sym (held_straight c.args.turned c.args.shape.now c.if-turned.false)) (right_are c.args.shape.now c.as_slice.result.now _ c.as_slice.ensures c.requires c.in_ok-left.ensures.right)
