use Rattle.std.proofs.Common.{ap, ◌∙◌, arith, length}
use Rattle.std.specs.List.{sum_by}
use Rattle.buffer_transfer.specs.Buffers.{blocks_for}
use Rattle.buffer_transfer.proofs.Steps.{counted, whole}
use Rattle.buffer_transfer.proofs.book.BufferBook.held.Goals as goal

pub loop-lent-init : goal.loop-lent-init
loop-lent-init c =
    let left = c.into_iter-lent-iterator.ensures.into_iter_gives ∙ c.iter-lent-items.ensures.rest in
    let sum = ap (sum_by (λ e. blocks_for c.args.client e.1)) left ∙ whole c.self.inside.rows c.self.inside.room c.args.self.now c.self.view_is c.args.client in
    let size = ap length c.into_iter-lent-iterator.ensures.into_iter_gives ∙ c.iter-lent-items.ensures.len ∙ counted c.self.inside.rows c.self.inside.room c.args.self.now c.self.view_is in
    let room = ap (λ b. b.room) c.self.view_is in (
      tt,
      tt,
      omega (arith, sum),
      omega (arith, size, room, c.law_proper.ensures.few, c.self.invariant.short),
    )
