use Rattle.std.proofs.Common.{arith}
use Rattle.buffer_transfer.proofs.Steps.{proper}
use Rattle.buffer_transfer.proofs.book.BufferBook.law_proper.Goals as goal

pub returns : goal.returns
returns c =
    proper c.self.inside.rows c.self.inside.room c.args.self.now c.self.view_is c.self.invariant.capacity (omega (arith, c.capacity-capacity.ensures.value, c.capacity-capacity.ensures.holds_all)) (omega (arith, c.capacity-capacity.ensures.value, c.capacity-capacity.ensures.slots))
