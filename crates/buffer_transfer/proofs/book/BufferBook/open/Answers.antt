use Rattle.std.proofs.Common.{arith, ap, sym, ◌∙◌}
use Rattle.buffer_transfer.proofs.Steps.{counted, shown, came}
use Rattle.buffer_transfer.proofs.book.BufferBook.open.Goals as goal

pub insert_reserved-requires : goal.insert_reserved-requires
insert_reserved-requires c =
    let size = counted c.self.inside.rows c.self.inside.room c.args.self.now c.self.view_is in
    let room = ap (λ b. b.room) c.self.view_is in
    omega (arith, size, room, c.requires, c.self.invariant.capacity)

pub returns-clause-vacant : goal.returns-clause-vacant
returns-clause-vacant c = sym (shown c.self.inside.rows c.self.inside.room c.args.self.now c.self.view_is c.insert_reserved.result) ∙ c.insert_reserved.ensures.was_vacant

pub returns-clause-book : goal.returns-clause-book
returns-clause-book c =
    came c.self.inside.rows c.self.inside.room c.args.self.now c.self.view_is c.insert_reserved.new.self c.insert_reserved.result (record { client = c.args.client; blocks = c.args.blocks }) c.insert_reserved.ensures.updates
