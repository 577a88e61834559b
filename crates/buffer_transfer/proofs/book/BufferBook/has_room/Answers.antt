use Rattle.std.proofs.Common.{ap, ◌∙◌, arith, ltb-true, lt-ltb}
use Rattle.buffer_transfer.proofs.Steps.{counted}
use Rattle.buffer_transfer.proofs.book.BufferBook.has_room.Goals as goal

pub returns : goal.returns
returns c =
    let size = c.len.ensures ∙ counted c.self.inside.rows c.self.inside.room c.args.self.now c.self.view_is in
    let room = ap (λ b. b.room) c.self.view_is in (
      λ less. omega (arith, size, room, ltb-true _ _ less),
      λ has. lt-ltb _ _ (omega (arith, size, room, has)),
    )
