use Rattle.buffer_transfer.proofs.Steps.{row_there, moves}
use Rattle.buffer_transfer.proofs.book.BufferBook.move_to.Goals as goal

pub index_mut-requires : goal.index_mut-requires
index_mut-requires c = row_there c.self.inside.rows c.self.inside.room c.args.self.now c.self.view_is c.args.id c.requires

pub returns : goal.returns
returns c = moves c.self.inside.rows c.self.inside.room c.args.self.now c.self.view_is c.args.id c.args.client c.index_mut.result.now c.index_mut.ensures.value
