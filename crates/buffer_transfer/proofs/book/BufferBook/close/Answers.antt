use Rattle.buffer_transfer.proofs.Steps.{row_there, went}
use Rattle.buffer_transfer.proofs.book.BufferBook.close.Goals as goal

pub remove-requires : goal.remove-requires
remove-requires c = row_there c.self.inside.rows c.self.inside.room c.args.self.now c.self.view_is c.args.id c.requires

pub returns : goal.returns
returns c = went c.self.inside.rows c.self.inside.room c.args.self.now c.self.view_is c.remove.new.self c.args.id c.remove.ensures.updates
