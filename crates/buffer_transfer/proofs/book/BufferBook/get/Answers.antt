use Rattle.std.proofs.Common.{◌∙◌}
use Rattle.buffer_transfer.proofs.Steps.{shown}
use Rattle.buffer_transfer.proofs.book.BufferBook.get.Goals as goal

pub returns : goal.returns
returns c = c.copied.ensures ∙ c.get.ensures ∙ shown c.self.inside.rows c.self.inside.room c.args.self.now c.self.view_is c.args.id
