use Rattle.buffer_transfer.proofs.Steps.{opens}
use Rattle.buffer_transfer.proofs.book.BufferBook.with.Goals as goal

pub returns : goal.returns
returns c = opens c.in_ok-rows.rows c.args.buffers c.in_ok-rows.ensures.empty
