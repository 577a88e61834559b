-- A client without a dirty page leaves.
use Rattle.client_lists.proofs.Kept.{settles-left}
use Rattle.client_lists.proofs.busy.settle.Goals as goal

pub returns-else-has_dirty : goal.returns-else-has_dirty
returns-else-has_dirty c = rw (c.if-has_dirty.false, c.remove.ensures) (settles-left c.args.busy.now c.args.client)
