use Rattle.std.proofs.Common.{None}
use Rattle.store_api.proofs.Pieces.{changed}
use Rattle.store_api.proofs.mem_store.pieces.go.Goals as goal

pub returns-clause-changed : goal.returns-clause-changed
returns-clause-changed c = changed c.args.pieces.now c.remove.new.self c.args.key None c.remove.ensures.updates
