use Rattle.std.proofs.Common.{Some}
use Rattle.store_api.proofs.Pieces.{changed}
use Rattle.store_api.proofs.mem_store.pieces.come.Goals as goal

pub returns-clause-changed : goal.returns-clause-changed
returns-clause-changed c = changed c.args.pieces.now c.insert_reserved.new.self c.insert_reserved.result (Some c.args.piece) c.insert_reserved.ensures.updates
