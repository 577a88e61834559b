use Rattle.pool_model.proofs.Kept.{legal_finds_room}
use Rattle.pool_model.proofs.laws.law_room.Goals as goal

pub returns-clause-room : goal.returns-clause-room
returns-clause-room c = legal_finds_room
