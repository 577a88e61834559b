use Rattle.std.proofs.Common.{refl}
use Rattle.pin_core.proofs.Turned.{known_told}
use Rattle.pool_questions.proofs.clients.can_hold.Goals as goal

pub has_room-requires-clause-client : goal.has_room-requires-clause-client
has_room-requires-clause-client g c = (known_told c.parts-parts.result.now c.args.pool.now c.args.s c.number.result c.args.t c.args.t c.parts-parts.ensures.parts c.number.ensures refl c.parts-parts.ensures.kept c.parts-parts.ensures.laws (c.is_client_of.ensures c.if-is_client_of.true)).client
