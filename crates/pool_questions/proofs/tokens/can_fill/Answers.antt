use Rattle.std.proofs.Common.{refl, arith}
use Rattle.pin_core.specs.StateOf.{state_of}
use Rattle.pool_questions.proofs.CheckedClients.{filled_told}
use Rattle.pool_questions.proofs.tokens.can_fill.Goals as goal

pub returns-then-is_client : goal.returns-then-is_client
returns-then-is_client g c = λ is. filled_told (state_of c.args.pool.now) c.args.c.now c.args.shell.now c.room-blocks.result c.length.result c.room-blocks.ensures c.if-blocks-eq0.false
    (let few = c.if-blocks-gt256.false in omega (arith, few)) c.length.ensures (c.if-is_client.ensures refl) (c.has_room.ensures is)
