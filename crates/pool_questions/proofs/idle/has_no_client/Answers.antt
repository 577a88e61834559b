use Rattle.std.proofs.Common.{eqb-true}
use Rattle.pool_questions.proofs.CheckedIdle.{childless_told}
use Rattle.pool_questions.proofs.idle.has_no_client.Goals as goal

pub returns-then-is_seat : goal.returns-then-is_seat
returns-then-is_seat g c = λ is. childless_told c.parts-parts.result.now c.args.pool.now c.parts-parts.ensures.parts c.parts-parts.ensures.kept c.args.s c.members.result.now (c.is_seat.ensures.seated c.if-is_seat.true) c.members.ensures (eqb-true _ _ is)
