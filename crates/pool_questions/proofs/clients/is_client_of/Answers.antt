use Rattle.std.proofs.Common.{sym, ◌∙◌}
use Rattle.pool_questions.proofs.CheckedClients.{client_told}
use Rattle.pool_questions.proofs.clients.is_client_of.Goals as goal

pub returns-then-is_seated : goal.returns-then-is_seated
returns-then-is_seated g c = λ is. client_told c.parts-parts.result.now c.args.pool.now c.parts-parts.ensures.parts c.parts-parts.ensures.kept c.args.s c.number.result c.args.t c.members.result.now c.number.ensures c.members.ensures (sym c.has.ensures ∙ is)
