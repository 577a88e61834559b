use Rattle.pool_questions.proofs.CheckedIdle.{idle_told}
use Rattle.pool_questions.proofs.idle.has_nothing.Goals as goal

pub returns-then-used-eq0 : goal.returns-then-used-eq0
returns-then-used-eq0 g c = λ is. idle_told c.parts-parts.result.now c.args.pool.now c.parts-parts.ensures.parts c.parts-parts.ensures.kept c.args.client c.of.result c.used.result c.of.ensures c.used.ensures c.if-used-eq0.true (c.has_no_page.ensures is)
