use Rattle.pool_questions.proofs.CheckedIdle.{vacant_told}
use Rattle.pool_questions.proofs.idle.has_no_session.Goals as goal

pub returns : goal.returns
returns g c = λ is. vacant_told c.parts-parts.result.now c.args.pool.now c.parts-parts.ensures.parts (c.are_vacant.ensures is)
