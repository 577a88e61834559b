use Rattle.pool_questions.proofs.Checked.{known_maybe}
use Rattle.pool_questions.proofs.pages.entry_at.Goals as goal

pub returns : goal.returns
returns g c = known_maybe c.parts-parts.result.now c.args.pool.now c.parts-parts.ensures.parts c.parts-parts.ensures.laws c.args.id c.get.result c.get.ensures.value
