use Rattle.pool_questions.proofs.Checked.{seen_maybe}
use Rattle.pool_questions.proofs.pages.entry_of.Goals as goal

pub returns : goal.returns
returns g c = seen_maybe c.args.pool.now c.id_of.result c.args.p.now c.entry_at.result c.id_of.ensures c.entry_at.ensures
