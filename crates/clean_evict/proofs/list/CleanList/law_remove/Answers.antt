-- The others stay clean.
use Rattle.clean_evict.proofs.Kept.{clean-without}
use Rattle.clean_evict.proofs.list.CleanList.law_remove.Goals as goal

pub returns : goal.returns
returns g c = clean-without c.args.arena.now c.args.pages.now c.args.self.now.keys c.args.node c.requires
