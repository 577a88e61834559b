use Rattle.local_pool.specs.Shelving.{sees}
use Rattle.local_pool.proofs.Shelved.{all_seen, laid_down}
use Rattle.local_pool.proofs.sole.SoleAccess.give.Goals as goal

pub returns-clause-rests : goal.returns-clause-rests
returns-clause-rests g c = laid_down g.D.Slot g.O.Opened.opening g.O.Opened.outset.told c.args.place.now c.args.hand c.requires.may (sees c.see.new.self) c.see.ensures.seen c.see.ensures.counted c.requires.turns

pub returns-clause-seen : goal.returns-clause-seen
returns-clause-seen g c = all_seen g.D.Slot g.O.Opened.opening g.O.Opened.outset.told c.args.place.now c.args.hand c.requires.may (sees c.see.new.self) c.see.ensures.seen c.see.ensures.counted
