-- What goes is clean.
use Rattle.clean_evict.specs.Eviction.{fewest}
use Rattle.clean_evict.proofs.Others.{others-kept}
use Rattle.clean_evict.proofs.list.CleanList.acquire.Goals as goal

pub returns-clause-others : goal.returns-clause-others
returns-clause-others g c =
    let count = fewest c.room.result c.args.arena.now c.args.pages.now c.args.self.now.keys in
    others-kept count c.args.self.now.keys c.args.arena.now c.args.pages.now c.make_room.new.pages c.requires.clean c.make_room.ensures.pages
