-- Each page that goes stands on the list, and is needed.
use Rattle.clean_evict.proofs.Fewest.{fewest-le-length, fewest-le-wanted}
use Rattle.clean_evict.proofs.list.CleanList.law_fewest.Goals as goal

pub returns-clause-most : goal.returns-clause-most
returns-clause-most g c = fewest-le-length c.args.wanted c.args.arena.now c.args.pages.now c.args.self.now.keys

pub returns-clause-each : goal.returns-clause-each
returns-clause-each g c = fewest-le-wanted c.args.wanted c.args.arena.now c.args.pages.now c.args.self.now.keys
