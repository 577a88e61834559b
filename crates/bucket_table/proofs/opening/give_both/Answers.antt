use Rattle.store_api.proofs.Growing.{grows_trans}
use Rattle.bucket_table.proofs.Entered.{loans_more}
use Rattle.bucket_table.proofs.Held.{held_back, held_front}
use Rattle.bucket_table.proofs.Lent.{lends_trans}
use Rattle.bucket_table.proofs.opening.give_both.Goals as goal

pub give-requires : goal.give-requires
give-requires g c = (c.requires.0, held_back c.requires.0 c.args.heads.loans c.args.nodes.loans (g.St.Store.holds c.args.store.now) c.requires.1)

pub give-requires-2 : goal.give-requires-2
give-requires-2 g c = (
  c.requires.0,
  held_front c.requires.0 c.args.heads.loans c.args.nodes.loans (g.St.Store.holds c.args.store.now) (g.St.Store.holds c.give.new.store) c.requires.1
      (c.give.ensures.lends c.requires.0 (held_back c.requires.0 c.args.heads.loans c.args.nodes.loans (g.St.Store.holds c.args.store.now) c.requires.1)),
)

pub returns-clause-lends : goal.returns-clause-lends
returns-clause-lends g c = λ t is.
    let heads = c.args.heads.loans in
    let nodes = c.args.nodes.loans in
    let old = g.St.Store.holds c.args.store.now in
    let mid = g.St.Store.holds c.give.new.store in
    let gone = c.give.ensures.lends t (held_back t heads nodes old is) in
    lends_trans t heads nodes (g.St.Store.holds c.give-2.new.store) mid old (c.give-2.ensures.lends t (held_front t heads nodes old mid is gone)) gone

pub returns-clause-grows : goal.returns-clause-grows
returns-clause-grows g c = grows_trans _ _ _ c.give.ensures.grows c.give-2.ensures.grows

pub returns-clause-entries : goal.returns-clause-entries
returns-clause-entries g c = loans_more _ _ _ c.give.ensures.entries c.give-2.ensures.entries
