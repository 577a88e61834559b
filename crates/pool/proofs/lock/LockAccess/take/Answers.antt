use Rattle.pool.specs.Items.{sight_in}
use Rattle.pool.proofs.Locked.{taken, taken_named, turns_at}
use Rattle.pool.proofs.lock.LockAccess.take.Goals as goal

pub returns-clause-turns : goal.returns-clause-turns
returns-clause-turns g c = record {
  origin = c.requires.origin;
  outset = c.requires.outset;
  turns =
      turns_at g.D.Slot g.T.Opened.opening g.T.Opened.outset.told g.T.Opened.first c.args.self.now.turns.now c.args.session c.args.place.now c.take_hand.new.place c.take_hand.result c.requires.rests c.take_hand.ensures.takes
      c.take_hand.ensures.table;
}

pub returns-clause-taken : goal.returns-clause-taken
returns-clause-taken g c =
    taken_named g.D.Slot g.T.Opened.opening g.O.Opened.opening g.O.Opened.outset g.T.Opened.outset.told c.args.session (sight_in g.T.Opened.first c.args.place.now.knows.seen) (sight_in g.T.Opened.first c.take_hand.new.place.knows.seen) c.take_hand.result
    c.requires.origin c.requires.outset
    (taken g.D.Slot g.T.Opened.opening g.T.Opened.outset.told g.T.Opened.first c.args.self.now.turns.now c.args.session c.args.place.now c.take_hand.new.place c.take_hand.result c.requires.rests c.take_hand.ensures.takes)
