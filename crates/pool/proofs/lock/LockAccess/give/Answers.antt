use Rattle.pool.specs.Items.{sight_in}
use Rattle.pool.proofs.Locked.{gives, may_named, rests_at, seen_at}
use Rattle.pool.proofs.lock.LockAccess.give.Goals as goal

pub give_hand-requires-clause-gives : goal.give_hand-requires-clause-gives
give_hand-requires-clause-gives g c =
    gives g.D.Slot g.T.Opened.opening g.T.Opened.outset.told g.T.Opened.first c.args.self.now.turns.now c.args.place.now c.args.hand c.requires.turns.turns
    (may_named g.D.Slot g.T.Opened.opening g.O.Opened.opening g.O.Opened.outset g.T.Opened.outset.told (sight_in g.T.Opened.first c.args.place.now.knows.seen) c.args.hand c.requires.turns.origin c.requires.turns.outset c.requires.may)

pub returns-clause-rests : goal.returns-clause-rests
returns-clause-rests g c = record {
  origin = c.requires.turns.origin;
  outset = c.requires.turns.outset;
  rests =
      rests_at g.D.Slot g.T.Opened.opening g.T.Opened.outset.told g.T.Opened.first c.args.self.now.turns.now c.args.place.now c.args.hand c.requires.turns.turns
      (may_named g.D.Slot g.T.Opened.opening g.O.Opened.opening g.O.Opened.outset g.T.Opened.outset.told (sight_in g.T.Opened.first c.args.place.now.knows.seen) c.args.hand c.requires.turns.origin c.requires.turns.outset c.requires.may)
      c.give_hand.new.place c.give_hand.ensures.grown c.give_hand.ensures.table;
}

pub returns-clause-seen : goal.returns-clause-seen
returns-clause-seen g c =
    seen_at g.D.Slot g.T.Opened.opening g.T.Opened.outset.told g.T.Opened.first c.args.self.now.turns.now c.args.place.now c.args.hand c.requires.turns.turns
    (may_named g.D.Slot g.T.Opened.opening g.O.Opened.opening g.O.Opened.outset g.T.Opened.outset.told (sight_in g.T.Opened.first c.args.place.now.knows.seen) c.args.hand c.requires.turns.origin c.requires.turns.outset c.requires.may)
    c.give_hand.new.place c.give_hand.ensures.grown
