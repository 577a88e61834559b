use Rattle.pin_core.proofs.Holding.{holder_covered, gone_needed}
use Rattle.pin_core.proofs.Allocs.{alloc_is}
use Rattle.pin_core.proofs.pool.PoolState.alloc_now.Goals as goal

pub make_room-requires-clause-covered : goal.make_room-requires-clause-covered
make_room-requires-clause-covered g c = holder_covered c.self.inside.parts c.args.self.now c.args.c.now c.room.result c.args.shell c.self.view_is c.room.ensures c.self.invariant c.laws.ensures c.requires.can

pub lend-requires : goal.lend-requires
lend-requires g c = record {
  ready = (alloc_is c.self.inside.parts c.args.self.now c.args.c.now c.tracker.result c.room.result c.args.shell c.self.view_is c.tracker.ensures c.room.ensures c.self.invariant c.laws.ensures c.requires.can).ready c.make_room.new.self c.make_room.ensures.parts c.make_room.ensures.enough;
}

pub invariant_of-self : goal.invariant_of-self
invariant_of-self g c =
    ((alloc_is c.self.inside.parts c.args.self.now c.args.c.now c.tracker.result c.room.result c.args.shell c.self.view_is c.tracker.ensures c.room.ensures c.self.invariant c.laws.ensures c.requires.can).ends c.make_room.new.self c.make_room.ensures.parts c.make_room.ensures.enough
    c.lend.result.number c.lend.ensures.fresh c.lend.new.self c.lend.ensures.parts).kept

pub returns-clause-enters : goal.returns-clause-enters
returns-clause-enters g c =
    ((alloc_is c.self.inside.parts c.args.self.now c.args.c.now c.tracker.result c.room.result c.args.shell c.self.view_is c.tracker.ensures c.room.ensures c.self.invariant c.laws.ensures c.requires.can).ends c.make_room.new.self c.make_room.ensures.parts c.make_room.ensures.enough
    c.lend.result.number c.lend.ensures.fresh c.lend.new.self c.lend.ensures.parts).enters g.D.Slot

pub returns-clause-fresh : goal.returns-clause-fresh
returns-clause-fresh g c =
    ((alloc_is c.self.inside.parts c.args.self.now c.args.c.now c.tracker.result c.room.result c.args.shell c.self.view_is c.tracker.ensures c.room.ensures c.self.invariant c.laws.ensures c.requires.can).ends c.make_room.new.self c.make_room.ensures.parts c.make_room.ensures.enough
    c.lend.result.number c.lend.ensures.fresh c.lend.new.self c.lend.ensures.parts).fresh

pub returns-clause-loan : goal.returns-clause-loan
returns-clause-loan g c =
    (alloc_is c.self.inside.parts c.args.self.now c.args.c.now c.tracker.result c.room.result c.args.shell c.self.view_is c.tracker.ensures c.room.ensures c.self.invariant c.laws.ensures c.requires.can).zeroed c.make_room.new.self c.make_room.ensures.parts c.lend.result.number c.lend.result c.lend.ensures.loan

pub returns-clause-goes : goal.returns-clause-goes
returns-clause-goes g c = gone_needed c.self.inside.parts c.args.self.now c.self.view_is c.self.invariant c.laws.ensures c.room.result c.args.shell c.room.ensures c.make_room.new.self c.make_room.ensures.parts c.make_room.ensures.enough
