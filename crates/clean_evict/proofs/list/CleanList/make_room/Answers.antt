-- Each page that goes is needed, and no more go than there are names to be told.
use Rattle.std.proofs.Common.{◌+◌, refl, arith}
use Rattle.clean_evict.proofs.Freed.{freed-none, freed-more, freed-all, more-needed, one-less}
use Rattle.clean_evict.proofs.list.CleanList.make_room.Goals as goal

pub loop-self-init : goal.loop-self-init
loop-self-init g c = (
  0,
  freed-none c.args.wanted c.args.self.now c.args.arena.now c.args.pages.now c.args.evicted.now.items c.requires.clean,
  omega arith,
  refl,
)

pub evict_oldest-requires-clause-clean : goal.evict_oldest-requires-clause-clean
evict_oldest-requires-clause-clean g c = c.loop-self.invariant.1.gone.clean

pub evict_oldest-requires-clause-some : goal.evict_oldest-requires-clause-some
evict_oldest-requires-clause-some g c =
    let freed = c.loop-self.invariant.1 in
    (more-needed freed (omega (arith, c.loop-self-test.true, c.free.ensures.value)) c.requires.covered).0

pub evict_oldest-requires-clause-room : goal.evict_oldest-requires-clause-room
evict_oldest-requires-clause-room g c =
    let freed = c.loop-self.invariant.1 in
    let more = (more-needed freed (omega (arith, c.loop-self-test.true, c.free.ensures.value)) c.requires.covered).1 in
    omega (arith, more, c.loop-self.invariant.2, c.loop-self.invariant.3, c.requires.room)

pub loop-self-smaller : goal.loop-self-smaller
loop-self-smaller g c =
    let freed = c.loop-self.invariant.1 in
    let some = (more-needed freed (omega (arith, c.loop-self-test.true, c.free.ensures.value)) c.requires.covered).0 in
    one-less c.evict_oldest.ensures.evicts some

pub loop-self-preserved : goal.loop-self-preserved
loop-self-preserved g c =
    let freed = c.loop-self.invariant.1 in (
      c.loop-self.invariant.0 + 1,
      freed-more freed (omega (arith, c.loop-self-test.true, c.free.ensures.value)) c.requires.covered c.evict_oldest.ensures.evicts,
      omega (arith, c.evict_oldest.ensures.len, c.loop-self.invariant.2),
      omega (arith, c.evict_oldest.ensures.capacity, c.loop-self.invariant.3),
    )

pub returns-clause-list : goal.returns-clause-list
returns-clause-list g c = (freed-all c.loop-self.invariant.1 (omega (arith, c.loop-self-test.false, c.free.ensures.value))).list_left

pub returns-clause-told : goal.returns-clause-told
returns-clause-told g c = (freed-all c.loop-self.invariant.1 (omega (arith, c.loop-self-test.false, c.free.ensures.value))).named

pub returns-clause-pages : goal.returns-clause-pages
returns-clause-pages g c = (freed-all c.loop-self.invariant.1 (omega (arith, c.loop-self-test.false, c.free.ensures.value))).evicted

pub returns-clause-arena : goal.returns-clause-arena
returns-clause-arena g c = (freed-all c.loop-self.invariant.1 (omega (arith, c.loop-self-test.false, c.free.ensures.value))).freed

pub returns-clause-clean : goal.returns-clause-clean
returns-clause-clean g c = (freed-all c.loop-self.invariant.1 (omega (arith, c.loop-self-test.false, c.free.ensures.value))).clean
