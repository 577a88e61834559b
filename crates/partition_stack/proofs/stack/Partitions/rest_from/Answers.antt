use Rattle.std.proofs.Common.{refl}
use Rattle.partition_stack.proofs.Stacking.{rested_is_stack}
use Rattle.partition_stack.proofs.stack.Partitions.rest_from.Goals as goal

pub invariant_of-self : goal.invariant_of-self
invariant_of-self g c =
    let went = c.rest_streams.ensures.went in
    rested_is_stack _ c.rest_streams.new.streams.items c.self.invariant went.long (went.sized c.self.inside.page_blocks c.self.invariant.each)

pub returns-clause-went : goal.returns-clause-went
returns-clause-went g c = rw (← c.self.view_is) c.rest_streams.ensures.went

pub returns-clause-ok : goal.returns-clause-ok
returns-clause-ok g c = rw (← c.self.view_is) c.rest_streams.ensures.ok

pub returns-clause-kept : goal.returns-clause-kept
returns-clause-kept g c = rw (← c.self.view_is) refl

pub returns-clause-full : goal.returns-clause-full
returns-clause-full g c = rw (← c.self.view_is) (c.rest_streams.ensures.full c.self.inside.page_blocks c.self.invariant.each)

pub returns-clause-pages : goal.returns-clause-pages
returns-clause-pages g c = rw (← c.self.view_is) c.rest_streams.ensures.pages
