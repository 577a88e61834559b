use Rattle.std.proofs.Common.{◌≡◌}
use Rattle.crossbeam_queue.specs.Passes.{IsPassOf, IsSamePass, view}
use Rattle.fragments.specs.Running.{GoesOn, Goes, MayRun}
use Rattle.fragments.proofs.reading.give.Given as goal

abbrev pub invariant-loop : goal.invariant-loop
invariant-loop g l =
    IsSamePass l.initial.pass l.pass
    × IsPassOf l.queue l.pass
    × ((view l.pass).parts ≡ (view l.initial.pass).parts)
    × ((view l.pass).put ≡ (view l.initial.pass).put)
    × (l.item ≡ l.initial.item)
    × MayRun g.J.Admits.admits g.F.Feeder.ready g.F.Feeder.admits l.op l.beside
    × GoesOn g.F.Feeder.took l.initial.op l.initial.beside l.op l.beside (view l.initial.pass) (view l.pass)
    × Goes g.F.Feeder.went l.initial.op l.initial.beside l.op l.beside
