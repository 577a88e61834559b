use Rattle.std.proofs.Common.{◌≡◌}
use Rattle.crossbeam_queue.specs.Passes.{IsPassOf, IsSamePass, view}
use Rattle.fragments.specs.Running.{Goes, MayRun, TakesOn}
use Rattle.fragments.proofs.reading.take_rest.Given as goal

abbrev pub invariant-loop : goal.invariant-loop
invariant-loop g l =
    IsSamePass l.initial.pass l.pass
    × IsPassOf l.queue l.pass
    × ((view l.pass).parts ≡ 1024)
    × ((view l.pass).put ≡ (view l.initial.pass).put)
    × MayRun g.J.Admits.admits g.F.Feeder.ready g.F.Feeder.admits l.op l.beside
    × TakesOn g.F.Feeder.took l.initial.op l.initial.beside l.op l.beside (view l.initial.pass).taken (view l.pass).taken
    × Goes g.F.Feeder.went l.initial.op l.initial.beside l.op l.beside
