use Rattle.std.proofs.Common.{◌≡◌, ◌<◌}
use Rattle.crossbeam_queue.specs.Passes.{IsPassOf, IsSamePass, view}
use Rattle.fragments.specs.Running.{EndsAt, GivesOn, Goes, GoesOn, MayRun}
use Rattle.fragments.proofs.reading.put_all.Given as goal

abbrev pub invariant-loop : goal.invariant-loop
invariant-loop g l =
    IsSamePass l.initial.pass l.pass
    × IsPassOf l.queue l.pass
    × ((view l.pass).parts ≡ (view l.initial.pass).parts)
    × (0 < (view l.pass).parts)
    × g.S.Giver.ready l.giver
    × ((x : _) → g.S.Giver.gives l.giver x → g.J.Admits.admits x)
    × GivesOn g.S.Giver.gave l.initial.giver l.giver (view l.initial.pass).put (view l.pass).put
    × MayRun g.J.Admits.admits g.F.Feeder.ready g.F.Feeder.admits l.op l.beside
    × GoesOn g.F.Feeder.took l.initial.op l.initial.beside l.op l.beside (view l.initial.pass) (view l.pass)
    × Goes g.F.Feeder.went l.initial.op l.initial.beside l.op l.beside
    × EndsAt g.S.Giver.went l.initial.giver l.giver
