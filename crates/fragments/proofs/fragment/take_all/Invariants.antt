use Rattle.std.proofs.Common.{◌≡◌, []}
use Rattle.crossbeam_queue.specs.Passes.{IsPassOf, IsSamePass, view}
use Rattle.fragments.specs.Balance.{tally}
use Rattle.fragments.specs.Running.{IsOn, MayRun}
use Rattle.fragments.proofs.fragment.take_all.Given as goal

abbrev pub invariant-loop : goal.invariant-loop
invariant-loop g l =
    IsSamePass l.initial.pass l.pass
    × IsPassOf l.queue l.pass
    × (view l.pass ≡ tally 1 [] (view l.pass).taken)
    × MayRun g.J.Admits.admits g.F.Feeder.ready g.F.Feeder.admits l.op l.beside
    × IsOn g.F.Feeder.took g.F.Feeder.went l.fn.op l.fn.beside l.op l.beside (view l.pass).taken
