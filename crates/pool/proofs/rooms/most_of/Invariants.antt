use Rattle.std.proofs.Common.{take}
use Rattle.pool.specs.Admitting.{AreFew}
use Rattle.pool.proofs.rooms.most_of.Given as goal

abbrev pub invariant-loop-ask : goal.invariant-loop-ask
invariant-loop-ask l = AreFew l.most (take l.ask-index l.asks)
