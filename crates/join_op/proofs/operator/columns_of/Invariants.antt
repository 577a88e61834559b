use Rattle.std.proofs.Common.{◌≡◌, map}
use Rattle.std.specs.Prelude.{take}
use Rattle.join_op.proofs.operator.columns_of.Given as goal

abbrev pub invariant-loop-pair : goal.invariant-loop-pair
invariant-loop-pair l = (l.left.items ≡ map (λ pair. pair.0) (take l.pair-index l.on)) × (l.right.items ≡ map (λ pair. pair.1) (take l.pair-index l.on))
