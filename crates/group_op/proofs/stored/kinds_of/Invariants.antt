use Rattle.std.proofs.Common.{◌≡◌, ◌++◌, map, take}
use Rattle.row_codec.specs.declared.values.Kind.TheVariants.{Wide}
use Rattle.group_op.specs.Stored.{key_kinds}
use Rattle.group_op.proofs.stored.kinds_of.Given as goal

abbrev pub invariant-loop-agg : goal.invariant-loop-agg
invariant-loop-agg l = l.kinds.items ≡ key_kinds l.shape ++ map (λ agg. Wide) (take l._agg-index l.shape.aggs)
