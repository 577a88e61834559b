use Rattle.std.proofs.Common.{◌≡◌, take}
use Rattle.std.specs.Prelude.{filter_map, slice_get}
use Rattle.group_op.proofs.stored.key_kinds.Given as goal

abbrev pub invariant-loop-column : goal.invariant-loop-column
invariant-loop-column l = l.kinds.items ≡ filter_map (slice_get l.shape.kinds) (take l.column-index l.shape.keys)
