use Rattle.std.proofs.Common.{◌≡◌, drop}
use Rattle.std.specs.Prelude.{filter_map, slice_get}
use Rattle.group_op.specs.KeyParts.{behind_key, parts_at}
use Rattle.group_op.specs.Stored.{key_kinds}
use Rattle.group_op.proofs.keying.push_parts.Given as goal

abbrev pub invariant-loop-column : goal.invariant-loop-column
invariant-loop-column l =
    parts_at (key_kinds l.shape) l.body ≡ behind_key l.key.items (parts_at (filter_map (slice_get l.shape.kinds) (drop l.column-index l.shape.keys)) l.rest)
