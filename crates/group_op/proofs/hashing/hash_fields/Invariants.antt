use Rattle.std.proofs.Common.{drop}
use Rattle.std.specs.Prelude.{filter_map, slice_get}
use Rattle.group_op.specs.KeyParts.{parts_at}
use Rattle.group_op.specs.Stored.{key_kinds}
use Rattle.group_op.proofs.KeyHashing.{Hashes}
use Rattle.group_op.proofs.hashing.hash_fields.Given as goal

abbrev pub invariant-loop-column : goal.invariant-loop-column
invariant-loop-column l =
    Hashes (parts_at (key_kinds l.shape) l.body) l.hash (parts_at (filter_map (slice_get l.shape.kinds) (drop l.column-index l.shape.keys)) l.rest)
