use Rattle.std.proofs.Common.{◌≡◌, drop}
use Rattle.row_reading.specs.FieldParts.{behind_fields}
use Rattle.row_reading.proofs.keying.behind_fields.Given as goal

abbrev pub invariant-loop-kind : goal.invariant-loop-kind
invariant-loop-kind l = behind_fields l.kinds l.bytes ≡ behind_fields (drop l.kind-index l.kinds) l.rest
