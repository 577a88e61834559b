use Rattle.std.proofs.Common.{◌≡◌, take}
use Rattle.row_codec.specs.RowBytes.{key_bytes}
use Rattle.row_reading.specs.Reading.{values_at}
use Rattle.row_reading.proofs.keying.key_into.Given as goal

abbrev pub invariant-loop-column : goal.invariant-loop-column
invariant-loop-column l = l.key.items ≡ key_bytes (take l.column-index l.columns) (values_at l.kinds l.row)
