use Rattle.std.proofs.Common.{◌≡◌, ◌++◌, take}
use Rattle.std.specs.Prelude.{flat_map}
use Rattle.row_codec.specs.RowBytes.{key_part, values_in}
use Rattle.row_codec.proofs.keys.key_bytes.Given as goal

abbrev pub invariant-loop-col : goal.invariant-loop-col
invariant-loop-col l = l.out.items ≡ l.initial.out.items ++ flat_map key_part (values_in (take l.col-index l.cols) l.row)
