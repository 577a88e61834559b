use Rattle.std.proofs.Common.{◌≡◌, ◌+◌, ◌≤◌, ◌++◌, length, take, vec_len, vec_capacity}
use Rattle.std.specs.Prelude.{All, flat_map}
use Rattle.row_codec.specs.Row.{IsValue}
use Rattle.row_codec.specs.RowBytes.{field_bytes}
use Rattle.row_codec.proofs.spelling.encode_row.Given as goal

abbrev pub invariant-loop-value : goal.invariant-loop-value
invariant-loop-value l =
    (l.out.items ≡ l.initial.out.items ++ flat_map field_bytes (take l.value-index l.row))
    × (vec_len l.out ≡ vec_len l.initial.out + length (flat_map field_bytes (take l.value-index l.row)))
    × (vec_len l.initial.out + length (flat_map field_bytes l.row) ≤ vec_capacity l.out)
    × All IsValue (take l.value-index l.row)
