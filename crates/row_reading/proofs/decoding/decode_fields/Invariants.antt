use Rattle.std.proofs.Common.{◌≡◌, ◌++◌, drop}
use Rattle.std.specs.Prelude.{option_map}
use Rattle.row_codec.specs.RowReading.{fields_in}
use Rattle.row_reading.proofs.decoding.decode_fields.Given as goal

abbrev pub invariant-loop-kind : goal.invariant-loop-kind
invariant-loop-kind l =
    fields_in l.kinds l.bytes ≡ option_map (λ more. l.values.items ++ more) (fields_in (drop l.kind-index l.kinds) l.rest)
