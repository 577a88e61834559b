-- The values that a row's bytes say.
use Rattle.std.proofs.Common.{◌≡◌, ℕ, List, ap}
use Rattle.row_codec.specs.declared.values.Kind.{Kind}
use Rattle.row_codec.specs.RowReading.{row_at}
use Rattle.row_reading.specs.Reading as spelled
use Rattle.store_api.specs.declared.shapes.Shape.{Shape}
use Rattle.group_op.specs.Stored.{partial_kinds, values_at, values_read}

pub values_so : (shape : Shape) (kinds : List Kind) (bytes : List ℕ) → kinds ≡ partial_kinds shape → spelled.values_at kinds bytes ≡ values_at shape bytes
unfolding values_at spelled.values_at
values_so shape kinds bytes are = ap (λ (ks : List Kind). values_read (row_at ks bytes)) are
