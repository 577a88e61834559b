-- A key grows by one column at a time.
use Rattle.std.proofs.Common.{◌≡◌, ℕ, ◌+◌, ◌<◌, List, [], ◌∷◌, ◌++◌, length, take, get_or, append-nil}
use Rattle.std.specs.Prelude.{flat_map, slice_get, Some}
use Rattle.std.proofs.lemmas.List.{take_more}
use Rattle.std.proofs.lemmas.List.Elements.{filter_map-append}
use Rattle.std.proofs.lemmas.List.Concat.{flat_map-append}
use Rattle.row_codec.specs.declared.values.Value.{Value}
use Rattle.row_codec.specs.RowBytes.{key_part, values_in}

-- one column more
pub key_more : (columns : List ℕ) (row : List Value) (i : ℕ) (v : Value) → i < length columns → slice_get row (get_or columns i 0) ≡ Some v → flat_map key_part (values_in (take (i + 1) columns) row) ≡ flat_map key_part (values_in (take i columns) row) ++ key_part v
key_more columns row i v below is =
    rw (take_more columns i 0 below, filter_map-append (slice_get row) (take i columns) (get_or columns i 0 ∷ []), is, flat_map-append key_part (values_in (take i columns) row) (v ∷ []), append-nil)
