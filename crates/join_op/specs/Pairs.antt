-- What a join answers, over lists of rows alone: each left row with each right row of its key.
use Rattle.std.specs.Prelude.{◌≡◌, ℕ, List, ◌++◌, filter, flat_map, map}
use Rattle.std.specs.List.{sum_by}
use Rattle.std.specs.Str.{bytes_eq}
use Rattle.row_codec.specs.declared.values.Value.{Value}
use Rattle.row_codec.specs.RowBytes.{key_bytes}
use Rattle.store_api.specs.declared.shapes.JoinShape.{JoinShape}

-- the key of a left row, and that of a right row
abbrev pub left_key : JoinShape → List Value → List ℕ
left_key shape row = key_bytes (map (λ pair. pair.0) shape.on) row

abbrev pub right_key : JoinShape → List Value → List ℕ
right_key shape row = key_bytes (map (λ pair. pair.1) shape.on) row

-- the right rows that have the key of a left row
abbrev pub partners : JoinShape → List (List Value) → List Value → List (List Value)
partners shape rights l = filter (λ r. bytes_eq (left_key shape l) (right_key shape r)) rights

-- all pairs, the left values before the right ones
abbrev pub pairs_of : JoinShape → List (List Value) → List (List Value) → List (List Value)
pairs_of shape lefts rights = flat_map (λ l. map (λ r. l ++ r) (partners shape rights l)) lefts

-- the same rows, each as often, in any order: whatever a row counts, they count the same together
abbrev pub SameRows : List (List Value) → List (List Value) → Type 0
SameRows xs ys = (count : List Value → ℕ) → sum_by count xs ≡ sum_by count ys
