-- Which shapes operators take. Columns count from 0.
use Rattle.std.specs.Prelude.{◌≡◌, ◌≢◌, ℕ, ◌<◌, List, length, All, eqb, slice_get, Some, ⊤}
use Rattle.std.specs.List.{IsDistinct}
use Rattle.row_codec.specs.declared.values.Kind.{Kind}
use Rattle.row_codec.specs.declared.values.Kind.TheVariants.{Int, Wide}
use Rattle.row_codec.specs.declared.values.Agg.{Agg}
use Rattle.row_codec.specs.declared.values.Agg.TheVariants.{Count, Sum, Min, Max}
use Rattle.store_api.specs.declared.shapes.Shape.{Shape}
use Rattle.store_api.specs.declared.shapes.JoinShape.{JoinShape}

-- the column is there, and may be part of a key
abbrev pub IsKeyColumn : List Kind → ℕ → Type 0
IsKeyColumn kinds column = (kind : Kind) × (slice_get kinds column ≡ Some kind) × (kind ≢ Wide)

abbrev pub IsIntColumn : List Kind → ℕ → Type 0
IsIntColumn kinds column = slice_get kinds column ≡ Some Int

-- what is computed is over an int column
abbrev pub IsOverInts : List Kind → Agg → Type 0
IsOverInts kinds Count = ⊤
IsOverInts kinds (Sum column) = IsIntColumn kinds column
IsOverInts kinds (Min column) = IsIntColumn kinds column
IsOverInts kinds (Max column) = IsIntColumn kinds column

-- there is a key, and its columns are distinct
pub record IsShape (shape : Shape) : Type 0 where
  pub some : 0 < length shape.keys
  pub distinct : IsDistinct eqb shape.keys
  pub keys : All (IsKeyColumn shape.kinds) shape.keys
  pub aggs : All (IsOverInts shape.kinds) shape.aggs

-- both sides have columns, and those that are to be equal are there
pub record IsJoinShape (shape : JoinShape) : Type 0 where
  pub left : 0 < length shape.left
  pub right : 0 < length shape.right
  pub on : All (λ pair. IsKeyColumn shape.left pair.0 × IsKeyColumn shape.right pair.1) shape.on
