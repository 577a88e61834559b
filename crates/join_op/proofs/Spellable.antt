-- A row of a side may be spelled, with the key of the side's columns.
use Rattle.std.proofs.Common.{◌≡◌, ◌≢◌, ◌∙◌, ℕ, ◌<◌, ◌≤◌, List, length, Some, ap, sym, arith}
use Rattle.std.specs.Prelude.{All, slice_get}
use Rattle.std.proofs.lemmas.List.Elements.{All-map, All-weaker}
use Rattle.std.proofs.lemmas.List.{length-map}
use Rattle.std.proofs.lemmas.Option.{same_Some, slice_get_within}
use Rattle.row_codec.specs.declared.values.Kind.{Kind}
use Rattle.row_codec.specs.declared.values.Kind.TheVariants.{Wide}
use Rattle.row_codec.specs.declared.values.Value.{Value}
use Rattle.row_codec.specs.Row.{kind_of, kinds_of}
use Rattle.row_codec.specs.RowBytes.{row_bytes}
use Rattle.store_api.specs.Shapes.{IsJoinShape, IsKeyColumn}
use Rattle.store_api.specs.declared.shapes.JoinShape.{JoinShape}
use Rattle.join_op.specs.Beside.{IsSpellable}
use Rattle.join_op.specs.Stored.{left_side, right_side}

pub spellable : (kinds : List Kind) (columns : List ℕ) (most : ℕ) (row : List Value) → 0 < length kinds → All (IsKeyColumn kinds) columns → kinds_of row ≡ kinds → length (row_bytes row) ≤ most → IsSpellable columns most row
spellable kinds columns most row some keyed same short =
    let long : length (kinds_of row) ≡ length row = length-map row kind_of in
    let alike : length (kinds_of row) ≡ length kinds = ap length same in
    record {
      some = omega (arith, some, long, alike);
      short = short;
      inside = All-weaker (IsKeyColumn kinds) (λ column. column < length row) (λ column (kind, there, narrow). let inside = slice_get_within kinds column kind there in omega (arith, inside, long, alike)) columns keyed;
      keyed = All-weaker (IsKeyColumn kinds) (λ column. slice_get (kinds_of row) column ≢ Some Wide) (λ column (kind, there, narrow) wide. narrow (same_Some kind Wide (sym there ∙ ap (λ (ks : List Kind). slice_get ks column) (sym same) ∙ wide))) columns keyed;
    }

pub left_keyed : (shape : JoinShape) → IsJoinShape shape → All (IsKeyColumn shape.left) (left_side shape).columns
left_keyed shape is = All-map (IsKeyColumn shape.left) (λ pair. pair.0) shape.on (All-weaker (λ pair. IsKeyColumn shape.left pair.0 × IsKeyColumn shape.right pair.1) (λ pair. IsKeyColumn shape.left pair.0) (λ pair both. both.0) shape.on is.on)

pub right_keyed : (shape : JoinShape) → IsJoinShape shape → All (IsKeyColumn shape.right) (right_side shape).columns
right_keyed shape is = All-map (IsKeyColumn shape.right) (λ pair. pair.1) shape.on (All-weaker (λ pair. IsKeyColumn shape.left pair.0 × IsKeyColumn shape.right pair.1) (λ pair. IsKeyColumn shape.right pair.1) (λ pair both. both.1) shape.on is.on)
