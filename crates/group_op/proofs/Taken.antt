-- Bytes of a partial row, and the rows for which it stands.
use Rattle.std.proofs.Common.{◌≡◌, ◌∙◌, ℕ, ◌+◌, ◌*◌, ◌<◌, ◌≤◌, ◌^◌, List, [], ◌∷◌, length, map, ap, sym, subst, arith, append-nil, length-append}
use Rattle.std.specs.Prelude.{All, flat_map}
use Rattle.std.specs.Int.{w32, to_be_bytes}
use Rattle.std.proofs.lemmas.List.{length-map}
use Rattle.store_api.specs.Shapes.{IsShape}
use Rattle.row_codec.specs.declared.values.Kind.TheVariants.{Wide}
use Rattle.group_op.proofs.Heads.{full_keys}
use Rattle.std.proofs.lemmas.List.Elements.{All-cons, All-nil}
use Rattle.std.proofs.lemmas.List.Sums.{sum_by-cons}
use Rattle.row_codec.specs.declared.values.Value.{Value}
use Rattle.row_codec.specs.Order.{path_order}
use Rattle.row_codec.specs.Row.{IsValue, kind_of, kinds_of}
use Rattle.row_codec.specs.RowBytes.{field_bytes, row_bytes}
use Rattle.row_codec.specs.RowLaws.{IsRow, RowBack}
use Rattle.row_codec.specs.RowReading.{row_at}
use Rattle.store_api.specs.declared.shapes.Shape.{Shape}
use Rattle.group_rows.specs.Combining.{AreValues}
use Rattle.group_rows.specs.Partials.{Partial, combined_by, partial_of}
use Rattle.group_rows.specs.Rows.{partial_in}
use Rattle.group_rows.proofs.Giving.{gives}
use Rattle.group_rows.proofs.Paths.{path_is_order}
use Rattle.group_op.specs.Feeding.{IsPartOf, Spells, StandsFor}
use Rattle.group_op.specs.Operator.{bytes_for}
use Rattle.group_op.specs.Stored.{IsPartialRow, grouping_of, key_kinds, partial_at, partial_kinds, values_at, values_read}

-- the own partial row of a row stands for it alone
pub spells_own : (shape : Shape) (row : List Value) (bytes : List ℕ) → All IsValue row → partial_at shape bytes ≡ partial_of (grouping_of shape) row
    → length bytes ≤ length (row_bytes row) + 16 * length shape.aggs → Spells shape bytes (row ∷ [])
spells_own shape row bytes good says light =
    let alone : AreValues (row ∷ []) = All-cons (λ r. All IsValue r) row [] good (All-nil (λ r. All IsValue r)) in
    let one : bytes_for shape (row ∷ []) ≡ length (row_bytes row) + 16 * length shape.aggs + 0 = sum_by-cons (λ (r : List Value). length (row_bytes r) + 16 * length shape.aggs) row [] in
    record {
      values = alone;
      stands = ap (λ (p : Partial). combined_by path_order (grouping_of shape) (p ∷ [])) says ∙ gives path_order path_is_order (grouping_of shape) (row ∷ []) alone;
      light = omega (arith, light, one);
    }

-- a partial row can be spelled
pub is_taken : (shape : Shape) (row : List Value) → IsShape shape → kinds_of row ≡ partial_kinds shape → length (row_bytes row) < 2 ^ 32 → All IsValue row → IsRow row
unfolding row_bytes
is_taken shape row is kinds short good =
    let long : length row ≡ length (partial_kinds shape) = sym (length-map row kind_of) ∙ ap length kinds in
    let both = length-append (key_kinds shape) (map (λ agg. Wide) shape.aggs) in
    let full = full_keys shape is in
    let one = is.some in
    let bytes = length-append (to_be_bytes w32 (length (flat_map field_bytes row))) (flat_map field_bytes row) in
    record { some = omega (arith, long, both, full, one); values = good; fits = omega (arith, bytes, short) }

module _ (back : RowBack) (shape : Shape) (row : List Value) (is : IsRow row) (kinds : kinds_of row ≡ partial_kinds shape) where
  -- what is read where a partial row is spelled is that row
  read : values_at shape (row_bytes row) ≡ row
  unfolding values_at
  read =
      ap (λ ks. values_read (row_at ks (row_bytes row))) (sym kinds)
      ∙ ap (λ (bytes : List ℕ). values_read (row_at (kinds_of row) bytes)) (sym (append-nil (row_bytes row))) ∙ ap values_read (back row [] is)

  pub taken_formed : IsPartialRow shape (row_bytes row)
  taken_formed = record { is_row = subst IsRow (sym read) is; kinds_are = ap kinds_of read ∙ kinds; spelled = ap row_bytes read }

  pub taken_spells : (more : List (List Value)) → IsPartOf shape row more → Spells shape (row_bytes row) more
  unfolding partial_at
  taken_spells more part = subst (λ (p : Partial). StandsFor shape more p (length (row_bytes row))) (ap (partial_in (grouping_of shape)) (sym read)) part
