-- The shape of a grouping with all that can be computed over a number, for two texts.
use Rattle.std.proofs.Common.{◌≡◌, ◌∙◌, ℕ, List, [], ◌∷◌, ap, length, map, refl, arith}
use Rattle.std.specs.Prelude.{eqb}
use Rattle.std.specs.List.{IsDistinct}
use Rattle.std.proofs.lemmas.Map.Keys.{IsDistinct-cons}
use Rattle.std.proofs.lemmas.List.Elements.{All-cons, All-nil}
use Rattle.row_codec.specs.declared.values.Agg.{Agg}
use Rattle.row_codec.specs.declared.values.Agg.TheVariants.{Count, Max, Min, Sum}
use Rattle.row_codec.specs.declared.values.Kind.{Kind}
use Rattle.row_codec.specs.declared.values.Kind.TheVariants.{Int, Text, Wide}
use Rattle.store_api.specs.declared.shapes.Shape.{Shape}
use Rattle.store_api.specs.Shapes.{IsKeyColumn, IsOverInts, IsShape}
use Rattle.group_op.specs.Stored.{partial_kinds}

none_distinct : IsDistinct {K = ℕ} eqb []
unfolding IsDistinct
none_distinct = tt

pub four_of_texts : IsShape (record { kinds = Text ∷ Text ∷ Int ∷ []; keys = 0 ∷ 1 ∷ []; aggs = Count ∷ Sum 2 ∷ Min 2 ∷ Max 2 ∷ [] })
four_of_texts =
    let kinds : List Kind = Text ∷ Text ∷ Int ∷ [] in
    record {
      some = omega arith;
      distinct = IsDistinct-cons eqb 0 (1 ∷ []) (refl, tt) (IsDistinct-cons eqb 1 [] tt none_distinct);
      keys = All-cons (IsKeyColumn kinds) 0 (1 ∷ []) (Text, refl, λ same. cc) (All-cons (IsKeyColumn kinds) 1 [] (Text, refl, λ same. cc) (All-nil (IsKeyColumn kinds)));
      aggs =
          All-cons (IsOverInts kinds) Count (Sum 2 ∷ Min 2 ∷ Max 2 ∷ []) tt
          (All-cons (IsOverInts kinds) (Sum 2) (Min 2 ∷ Max 2 ∷ []) refl (All-cons (IsOverInts kinds) (Min 2) (Max 2 ∷ []) refl (All-cons (IsOverInts kinds) (Max 2) [] refl (All-nil (IsOverInts kinds)))));
    }

four_wide : (aggs : List Agg) → length aggs ≡ 4 → map (λ (agg : Agg). Wide) aggs ≡ Wide ∷ Wide ∷ Wide ∷ Wide ∷ []
four_wide [] is = absurd (omega (arith, is))
four_wide (a ∷ []) is = absurd (omega (arith, is))
four_wide (a ∷ b ∷ []) is = absurd (omega (arith, is))
four_wide (a ∷ b ∷ c ∷ []) is = absurd (omega (arith, is))
four_wide (a ∷ b ∷ c ∷ d ∷ []) is = refl
four_wide (a ∷ b ∷ c ∷ d ∷ e ∷ aggs) is = absurd (omega (arith, is))

-- the kinds of the partial rows of such a shape
pub four_of_texts_partial : (shape : Shape) → shape.kinds ≡ Text ∷ Text ∷ Int ∷ [] → shape.keys ≡ 0 ∷ 1 ∷ [] → length shape.aggs ≡ 4
    → partial_kinds shape ≡ Text ∷ Text ∷ Wide ∷ Wide ∷ Wide ∷ Wide ∷ []
four_of_texts_partial shape kinds keys aggs =
    ap (λ (ks : List Kind). partial_kinds (record { kinds = ks; keys = shape.keys; aggs = shape.aggs })) kinds
    ∙ ap (λ (ks : List ℕ). partial_kinds (record { kinds = Text ∷ Text ∷ Int ∷ []; keys = ks; aggs = shape.aggs })) keys
    ∙ ap (λ (wide : List Kind). Text ∷ Text ∷ wide) (four_wide shape.aggs aggs)
