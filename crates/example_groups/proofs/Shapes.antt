-- The shape of a grouping by a text, which counts rows and sums up their numbers.
use Rattle.std.proofs.Common.{ℕ, List, [], ◌∷◌, refl, arith}
use Rattle.std.specs.Prelude.{eqb}
use Rattle.std.specs.List.{IsDistinct}
use Rattle.std.proofs.lemmas.Map.Keys.{IsDistinct-cons}
use Rattle.std.proofs.lemmas.List.Elements.{All-cons, All-nil}
use Rattle.row_codec.specs.declared.values.Agg.TheVariants.{Count, Sum}
use Rattle.row_codec.specs.declared.values.Kind.{Kind}
use Rattle.row_codec.specs.declared.values.Kind.TheVariants.{Int, Text}
use Rattle.store_api.specs.Shapes.{IsKeyColumn, IsOverInts, IsShape}

none_distinct : IsDistinct {K = ℕ} eqb []
unfolding IsDistinct
none_distinct = tt

pub summed_by_text : IsShape (record { kinds = Text ∷ Int ∷ []; keys = 0 ∷ []; aggs = Count ∷ Sum 1 ∷ [] })
summed_by_text =
    let kinds : List Kind = Text ∷ Int ∷ [] in
    record {
      some = omega arith;
      distinct = IsDistinct-cons eqb 0 [] tt none_distinct;
      keys = All-cons (IsKeyColumn kinds) 0 [] (Text, refl, λ same. cc) (All-nil (IsKeyColumn kinds));
      aggs = All-cons (IsOverInts kinds) Count (Sum 1 ∷ []) tt (All-cons (IsOverInts kinds) (Sum 1) [] refl (All-nil (IsOverInts kinds)));
    }
