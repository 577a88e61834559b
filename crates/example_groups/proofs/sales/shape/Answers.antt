use Rattle.std.proofs.Common.{◌∙◌, ℕ, List, [], ◌∷◌, sym, subst}
use Rattle.row_codec.specs.declared.values.Agg.{Agg}
use Rattle.row_codec.specs.declared.values.Kind.{Kind}
use Rattle.row_codec.specs.declared.values.Kind.TheVariants.{Int, Text}
use Rattle.store_api.specs.Shapes.{IsShape}
use Rattle.example_groups.proofs.Shapes.{summed_by_text}
use Rattle.example_groups.proofs.sales.shape.Goals as goal

pub returns : goal.returns
returns c =
    subst (λ (ks : List Kind). IsShape (record { kinds = ks; keys = c.of-2.result; aggs = c.of-3.result })) (sym (c.of.ensures ∙ c.in_ok-kinds.ensures.items))
    (subst (λ (ks : List ℕ). IsShape (record { kinds = Text ∷ Int ∷ []; keys = ks; aggs = c.of-3.result })) (sym (c.of-2.ensures ∙ c.in_ok-keys.ensures.items))
    (subst (λ (gs : List Agg). IsShape (record { kinds = Text ∷ Int ∷ []; keys = 0 ∷ []; aggs = gs })) (sym (c.of-3.ensures ∙ c.in_ok-aggs.ensures.items)) summed_by_text))
