use Rattle.std.proofs.Common.{◌∙◌, ℕ, List, [], ◌∷◌, sym, subst}
use Rattle.row_codec.specs.declared.values.Agg.{Agg}
use Rattle.row_codec.specs.declared.values.Kind.{Kind}
use Rattle.row_codec.specs.declared.values.Kind.TheVariants.{Text}
use Rattle.store_api.specs.Shapes.{IsShape}
use Rattle.group_op.proofs.Dropping.{counted_texts}
use Rattle.tests_operators.proofs.tests.scans.shape_of.Goals as goal

pub returns : goal.returns
returns c =
    subst (λ (ks : List Kind). IsShape (record { kinds = ks; keys = c.of-2.result; aggs = c.of-3.result })) (sym (c.of.ensures ∙ c.in-Ok.ensures.items))
    (subst (λ (ks : List ℕ). IsShape (record { kinds = Text ∷ []; keys = ks; aggs = c.of-3.result })) (sym (c.of-2.ensures ∙ c.in-Ok-from_slice.ensures.items))
    (subst (λ (gs : List Agg). IsShape (record { kinds = Text ∷ []; keys = 0 ∷ []; aggs = gs })) (sym (c.of-3.ensures ∙ c.in-Ok-from_slice-2.ensures.items)) counted_texts))
