use Rattle.std.proofs.Common.{◌≡◌, ◌<◌, length, ◌∙◌, ◌++◌, ◌∷◌, [], sym, ap, map, take, append_assoc, rules}
use Rattle.row_codec.specs.declared.values.Kind.TheVariants.{Wide}
use Rattle.group_op.specs.Stored.{key_kinds}
use Rattle.group_op.proofs.KeyReading.{wides_more}
use Rattle.group_op.proofs.stored.kinds_of.Goals as goal

pub loop-agg-preserved : goal.loop-agg-preserved
loop-agg-preserved c =
    let shape = c.args.shape.now in
    let i = c.loop-agg._agg-index in
    let inside : i < length shape.aggs = search rules in
    let pushed : c.push.new.self.items ≡ c.loop-agg.kinds.items ++ (Wide ∷ []) = search rules in
    pushed ∙ ap (λ ks. ks ++ (Wide ∷ [])) c.loop-agg.invariant
    ∙ append_assoc (key_kinds shape) (map (λ agg. Wide) (take i shape.aggs)) (Wide ∷ [])
    ∙ ap (λ ks. key_kinds shape ++ ks) (sym (wides_more shape.aggs i inside))
