use Rattle.std.proofs.Common.{◌≡◌, ◌<◌, length, ◌∙◌, ◌++◌, ◌∷◌, [], sym, ap, get_or, rules}
use Rattle.std.specs.Prelude.{filter_map, slice_get}
use Rattle.group_op.proofs.KeyReading.{kinds_more}
use Rattle.group_op.proofs.stored.key_kinds.Goals as goal

pub loop-column-preserved : goal.loop-column-preserved
loop-column-preserved c =
    let kinds = c.args.shape.now.kinds in
    let keys = c.args.shape.now.keys in
    let inside : c.loop-column.column-index < length keys = search rules in
    let more = kinds_more kinds keys c.loop-column.column-index 0 inside in
    let pushed : c.push_kind.new.out.items ≡ c.loop-column.kinds.items ++ filter_map (slice_get kinds) (get_or keys c.loop-column.column-index 0 ∷ []) = search rules in
    pushed ∙ ap (λ ks. ks ++ filter_map (slice_get kinds) (get_or keys c.loop-column.column-index 0 ∷ [])) c.loop-column.invariant ∙ sym more
