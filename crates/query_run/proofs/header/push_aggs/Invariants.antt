use Rattle.std.proofs.Common.{◌≡◌, ◌++◌, map, take}
use Rattle.row_codec.specs.declared.values.Value.TheVariants.{Text}
use Rattle.query_run.specs.Answer.{agg_name}
use Rattle.query_run.proofs.header.push_aggs.Given as goal

abbrev pub invariant-loop-agg : goal.invariant-loop-agg
invariant-loop-agg l = l.row.items ≡ l.initial.row.items ++ map (λ agg. Text (agg_name l.columns agg)) (take l.agg-index l.aggs)
