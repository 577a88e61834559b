use Rattle.std.proofs.Common.{◌≡◌, ◌++◌, ◌∙◌, map, rules}
use Rattle.row_codec.specs.declared.values.Value.TheVariants.{Text}
use Rattle.query_run.specs.Answer.{agg_name}
use Rattle.query_run.specs.Plans.{name_at, row_columns}
use Rattle.query_run.proofs.Whole.{group_names}
use Rattle.query_run.proofs.header.grouped_names.Goals as goal

pub returns : goal.returns
returns c =
    let names : c.push_aggs.new.row.items ≡ map (λ place. Text (name_at (row_columns c.args.plan.now) place)) c.args.plan.now.group ++ map (λ agg. Text (agg_name (row_columns c.args.plan.now) agg)) c.args.plan.now.aggs = search rules in
    names ∙ group_names c.args.plan.now c.requires.groups
