use Rattle.std.proofs.Common.{◌≡◌, ◌≢◌, ◌++◌, Some, None, refl, rules}
use Rattle.toml.specs.View.{table_view}
use Rattle.query_plan.specs.declared.error.PlanErr.TheVariants.{Memory}
use Rattle.query_plan.specs.Drafts.{query_in}
use Rattle.query_plan.specs.Faults.{table_fault}
use Rattle.query_plan.specs.Keys.{file_rows, number_rows, query_rows, shape_rows}
use Rattle.query_plan.proofs.InParts.{table_told, told_behind, told_here}
use Rattle.query_plan.proofs.queries.read_keys.Goals as goal

pub returns-in_err-numbers-clause-tells : goal.returns-in_err-numbers-clause-tells
returns-in_err-numbers-clause-tells c =
    let first : c.in_err-numbers.field-0.0 ≢ Memory → table_fault query_rows c.args.section.now.path.now (table_view c.args.section.now.table.now) ≡ Some c.in_err-numbers.field-0.0 =
    λ other. table_told query_rows c.args.section.now.path.now (table_view c.args.section.now.table.now) _ c.in_ok-known_keys.ensures.clears
    (told_here number_rows (file_rows ++ shape_rows) c.args.section.now.path.now (table_view c.args.section.now.table.now) _ (c.in_err-numbers.ensures.tells other)) in
    search rules

pub returns-in_err-sides-clause-tells : goal.returns-in_err-sides-clause-tells
returns-in_err-sides-clause-tells c =
    let first : c.in_err-sides.field-0.0 ≢ Memory → table_fault query_rows c.args.section.now.path.now (table_view c.args.section.now.table.now) ≡ Some c.in_err-sides.field-0.0 =
    λ other. table_told query_rows c.args.section.now.path.now (table_view c.args.section.now.table.now) _ c.in_ok-known_keys.ensures.clears
    (told_behind number_rows (file_rows ++ shape_rows) c.args.section.now.path.now (table_view c.args.section.now.table.now) _ c.in_ok-numbers.ensures.clears
    (told_here file_rows shape_rows c.args.section.now.path.now (table_view c.args.section.now.table.now) _ (c.in_err-sides.ensures.tells other))) in
    search rules

pub returns-in_err-shape-clause-tells : goal.returns-in_err-shape-clause-tells
returns-in_err-shape-clause-tells c =
    let first : c.in_err-shape.field-0.0 ≢ Memory → table_fault query_rows c.args.section.now.path.now (table_view c.args.section.now.table.now) ≡ Some c.in_err-shape.field-0.0 =
    λ other. table_told query_rows c.args.section.now.path.now (table_view c.args.section.now.table.now) _ c.in_ok-known_keys.ensures.clears
    (told_behind number_rows (file_rows ++ shape_rows) c.args.section.now.path.now (table_view c.args.section.now.table.now) _ c.in_ok-numbers.ensures.clears
    (told_behind file_rows shape_rows c.args.section.now.path.now (table_view c.args.section.now.table.now) _ c.in_ok-sides.ensures.clears (c.in_err-shape.ensures.tells other))) in
    search rules

pub returns-clause-clears : goal.returns-clause-clears
returns-clause-clears c = table_told query_rows c.args.section.now.path.now (table_view c.args.section.now.table.now) None c.in_ok-known_keys.ensures.clears
    (told_behind number_rows (file_rows ++ shape_rows) c.args.section.now.path.now (table_view c.args.section.now.table.now) None c.in_ok-numbers.ensures.clears
    (told_behind file_rows shape_rows c.args.section.now.path.now (table_view c.args.section.now.table.now) None c.in_ok-sides.ensures.clears c.in_ok-shape.ensures.clears))

pub returns-clause-made : goal.returns-clause-made
unfolding query_in
returns-clause-made c =
    rw (
      c.in_ok-numbers.ensures.page_blocks,
      c.in_ok-numbers.ensures.limit,
      c.in_ok-numbers.ensures.quota,
      c.in_ok-sides.ensures.output,
      c.in_ok-sides.ensures.left,
      c.in_ok-sides.ensures.right,
      c.in_ok-shape.ensures.on,
      c.in_ok-shape.ensures.group,
      c.in_ok-shape.ensures.aggs,
      c.in_ok-shape.ensures.fragments,
    ) refl
